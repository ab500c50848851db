use Rattle.std.proofs.Common.{◌∙◌}
use Rattle.rt_table_plan.proofs.Ids.{deletes}
use Rattle.rt_table_plan.proofs.delete.plan_delete.Goals as goal

pub returns : goal.returns
returns g c =
    deletes g.row.D c.args.schema.now c.args.store.now.rows c.args.cond c.in_ok-condition.condition c.from_steps.result c.in_ok-condition.ensures
    (c.from_steps.ensures ∙ c.in_ok-picked_steps.ensures)
