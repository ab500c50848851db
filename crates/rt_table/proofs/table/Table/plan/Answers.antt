use Rattle.std.proofs.Common.{IfOk, subst}
use Rattle.rt_table_row.specs.Edits.{steps_of}
use Rattle.rt_table.specs.Held.{Held}
use Rattle.rt_table_step.specs.Steps.{ApplyTo}
use Rattle.rt_table_step.proofs.StepLaws.{steps_apply}
use Rattle.rt_table.proofs.Planned.{planned}
use Rattle.rt_table.proofs.table.Table.plan.Goals as goal

pub returns-clause-applies : goal.returns-clause-applies
returns-clause-applies g c =
    let rows = c.self.inside.store.rows in
    let wanted = steps_of c.args.edit c.self.inside.columns rows in
    let applies : IfOk wanted (ApplyTo c.self.inside.columns rows) = steps_apply c.self.inside.columns rows c.self.invariant.rising c.args.edit in
    subst (λ (h : Held g.row.D). IfOk c.new.result (ApplyTo h.lists.columns h.lists.rows)) c.self.view_is (planned (ApplyTo c.self.inside.columns rows) wanted c.new.result c.new.ensures applies)
