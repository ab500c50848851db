use Rattle.std.proofs.Common.{◌≡◌, List, map, IfOk, subst, ◌∙◌}
use Rattle.rt_table_row.specs.Edits.{Leaves}
use Rattle.rt_table_row.specs.Entries.{step_of}
use Rattle.rt_tree_walk.specs.declared.searching.Row.{Row}
use Rattle.rt_table_plan.proofs.delete.picked_steps.Goals as goal

pub returns : goal.returns
returns g c =
    subst (λ (rows : List (Row g.row.D)). IfOk c.leave_steps.result (λ steps. map step_of steps.items ≡ map (λ (row : Row g.row.D). Leaves row.id) rows))
    (c.as_slice.ensures.value ∙ c.in_ok-found.ensures.rows) c.leave_steps.ensures
