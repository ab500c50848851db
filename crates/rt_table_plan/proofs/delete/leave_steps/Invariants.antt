use Rattle.std.proofs.Common.{◌≡◌, map, take}
use Rattle.rt_table_row.specs.Edits.{Leaves}
use Rattle.rt_table_row.specs.Entries.{step_of}
use Rattle.rt_tree_walk.specs.declared.searching.Row.{Row}
use Rattle.rt_table_plan.proofs.delete.leave_steps.Given as goal

abbrev pub invariant-loop-row : goal.invariant-loop-row
invariant-loop-row g l = map step_of l.steps.items ≡ map (λ (row : Row g.row.D). Leaves row.id) (take l.row-index l.rows)
