use Rattle.std.proofs.Common.{ℕ, ◌<◌, List, get_or}
use Rattle.rt_box.specs.declared.interval.Interval.{Interval}
use Rattle.rt_box.specs.Rect.{area}
use Rattle.rt_tree_subtree.proofs.holder.are_solid.Given as goal

abbrev pub invariant-loop-cell : goal.invariant-loop-cell
invariant-loop-cell g l = (k : ℕ) (d : List Interval) → k < l.cell-index → 0 < area (get_or l.boxes k d)
