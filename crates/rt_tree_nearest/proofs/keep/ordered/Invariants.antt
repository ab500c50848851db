use Rattle.std.proofs.Common.{◌≡◌, map, take}
use Rattle.rt_tree_nearest.specs.Candidates.{own_row}
use Rattle.rt_tree_nearest.proofs.keep.ordered.Given as goal

abbrev pub invariant-loop-at : goal.invariant-loop-at
invariant-loop-at g l = l.rows.items ≡ map own_row (take l.at l.candidates.items)
