use Rattle.std.proofs.Common.{◌≡◌, take}
use Rattle.rt_tree_outside.proofs.seen.have_same_cells.Given as goal

abbrev pub invariant-loop-at : goal.invariant-loop-at
invariant-loop-at g l = take l.at l.cells ≡ take l.at l.others
