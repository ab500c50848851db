use Rattle.std.proofs.Common.{take}
use Rattle.rt_tree_node.specs.Places.{picked}
use Rattle.rt_tree_place.specs.Steps.{Rehouses}
use Rattle.rt_tree_place.proofs.split.rehouse.Given as goal

abbrev pub invariant-loop-at : goal.invariant-loop-at
invariant-loop-at g l = Rehouses l.fn.leaves l.leaves l.leaf (picked l.from.cells (take l.at-index l.positions))
