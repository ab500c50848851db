use Rattle.std.proofs.Common.{take}
use Rattle.rt_tree_node.specs.Places.{picked}
use Rattle.rt_tree_place.specs.Steps.{Adopts}
use Rattle.rt_tree_place.proofs.split.adopt.Given as goal

abbrev pub invariant-loop-at : goal.invariant-loop-at
invariant-loop-at g l = Adopts l.fn.nodes l.nodes l.key (picked l.from.cells (take l.at-index l.positions))
