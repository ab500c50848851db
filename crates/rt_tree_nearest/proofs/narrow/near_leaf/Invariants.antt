use Rattle.std.specs.Prelude.{◌≡◌, Some}
use Rattle.rt_tree_node.specs.Places.{level_at}
use Rattle.rt_tree_nearest.proofs.narrow.near_leaf.Given as goal

abbrev pub invariant-loop-height : goal.invariant-loop-height
invariant-loop-height g l = level_at l.tree.nodes l.key ≡ Some l.height

abbrev pub decreases-loop-height : goal.decreases-loop-height
decreases-loop-height g l = l.height
