use Rattle.std.proofs.Common.{length}
use Rattle.rt_tree_walk.proofs.Due.{IsListing, due}
use Rattle.rt_tree_outside.proofs.preorder.preorder.Given as goal

abbrev pub invariant-loop-key : goal.invariant-loop-key
invariant-loop-key g l = IsListing l.tree l.order.items l.keys.items

abbrev pub decreases-loop-key : goal.decreases-loop-key
decreases-loop-key g l = length (due l.tree.nodes l.keys.items)
