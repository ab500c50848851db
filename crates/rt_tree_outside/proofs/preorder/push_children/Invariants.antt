use Rattle.std.proofs.Common.{◌≡◌, ◌++◌, take, map, reverse}
use Rattle.rt_tree_node.specs.Places.{key_of}
use Rattle.rt_tree_outside.proofs.preorder.push_children.Given as goal

abbrev pub invariant-loop-back : goal.invariant-loop-back
invariant-loop-back g l = l.keys.items ≡ l.fn.keys.items ++ take l.back (reverse (map key_of l.node.cells))
