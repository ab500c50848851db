use Rattle.std.proofs.Common.{◌≡◌, ◌++◌, take, map}
use Rattle.slab.specs.Slab.{get}
use Rattle.rt_tree_outside.specs.Outside.{noted, node_row}
use Rattle.rt_tree_outside.proofs.outside.list_nodes.Given as goal

abbrev pub invariant-loop-key : goal.invariant-loop-key
invariant-loop-key g l =
    l.shadow ≡ record l.fn.shadow { nodes = l.fn.shadow.nodes ++ map (λ key. node_row (noted l.numbers) key (get l.tree.nodes key)) (take l.key-index l.order) }
