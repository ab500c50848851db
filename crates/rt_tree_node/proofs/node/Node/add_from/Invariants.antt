use Rattle.std.proofs.Common.{◌≡◌, ◌++◌, take}
use Rattle.rt_tree_node.specs.Places.{picked}
use Rattle.rt_tree_node.proofs.node.Node.add_from.Given as goal

abbrev pub invariant-loop-at : goal.invariant-loop-at
invariant-loop-at g l = l.self ≡ record l.fn.self { cells = l.fn.self.cells ++ picked l.fn.from.cells (take l.at-index l.positions) }
