use Rattle.std.proofs.Common.{◌≡◌, ◌-◌, ◌++◌, drop, map}
use Rattle.rt_tree_join.specs.Due.{subtree_of}
use Rattle.rt_tree_join.specs.Itself.{later_due}
use Rattle.rt_tree_join.proofs.itself.open_within.Given as goal

-- what came so far and what the later children give are all
abbrev pub invariant-loop-at : goal.invariant-loop-at
invariant-loop-at g l = record {
  nodes : l.nodes.items ++ map (subtree_of (l.node.level - 1)) (drop l.at l.node.cells) ≡ l.initial.nodes.items ++ map (subtree_of (l.node.level - 1)) l.node.cells;
  due : l.due.items ++ later_due (l.node.level - 1) (drop l.at l.node.cells) ≡ l.initial.due.items ++ later_due (l.node.level - 1) l.node.cells;
}
