use Rattle.std.proofs.Common.{◌≡◌, ◌≤◌, false, length, Contains}
use Rattle.rt_tree_node.specs.Sums.{AddUp}
use Rattle.rt_tree_node.proofs.nodes.Nodes.learn.Given as goal

abbrev pub invariant-loop-key : goal.invariant-loop-key
invariant-loop-key g l = record {
  few : g.row.D ≤ 3;
  slab : l.self-inside.slab ≡ l.fn.self;
  known : l.self-inside.is_lost ≡ false;
  sums : AddUp l.self-inside.slab l.self-inside.sums.items (Contains l.self-inside.stale.items);
}

abbrev pub decreases-loop-key : goal.decreases-loop-key
decreases-loop-key g l = length l.self-inside.stale.items
