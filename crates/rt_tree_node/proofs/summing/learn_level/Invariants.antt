use Rattle.std.proofs.Common.{◌≡◌, ℕ, ◌<◌, Some}
use Rattle.slab.specs.Slab.{get}
use Rattle.rt_tree_node.specs.Node.{NodeCells}
use Rattle.rt_tree_node.specs.Sums.{sum_at, total, AddUpBelow}
use Rattle.rt_tree_node.proofs.summing.learn_level.Given as goal

-- the sums of the level are right below the index
abbrev pub invariant-loop-index : goal.invariant-loop-index
invariant-loop-index g l = record {
  lower : AddUpBelow l.slab l.sums.items l.level;
  done : (key : ℕ) (n : NodeCells g.row.D) → key < l.index → get l.slab key ≡ Some n → n.level ≡ l.level → sum_at l.sums.items key ≡ total l.sums.items n;
}
