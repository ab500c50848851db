use Rattle.rt_tree_node.specs.Sums.{Misses}
use Rattle.rt_tree_node.proofs.summing.carry.Given as goal

abbrev pub invariant-loop : goal.invariant-loop
invariant-loop g l = Misses l.slab l.sums.items l.stale l.change
