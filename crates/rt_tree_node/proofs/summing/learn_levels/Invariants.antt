use Rattle.rt_tree_node.specs.Sums.{AddUpBelow}
use Rattle.rt_tree_node.proofs.summing.learn_levels.Given as goal

abbrev pub invariant-loop-level : goal.invariant-loop-level
invariant-loop-level g l = AddUpBelow l.slab l.sums.items l.level
