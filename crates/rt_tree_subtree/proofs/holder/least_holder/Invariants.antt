use Rattle.rt_tree_subtree.proofs.Holders.{IsHolderSoFar}
use Rattle.rt_tree_subtree.proofs.holder.least_holder.Given as goal

abbrev pub invariant-loop-rest : goal.invariant-loop-rest
invariant-loop-rest g l = IsHolderSoFar l.boxes l.new_box l.rest l.least l.best

abbrev pub decreases-loop-rest : goal.decreases-loop-rest
decreases-loop-rest g l = l.rest
