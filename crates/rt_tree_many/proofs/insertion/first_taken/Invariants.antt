use Rattle.rt_tree_many.proofs.Claimed.{AreClaimed}
use Rattle.rt_tree_many.proofs.insertion.first_taken.Given as goal

abbrev pub invariant-loop-at : goal.invariant-loop-at
invariant-loop-at g l = AreClaimed l.tree.lists l.rows l.claimed.keys l.at
