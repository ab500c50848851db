use Rattle.std.proofs.Common.{vec_len}
use Rattle.rt_tree_remove.specs.Steps.{Places}
use Rattle.rt_tree_remove.proofs.place.place_pending.Given as goal

abbrev pub invariant-loop-tree : goal.invariant-loop-tree
invariant-loop-tree g l = Places l.initial.tree l.tree

abbrev pub decreases-loop-tree : goal.decreases-loop-tree
decreases-loop-tree g l = vec_len l.tree.pending
