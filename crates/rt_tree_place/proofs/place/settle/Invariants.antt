use Rattle.std.proofs.Common.{◌+◌, ◌-◌, ◌*◌, vec_len}
use Rattle.rt_tree_place.proofs.Turns.{Progress}
use Rattle.rt_tree_place.proofs.place.settle.Given as goal

abbrev pub invariant-loop-tree : goal.invariant-loop-tree
invariant-loop-tree g l = Progress l.initial.tree l.tree l.base l.marks l.work

abbrev pub decreases-loop-tree : goal.decreases-loop-tree
decreases-loop-tree g l = vec_len l.tree.pending + 16 * (32 - l.marks)
