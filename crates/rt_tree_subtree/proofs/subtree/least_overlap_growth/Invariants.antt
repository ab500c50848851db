use Rattle.rt_tree_subtree.proofs.Children.{IsLeastSoFar}
use Rattle.rt_tree_subtree.proofs.subtree.least_overlap_growth.Given as goal

abbrev pub invariant-loop-position : goal.invariant-loop-position
invariant-loop-position g l = IsLeastSoFar l.boxes l.new_box l.start l.position l.best l.least
