use Rattle.std.proofs.Common.{◌-◌, unwrap_or}
use Rattle.rt_tree_node.specs.Places.{level_at}
use Rattle.rt_tree_remove.specs.Steps.{IsFitting}
use Rattle.rt_tree_remove.proofs.fit.fit_above.Given as goal

abbrev pub invariant-loop-parent : goal.invariant-loop-parent
invariant-loop-parent g l = IsFitting l.initial.tree l.tree l.fn.leaf l.key

abbrev pub decreases-loop-parent : goal.decreases-loop-parent
decreases-loop-parent g l = l.tree.level - unwrap_or (level_at l.tree.nodes l.key) 0
