use Rattle.std.proofs.Common.{◌-◌, unwrap_or}
use Rattle.rt_tree_node.specs.Places.{level_at}
use Rattle.rt_tree_place.specs.Rise.{ClimbsTo, HasRisen}
use Rattle.rt_tree_place.proofs.rise.rise.Given as goal

abbrev pub invariant-loop-parent : goal.invariant-loop-parent
invariant-loop-parent g l = record {
  risen : HasRisen l.initial.tree l.tree l.fn.from l.key l.initial.marks l.marks l.initial.work l.work;
  steps : ClimbsTo l.initial.tree l.fn.from l.initial.marks l.tree l.key l.marks;
}

abbrev pub decreases-loop-parent : goal.decreases-loop-parent
decreases-loop-parent g l = l.tree.level - unwrap_or (level_at l.tree.nodes l.key) 0
