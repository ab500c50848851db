use Rattle.std.proofs.Common.{◌≡◌}
use Rattle.rt_box.specs.Keys.{IsLeast}
use Rattle.rt_tree_subtree.specs.Costs.{numbers, costs}
use Rattle.rt_box.proofs.Keys.{ranked}
use Rattle.rt_tree_subtree.proofs.subtree.least_cost.Given as goal

abbrev pub invariant-loop-position : goal.invariant-loop-position
invariant-loop-position g l = record {
  cost_is : numbers l.least ≡ costs l.above_leaves l.boxes l.new_box l.best;
  least_so_far : IsLeast (ranked (costs l.above_leaves l.boxes l.new_box)) 0 l.position l.best;
}
