use Rattle.std.proofs.Common.{◌≡◌}
use Rattle.rt_box.specs.Keys.{IsLeast}
use Rattle.rt_tree_subtree.specs.Costs.{growth_numbers, growths}
use Rattle.rt_box.proofs.Keys.{ranked}
use Rattle.rt_tree_subtree.proofs.plane.least_growth.Given as goal

abbrev pub invariant-loop-position : goal.invariant-loop-position
invariant-loop-position g l = record {
  growth_is : growth_numbers l.least ≡ growths l.boxes l.new_box l.best;
  least_so_far : IsLeast (ranked (growths l.boxes l.new_box)) 0 l.position l.best;
}
