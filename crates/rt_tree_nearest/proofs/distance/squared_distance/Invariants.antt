use Rattle.std.proofs.Common.{◌≡◌, ◌*◌, ◌^◌, ◌≤◌, take, zip, sum_by}
use Rattle.rt_box.specs.declared.interval.Interval.{Interval}
use Rattle.rt_tree_nearest.specs.Nearest.{squared_gap_between}
use Rattle.rt_tree_nearest.proofs.distance.squared_distance.Given as goal

abbrev pub invariant-loop-axis : goal.invariant-loop-axis
invariant-loop-axis g l = record {
  value : l.distance ≡ sum_by (λ (p : Interval × Interval). squared_gap_between p.0 p.1) (take l.axis (zip l.one l.other));
  bound : l.distance ≤ l.axis * 2 ^ 64;
}
