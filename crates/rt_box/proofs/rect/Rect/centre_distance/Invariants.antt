use Rattle.std.proofs.Common.{◌≡◌, ◌*◌, ◌^◌, ◌≤◌, take, zip, sum_by}
use Rattle.rt_box.specs.declared.interval.Interval.{Interval}
use Rattle.rt_box.specs.Interval.{apart}
use Rattle.rt_box.proofs.rect.Rect.centre_distance.Given as goal

abbrev pub invariant-loop-axis : goal.invariant-loop-axis
invariant-loop-axis g l = record {
  value : l.distance ≡ sum_by (λ (p : Interval × Interval). apart p.0 p.1) (take l.axis (zip l.self l.other));
  bound : l.distance ≤ l.axis * 2 ^ 66;
}
