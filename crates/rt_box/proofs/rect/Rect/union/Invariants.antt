use Rattle.std.proofs.Common.{◌≡◌, ℕ, ◌<◌, ◌≤◌, length, get_or}
use Rattle.rt_box.specs.declared.interval.Interval.{Interval}
use Rattle.rt_box.specs.Interval.{cover}
use Rattle.rt_box.proofs.rect.Rect.union.Given as goal

abbrev pub invariant-loop-axis : goal.invariant-loop-axis
invariant-loop-axis g l = record {
  long : length l.sides ≡ g.row.D;
  done : (i : ℕ) → i < l.axis → (d : Interval) → get_or l.sides i d ≡ cover (get_or l.self i d) (get_or l.other i d);
  rest : (i : ℕ) → l.axis ≤ i → (d : Interval) → get_or l.sides i d ≡ get_or l.self i d;
}
