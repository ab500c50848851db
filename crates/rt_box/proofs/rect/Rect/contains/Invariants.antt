use Rattle.std.proofs.Common.{ℕ, ◌<◌, get_or}
use Rattle.std.specs.Prelude.{◌↔◌, IsTrue}
use Rattle.rt_box.specs.declared.interval.Interval.{Interval}
use Rattle.rt_box.specs.Interval.{Covers}
use Rattle.rt_box.proofs.rect.Rect.contains.Given as goal

abbrev pub invariant-loop-axis : goal.invariant-loop-axis
invariant-loop-axis g l = IsTrue l.inside ↔ ((i : ℕ) → i < l.axis → (d e : Interval) → Covers (get_or l.self i d) (get_or l.inner i e))
