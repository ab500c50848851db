use Rattle.std.proofs.Common.{ℕ, ◌<◌, get_or}
use Rattle.std.specs.Prelude.{◌<ℤ◌}
use Rattle.rt_box.specs.declared.interval.Interval.{Interval}
use Rattle.rt_tree_remove.proofs.condense.lies_inside.Given as goal

abbrev pub invariant-loop-axis : goal.invariant-loop-axis
invariant-loop-axis g l = (i : ℕ) → i < l.axis → (d e : Interval) →
    ((get_or l.outer i d).lo <ℤ (get_or l.inner i e).lo) × ((get_or l.inner i e).hi <ℤ (get_or l.outer i d).hi)
