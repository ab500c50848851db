use Rattle.std.proofs.Common.{◌≡◌, true}
use Rattle.std.specs.Prelude.{int_le}
use Rattle.rt_check.specs.Conditions.{each_axis, coordinate}
use Rattle.rt_check.proofs.conditions.are_at_most.Given as goal

-- on the axes so far each coordinate is at most the other
abbrev pub invariant-loop-axis : goal.invariant-loop-axis
invariant-loop-axis g l = each_axis (λ axis. int_le (coordinate l.low axis) (coordinate l.high axis)) l.axis ≡ true
