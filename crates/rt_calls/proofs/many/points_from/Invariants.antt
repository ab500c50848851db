use Rattle.std.proofs.Common.{◌≡◌}
use Rattle.rt_calls.specs.Numbers.{pieces}
use Rattle.rt_calls.proofs.many.points_from.Given as goal

abbrev pub invariant-loop-place : goal.invariant-loop-place
invariant-loop-place g l = l.points.items ≡ pieces g.row.D l.place l.numbers
