use Rattle.std.proofs.Common.{◌≡◌, ◌<◌, ◌^◌, drop}
use Rattle.rt_sql.specs.Number.{decimal, decimal_from}
use Rattle.rt_sql.proofs.number.magnitude.Given as goal

abbrev pub invariant-loop-digit : goal.invariant-loop-digit
invariant-loop-digit l = (l.number < 2 ^ 64) × (decimal_from l.number (drop l.digit-index l.digit-items) ≡ decimal l.fn.digits)
