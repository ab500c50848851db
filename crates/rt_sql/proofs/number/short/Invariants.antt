use Rattle.std.proofs.Common.{◌≡◌, ◌+◌, ◌≤◌, ◌*◌, ◌^◌, drop}
use Rattle.rt_sql.specs.Number.{decimal, decimal_from}
use Rattle.rt_sql.proofs.number.short.Given as goal

-- a digit adds at most 255, whatever byte it is, which is less than 29 * 9
abbrev pub invariant-loop-digit : goal.invariant-loop-digit
invariant-loop-digit l = (l.number + 29 ≤ 29 * 10 ^ l.digit-index) × (decimal_from l.number (drop l.digit-index l.digit-items) ≡ decimal l.fn.digits)
