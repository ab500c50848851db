use Rattle.std.proofs.Common.{◌≡◌, drop}
use Rattle.rt_check_dump.specs.Numbers.{number_after}
use Rattle.rt_check_dump.proofs.numbers.magnitude.Given as goal

-- the digits from here on make the same number
abbrev pub invariant-loop-digit : goal.invariant-loop-digit
invariant-loop-digit l = number_after l.number (drop l.digit-index l.digits) ≡ number_after 0 l.digits
