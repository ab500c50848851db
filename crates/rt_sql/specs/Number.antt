-- The number that a sign and digits write (own).
use Rattle.std.specs.Prelude.{◌≡◌, ℕ, ◌+◌, ◌-◌, ◌*◌, ◌^◌, Bool, cond, nat_lt, [], ◌∷◌, Option, Some, None, FitsSigned, unwrap_or, if◌then◌else◌}
use Rattle.std.specs.Int.{w64}
use lib.IntN.{ℤ, pos, neg_ℤ}
use Rattle.rt_sql.specs.declared.number.Numbers.{Numbers}
use Rattle.rt_sql.specs.declared.number.Numbers.TheVariants.{Within64Bits, AnySize}
use Rattle.rt_sql.specs.Token.{Text}

-- what the digits add to the number so far, in base ten
unfoldable pub decimal_from : ℕ → Text → ℕ
decimal_from n [] = n
decimal_from n (digit ∷ digits) = decimal_from (10 * n + (digit - 48)) digits

abbrev pub decimal : Text → ℕ
decimal digits = decimal_from 0 digits

abbrev pub with_sign : Bool → ℕ → ℤ
with_sign is_negative n = cond is_negative (neg_ℤ (pos n)) (pos n)

-- which number a sign and digits write: any size, or none outside 64 bits
abbrev pub Writes : Type 1
Writes = Bool → Text → ℤ → Type 0

abbrev pub WritesAnySize : Writes
WritesAnySize is_negative digits n = n ≡ with_sign is_negative (decimal digits)

abbrev pub WritesWithin64Bits : Writes
WritesWithin64Bits is_negative digits n = (n ≡ with_sign is_negative (decimal digits)) × FitsSigned w64 n

-- ---- the same as a function; one outside 64 bits may be read as 0

unfoldable pub fits : Bool → ℕ → Bool
fits is_negative n = if is_negative then nat_lt n (2 ^ 63 + 1) else nat_lt n (2 ^ 63)

abbrev pub within : Bool → Text → Option ℤ
within is_negative digits = if fits is_negative (decimal digits) then Some (with_sign is_negative (decimal digits)) else None

unfoldable pub number_by : Numbers → Bool → Text → Option ℤ
number_by Within64Bits is_negative digits = within is_negative digits
number_by AnySize is_negative digits = Some (unwrap_or (within is_negative digits) (pos 0))
