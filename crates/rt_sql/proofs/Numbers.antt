-- Numbers and the digits that write them.
use Rattle.std.proofs.Math.Nat.{pow-le-pow_right, pow-succ'}
use Rattle.std.proofs.Math.Seq.{drop-cons}
use Rattle.std.proofs.Common.{length, drop, get_or, add-one, ◌≡◌, ℕ, suc, ◌+◌, ◌-◌, ◌*◌, ◌^◌, ◌<◌, ◌≤◌, Bool, true, false, [], ◌∷◌, refl, arith}
use Rattle.std.proofs.lemmas.Bool.Decides.{nat_tests}
use Rattle.std.proofs.lemmas.Int.{ints}
use Rattle.std.proofs.lemmas.List.{drop_all}
use Rattle.std.specs.Prelude.{FitsSigned}
use Rattle.std.specs.Int.{w64}
use Rattle.std.specs.Prelude.{Some}
use Rattle.rt_sql.specs.declared.number.Numbers.{Numbers}
use Rattle.rt_sql.specs.declared.number.Numbers.TheVariants.{Within64Bits, AnySize}
use Rattle.rt_sql.specs.Number.{decimal, decimal_from, with_sign, fits, number_by}
use Rattle.rt_sql.specs.Token.{Text}

pub decimal_from_ge : (n : ℕ) (digits : Text) → n ≤ decimal_from n digits
unfolding decimal_from
decimal_from_ge n [] = omega arith
decimal_from_ge n (digit ∷ digits) = omega (arith, decimal_from_ge (10 * n + (digit - 48)) digits)

decimal_from-step : (n digit : ℕ) (digits : Text) → decimal_from n (digit ∷ digits) ≡ decimal_from (10 * n + (digit - 48)) digits
unfolding decimal_from
decimal_from-step n digit digits = refl

decimal_from-nil : (n : ℕ) → decimal_from n [] ≡ n
unfolding decimal_from
decimal_from-nil n = refl

pub decimal_from_more : (n i : ℕ) (digits : Text) → i < length digits → decimal_from n (drop i digits) ≡ decimal_from (10 * n + (get_or digits i 0 - 48)) (drop (i + 1) digits)
decimal_from_more n i digits h = rw (drop-cons digits i 0 h, add-one) (decimal_from-step n (get_or digits i 0) (drop (suc i) digits))

pub decimal_from_end : (n i : ℕ) (digits : Text) → length digits ≤ i → decimal_from n (drop i digits) ≡ n
decimal_from_end n i digits h = rw (drop_all i digits h) (decimal_from-nil n)

pub decimal_from_start : (digits : Text) → decimal_from 0 (drop 0 digits) ≡ decimal digits
decimal_from_start digits = refl

pub fits_signed : (b : Bool) (n : ℕ) → fits b n ≡ true → FitsSigned w64 (with_sign b n)
unfolding fits
fits_signed true n h = grind (arith, ints, nat_tests)
fits_signed false n h = grind (arith, ints, nat_tests)

pub fits_from_signed : (b : Bool) (n : ℕ) → FitsSigned w64 (with_sign b n) → fits b n ≡ true
unfolding fits
fits_from_signed true n h = grind (arith, ints, nat_tests)
fits_from_signed false n h = grind (arith, ints, nat_tests)

pub fits_below : (b : Bool) (n : ℕ) → fits b n ≡ true → n < 2 ^ 64
unfolding fits
fits_below true n h = grind (arith, nat_tests)
fits_below false n h = grind (arith, nat_tests)

fits_short : (b : Bool) (n : ℕ) → n < 2 ^ 63 → fits b n ≡ true
unfolding fits
fits_short true n h = grind (arith, nat_tests)
fits_short false n h = grind (arith, nat_tests)

-- if the number has room to spare, its sign doesn't matter
pub short_number : (numbers : Numbers) (is_negative : Bool) (digits : Text) → decimal digits < 2 ^ 63 → number_by numbers is_negative digits ≡ Some (with_sign is_negative (decimal digits))
unfolding number_by
short_number Within64Bits b digits h = let f = fits_short b (decimal digits) h in rw f refl
short_number AnySize b digits h = let f = fits_short b (decimal digits) h in rw f refl

-- ---- the room for a number of a few digits

pow_more : (i : ℕ) → 10 ^ (i + 1) ≡ 10 * 10 ^ i
pow_more i = rw add-one (pow-succ' 10 i)

room : (i k : ℕ) → i ≤ k → 10 ^ i ≤ 10 ^ k
room i k h = let some : 0 < 10 = omega arith in pow-le-pow_right some h

pub digit_room : (n i digit : ℕ) → n + 29 ≤ 29 * 10 ^ i → digit < 256 → 10 * n + digit + 29 ≤ 29 * 10 ^ (i + 1)
digit_room n i digit h d = let e = pow_more i in omega (arith, e)

pub loop_room : (n i : ℕ) → n + 29 ≤ 29 * 10 ^ i → i < 17 → 10 * n + 256 < 2 ^ 63
loop_room n i h l = let e : 10 ^ i ≤ 10 ^ 16 = room i 16 (omega arith) in omega (arith, e)

pub whole_room : (n i : ℕ) → n + 29 ≤ 29 * 10 ^ i → i ≤ 17 → n < 2 ^ 63
whole_room n i h l = let e : 10 ^ i ≤ 10 ^ 17 = room i 17 l in omega (arith, e)
