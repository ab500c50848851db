-- Lemmas on the words of numbers, written and read again.
use Rattle.std.proofs.Common.{◌≡◌, ℕ, zero, suc, ◌<◌, ◌≤◌, ◌^◌, ℤ, pos, negsuc, List, [], ◌∷◌, Bool, true, false, not, ◌&&◌, ◌||◌, cond, refl, ◌∙◌, ap, length, get_or, arith, Option, Some, None}
use Rattle.std.specs.Prelude.{◌==◌, nat_lt, nat_le, int_le, bytes_eq, codes}
use Rattle.std.specs.Int.Signed.{mag}
use Rattle.std.specs.List.{list_all}
use Rattle.std.specs.Option.{option_and_then, option_map}
use Rattle.std.specs.Fmt.{decimal, signed_decimal}
use Rattle.std.proofs.lemmas.Fmt.{decimal_nonempty, first_decimal}
use Rattle.rt_check_dump.specs.Numbers.{is_digit, is_number, number_of, positive_of, count_from, count_of, byte_of, coordinate_of, parent_of}
use Rattle.rt_check_dump.specs.Lines.{is_parent}
use Rattle.rt_check_dump.specs.Dump.{parent_word}
use Rattle.rt_check_dump.proofs.Spelled.{digits-decimal, is_number-signed, number_of-signed}
use Rattle.rt_check_dump.proofs.WrittenPieces.{lacks, IsWord}

digit-apart : (b d : ℕ) → b < 48 → is_digit d ≡ true → not (d == b) ≡ true
digit-apart b d small digit =
    let least : 48 ≤ d = grind (arith, digit) in
    grind (arith, least, small)

lacks-digits : (b : ℕ) → b < 48 → (ds : List ℕ) → list_all is_digit ds ≡ true → lacks b ds ≡ true
lacks-digits b small [] all = refl
lacks-digits b small (d ∷ ds) all =
    let by_case : (c : Bool) → is_digit d ≡ c → (c && list_all is_digit ds) ≡ true → lacks b (d ∷ ds) ≡ true = elim [
      | true ↦ λ e h. ap (λ c. c && lacks b ds) (digit-apart b d small e) ∙ lacks-digits b small ds h
      | false ↦ λ e h. let no : ⊥ = cc in absurd no
    ] in
    by_case (is_digit d) refl all

-- digits are a word
digits-word : (ds : List ℕ) → list_all is_digit ds ≡ true → IsWord ds
digits-word ds all = record { one_word = lacks-digits 32 (omega arith) ds all; one_line = lacks-digits 10 (omega arith) ds all }

pub decimal-word : (n : ℕ) → n < 2 ^ 64 → IsWord (decimal n)
decimal-word n small = digits-word (decimal n) (digits-decimal n small)

pub signed-word : (z : ℤ) → mag z < 2 ^ 63 → IsWord (signed_decimal z)
signed-word (pos n) small = decimal-word n (omega (arith, small))
signed-word (negsuc n) small =
    let word = decimal-word (suc n) (omega (arith, small)) in
    record { one_word = word.one_word; one_line = word.one_line }

-- a count's word
pub is_number-count : (n : ℕ) → n < 2 ^ 63 → is_number (decimal n) ≡ true
is_number-count n small = is_number-signed (pos n) small

pub number_of-count : (n : ℕ) → n < 2 ^ 63 → number_of (decimal n) ≡ Some (pos n)
number_of-count n small = number_of-signed (pos n) small

pub count_of-decimal : (n : ℕ) → n < 2 ^ 63 → count_of (decimal n) ≡ Some n
count_of-decimal n small = ap (option_and_then count_from) (number_of-count n small)

pub byte_of-decimal : (n : ℕ) → n < 256 → byte_of (decimal n) ≡ Some n
byte_of-decimal n small =
    let below : nat_lt n 256 ≡ true = grind (arith, small) in
    ap (option_and_then (λ (n : ℕ). cond (nat_lt n 256) (Some n) None)) (count_of-decimal n (omega (arith, small)))
    ∙ ap (λ b. cond b (Some n) None) below

-- a number from 1 on
pub positive_of-signed : (z : ℤ) → mag z < 2 ^ 63 → int_le (pos 1) z ≡ true → positive_of (signed_decimal z) ≡ Some z
positive_of-signed z small positive =
    ap (option_and_then (λ (z : ℤ). cond (int_le (pos 1) z) (Some z) None)) (number_of-signed z small)
    ∙ ap (λ b. cond b (Some z) None) positive

-- a number of 32 bits
pub coordinate_of-signed : (z : ℤ) → mag z < 2 ^ 31 → coordinate_of (signed_decimal z) ≡ Some z
coordinate_of-signed z small =
    ap (option_and_then (λ (z : ℤ). cond (int_le (negsuc 2147483647) z && int_le z (pos 2147483647)) (Some z) None)) (number_of-signed z (omega (arith, small)))
    ∙ ap (λ b. cond b (Some z) None) (within z small)
  where
    within : (z : ℤ) → mag z < 2 ^ 31 → (int_le (negsuc 2147483647) z && int_le z (pos 2147483647)) ≡ true
    within (pos n) small = let fits : nat_le n 2147483647 ≡ true = grind (arith, small) in fits
    within (negsuc n) small = let fits : nat_le n 2147483647 ≡ true = grind (arith, small) in ap (λ b. b && true) fits

-- a parent
abbrev pub IsParent : Option ℤ → Type 0
IsParent None = Unit {0}
IsParent (Some z) = (mag z < 2 ^ 63) × (int_le (pos 1) z ≡ true)

pub parent-word : (p : Option ℤ) → IsParent p → IsWord (parent_word p)
parent-word None fits = record { one_word = refl; one_line = refl }
parent-word (Some z) fits = signed-word z fits.0

pub is_parent-word : (p : Option ℤ) → IsParent p → is_parent (parent_word p) ≡ true
is_parent-word None fits = refl
is_parent-word (Some z) fits =
    let number = is_number-signed z fits.0 in
    elim (bytes_eq (signed_decimal z) (codes "-")) as (λ b. (b || is_number (signed_decimal z)) ≡ true) [
      | true ↦ refl
      | false ↦ number
    ]

not-minus : (ds : List ℕ) → 0 < length ds → 48 < get_or ds 0 0 → bytes_eq ds (45 ∷ []) ≡ false
not-minus [] some above = let no : ⊥ = omega (arith, some) in absurd no
not-minus (d ∷ ds) some above =
    let other : (d == 45) ≡ false = grind (arith, above) in
    ap (λ b. b && bytes_eq ds []) other

pub parent_of-word : (p : Option ℤ) → IsParent p → parent_of (parent_word p) ≡ Some p
parent_of-word None fits = refl
parent_of-word (Some (pos zero)) fits = let no : ⊥ = let e : false ≡ true = fits.1 in cc in absurd no
parent_of-word (Some (pos (suc n))) fits =
    let few : suc n < 2 ^ 64 = let small : suc n < 2 ^ 63 = fits.0 in omega (arith, small) in
    let other = not-minus (decimal (suc n)) (decimal_nonempty (suc n) few) (first_decimal (suc n) (omega arith) few) in
    ap (λ b. cond b (Some None) (option_map (λ z. Some z) (positive_of (decimal (suc n))))) other
    ∙ ap (option_map (λ (z : ℤ). Some z)) (positive_of-signed (pos (suc n)) fits.0 fits.1)
parent_of-word (Some (negsuc n)) fits = let no : ⊥ = let e : false ≡ true = fits.1 in cc in absurd no
