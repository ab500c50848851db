-- Lemmas on numbers as words and as the text that is written of them.
use Rattle.std.proofs.Common.{◌≡◌, ℕ, zero, suc, ◌+◌, ◌*◌, ◌-◌, ◌^◌, ◌<◌, ◌≤◌, ℤ, pos, negsuc, List, [], ◌∷◌, Bool, true, false, not, ◌&&◌, cond, refl, sym, ◌∙◌, ap, length, get_or, arith, rules, Some, None, neg_ℤ}
use Rattle.std.specs.Prelude.{nat_lt, nat_le, ◌==◌}
use Rattle.std.specs.Int.Signed.{mag}
use Rattle.std.specs.List.{list_all}
use Rattle.std.specs.Fmt.{decimal, signed_decimal}
use Rattle.std.proofs.lemmas.Fmt.{digits_decimal, digits_value-decimal, decimal_nonempty, first_decimal, decimal_digit, decimal-digits_value}
use Rattle.std.proofs.lemmas.List.{nil_from_length}
use Rattle.std.proofs.lemmas.Str.Parse.{IsNumeralModel, numerals_by_fold}
use Rattle.rt_check_dump.specs.Numbers.{is_digit, is_natural, is_positive, is_number, number_after, number_of}
use Rattle.rt_check_dump.proofs.Numerals.{number_after-ge}

-- digits by the test of a word, and their number as it is read
own : IsNumeralModel (λ ds. list_all is_digit ds ≡ true) (number_after 0)
own = numerals_by_fold _ (search rules) number_after (search rules)

-- the text of a number is digits, and is read as that number
pub digits-decimal : (n : ℕ) → n < 2 ^ 64 → list_all is_digit (decimal n) ≡ true
digits-decimal n small = digits_decimal own n small

pub number_after-decimal : (n : ℕ) → n < 2 ^ 64 → number_after 0 (decimal n) ≡ n
number_after-decimal n small = digits_value-decimal own n small

-- digits that don't begin with a zero are a number from 1 on
positive-word : (ds : List ℕ) → 0 < length ds → list_all is_digit ds ≡ true → 48 < get_or ds 0 0 → is_positive ds ≡ true
positive-word [] some all above = let no : ⊥ = omega (arith, some) in absurd no
positive-word (d ∷ ds) some all above =
    let other : (d == 48) ≡ false = grind (arith, above) in
    ap (λ b. not b && list_all is_digit (d ∷ ds)) other ∙ all

-- and they are a number, read as what they are
number-word : (ds : List ℕ) (n : ℕ) → 0 < length ds → list_all is_digit ds ≡ true → 48 < get_or ds 0 0 → is_number ds ≡ true
number-word [] n some all above = let no : ⊥ = omega (arith, some) in absurd no
number-word (d ∷ ds) n some all above =
    let other : (d == 48) ≡ false = grind (arith, above) in
    let plain : (d == 45) ≡ false = grind (arith, above) in
    ap (λ b. cond b (is_positive ds) (is_natural (d ∷ ds))) plain
    ∙ ap (λ b. cond b (length ds == 0) (list_all is_digit (d ∷ ds))) other ∙ all

read-word : (ds : List ℕ) (n : ℕ) → 0 < length ds → 48 ≤ get_or ds 0 0 → number_after 0 ds ≡ n → n < 2 ^ 63 → number_of ds ≡ Some (pos n)
read-word [] n some above e small = let no : ⊥ = omega (arith, some) in absurd no
read-word (d ∷ ds) n some above e small =
    let plain : (d == 45) ≡ false = grind (arith, above) in
    let fits : nat_lt n (2 ^ 63) ≡ true = grind (arith, small) in
    ap (λ b. cond b (cond (nat_le (number_after 0 ds) (2 ^ 63)) (Some (neg_ℤ (pos (number_after 0 ds)))) None)
    (cond (nat_lt (number_after 0 (d ∷ ds)) (2 ^ 63)) (Some (pos (number_after 0 (d ∷ ds)))) None)) plain
    ∙ ap (λ k. cond (nat_lt k (2 ^ 63)) (Some (pos k)) None) e
    ∙ ap (λ b. cond b (Some (pos n)) None) fits

-- the text of a number of 64 bits is a number
pub is_number-signed : (z : ℤ) → mag z < 2 ^ 63 → is_number (signed_decimal z) ≡ true
is_number-signed (pos zero) small = ap is_number (decimal_digit 0 (omega arith))
is_number-signed (pos (suc n)) small =
    let few : suc n < 2 ^ 64 = omega (arith, small) in
    number-word (decimal (suc n)) (suc n) (decimal_nonempty (suc n) few) (digits-decimal (suc n) few) (first_decimal (suc n) (omega arith) few)
is_number-signed (negsuc n) small =
    let few : suc n < 2 ^ 64 = omega (arith, small) in
    positive-word (decimal (suc n)) (decimal_nonempty (suc n) few) (digits-decimal (suc n) few) (first_decimal (suc n) (omega arith) few)

-- and is read as that number
pub number_of-signed : (z : ℤ) → mag z < 2 ^ 63 → number_of (signed_decimal z) ≡ Some z
number_of-signed (pos zero) small = ap number_of (decimal_digit 0 (omega arith))
number_of-signed (pos (suc n)) small =
    let few : suc n < 2 ^ 64 = omega (arith, small) in
    let first = first_decimal (suc n) (omega arith) few in
    read-word (decimal (suc n)) (suc n) (decimal_nonempty (suc n) few) (omega (arith, first)) (number_after-decimal (suc n) few) small
number_of-signed (negsuc n) small =
    let few : suc n < 2 ^ 64 = omega (arith, small) in
    let fits : nat_le (suc n) (2 ^ 63) ≡ true = grind (arith, small) in
    ap (λ k. cond (nat_le k (2 ^ 63)) (Some (neg_ℤ (pos k))) None) (number_after-decimal (suc n) few)
    ∙ ap (λ b. cond b (Some (negsuc n)) None) fits

-- digits without needless zeros are the text of their number
text-natural : (ds : List ℕ) → is_natural ds ≡ true → number_after 0 ds < 2 ^ 64 → decimal (number_after 0 ds) ≡ ds
text-natural [] spelled small = let no : ⊥ = cc in absurd no
text-natural (d ∷ ds) spelled small =
    let by_case : (b : Bool) → (d == 48) ≡ b → decimal (number_after 0 (d ∷ ds)) ≡ d ∷ ds = elim [
      | true ↦ λ zero_first.
          let alone : (length ds == 0) ≡ true = sym (ap (λ b. cond b (length ds == 0) (list_all is_digit (d ∷ ds))) zero_first) ∙ spelled in
          let single : length ds ≡ 0 = grind (arith, alone) in
          let first : d ≡ 48 = grind (arith, zero_first) in
          let none : ds ≡ [] = nil_from_length ds single in
          let all : list_all is_digit (d ∷ ds) ≡ true = ap (λ l. list_all is_digit (d ∷ l)) none ∙ ap (λ k. list_all is_digit (k ∷ [])) first in
          decimal-digits_value own (d ∷ ds) all (omega arith) (λ _. omega (arith, single)) small
      | false ↦ λ other.
          let all : list_all is_digit (d ∷ ds) ≡ true = sym (ap (λ b. cond b (length ds == 0) (list_all is_digit (d ∷ ds))) other) ∙ spelled in
          decimal-digits_value own (d ∷ ds) all (omega arith) (λ first. let no : ⊥ = grind (arith, first, other) in absurd no) small
    ] in
    by_case (d == 48) refl

text-positive : (ds : List ℕ) → is_positive ds ≡ true → (0 < number_after 0 ds) → number_after 0 ds < 2 ^ 64 → decimal (number_after 0 ds) ≡ ds
text-positive [] spelled some small = let no : ⊥ = cc in absurd no
text-positive (d ∷ ds) spelled some small =
    let other : (d == 48) ≡ false = grind (arith, spelled) in
    text-natural (d ∷ ds) (ap (λ b. cond b (length ds == 0) (list_all is_digit (d ∷ ds))) other ∙ sym (ap (λ b. not b && list_all is_digit (d ∷ ds)) other) ∙ spelled) small

above-zero : (ds : List ℕ) → is_positive ds ≡ true → 0 < number_after 0 ds
above-zero [] spelled = let no : ⊥ = cc in absurd no
above-zero (d ∷ ds) spelled =
    let other : (d == 48) ≡ false = grind (arith, spelled) in
    let digit : nat_le 48 d ≡ true = grind (arith, spelled) in
    let least : 48 ≤ d = grind (arith, digit) in
    let more : 48 < d = grind (arith, least, other) in
    let rest = number_after-ge (0 * 10 + (d - 48)) ds in
    omega (arith, rest, more)

-- a word that is a number of 64 bits is that number's text
pub text-number : (w : List ℕ) (z : ℤ) → is_number w ≡ true → number_of w ≡ Some z → w ≡ signed_decimal z
text-number [] z spelled e = let no : ⊥ = cc in absurd no
text-number (b ∷ bs) z spelled e =
    let by_case : (c : Bool) → (b == 45) ≡ c → b ∷ bs ≡ signed_decimal z = elim [
      | true ↦ λ minus.
          let digits : is_positive bs ≡ true = sym (ap (λ c. cond c (is_positive bs) (is_natural (b ∷ bs))) minus) ∙ spelled in
          let first : b ≡ 45 = grind (arith, minus) in
          let value : cond (nat_le (number_after 0 bs) (2 ^ 63)) (Some (neg_ℤ (pos (number_after 0 bs)))) None ≡ Some z =
          sym (ap (λ c. cond c (cond (nat_le (number_after 0 bs) (2 ^ 63)) (Some (neg_ℤ (pos (number_after 0 bs)))) None)
          (cond (nat_lt (number_after 0 (b ∷ bs)) (2 ^ 63)) (Some (pos (number_after 0 (b ∷ bs)))) None)) minus) ∙ e in
          negative (number_after 0 bs) bs z b first (above-zero bs digits) (λ small. text-positive bs digits (above-zero bs digits) small) value
      | false ↦ λ plain.
          let digits : is_natural (b ∷ bs) ≡ true = sym (ap (λ c. cond c (is_positive bs) (is_natural (b ∷ bs))) plain) ∙ spelled in
          let value : cond (nat_lt (number_after 0 (b ∷ bs)) (2 ^ 63)) (Some (pos (number_after 0 (b ∷ bs)))) None ≡ Some z =
          sym (ap (λ c. cond c (cond (nat_le (number_after 0 bs) (2 ^ 63)) (Some (neg_ℤ (pos (number_after 0 bs)))) None)
          (cond (nat_lt (number_after 0 (b ∷ bs)) (2 ^ 63)) (Some (pos (number_after 0 (b ∷ bs)))) None)) plain) ∙ e in
          positive (number_after 0 (b ∷ bs)) (b ∷ bs) z (λ small. text-natural (b ∷ bs) digits small) value
    ] in
    by_case (b == 45) refl
  where
    positive : (n : ℕ) (w : List ℕ) (z : ℤ) → (n < 2 ^ 64 → decimal n ≡ w) → cond (nat_lt n (2 ^ 63)) (Some (pos n)) None ≡ Some z → w ≡ signed_decimal z
    positive n w z text value =
        let within : nat_lt n (2 ^ 63) ≡ true = grind (arith, value) in
        let small : n < 2 ^ 63 = grind (arith, within) in
        let same : z ≡ pos n = grind (arith, value, within) in
        sym (text (omega (arith, small))) ∙ ap signed_decimal (sym same)

    negative : (n : ℕ) (ds : List ℕ) (z : ℤ) (b : ℕ) → b ≡ 45 → 0 < n → (n < 2 ^ 64 → decimal n ≡ ds)
        → cond (nat_le n (2 ^ 63)) (Some (neg_ℤ (pos n))) None ≡ Some z → b ∷ ds ≡ signed_decimal z
    negative zero ds z b first some text value = let no : ⊥ = omega (arith, some) in absurd no
    negative (suc n) ds z b first some text value =
        let within : nat_le (suc n) (2 ^ 63) ≡ true = grind (arith, value) in
        let small : suc n ≤ 2 ^ 63 = grind (arith, within) in
        let same : z ≡ negsuc n = grind (arith, value, within) in
        ap (λ k. k ∷ ds) first ∙ ap (λ l. 45 ∷ l) (sym (text (omega (arith, small)))) ∙ ap signed_decimal (sym same)
