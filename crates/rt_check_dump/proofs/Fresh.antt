-- Numbers that a list lacks: for each count there are that many, from 1 on, which fit their type.
use Rattle.std.proofs.Common.{◌≡◌, ℕ, zero, suc, ◌+◌, ◌<◌, ◌≤◌, ◌^◌, ℤ, pos, List, [], ◌∷◌, ◌++◌, Bool, true, false, not, ◌||◌, cond, refl, sym, subst, ◌∙◌, ap, length, arith, append_assoc, append-nil}
use Rattle.std.specs.List.{All, filter, list_any, IsDistinct, AllByRecursion}
use Rattle.std.specs.Ordering.{int_eq}
use Rattle.std.proofs.lemmas.List.{length_push}
use Rattle.std.proofs.lemmas.List.Elements.{All-nil, All-cons}
use Rattle.std.proofs.lemmas.Bool.{or_parts}
use Rattle.rt_check.proofs.Known.{same_number}
use Rattle.rt_check_dump.specs.InRange.{IsLong, IsPositive}
use Rattle.rt_check_dump.proofs.Written.{apart}

-- the list without a number
abbrev without : ℤ → List ℤ → List ℤ
without x ys = filter (λ y. not (int_eq x y)) ys

without-le : (x : ℤ) (ys : List ℤ) → length (without x ys) ≤ length ys
without-le x [] = omega arith
without-le x (y ∷ ys) =
    let rest = without-le x ys in
    elim (int_eq x y) as (λ b. length (cond (not b) (y ∷ without x ys) (without x ys)) ≤ suc (length ys)) [
      | true ↦ omega (arith, rest)
      | false ↦ omega (arith, rest)
    ]

without-shorter : (x : ℤ) (ys : List ℤ) → list_any (int_eq x) ys ≡ true → length (without x ys) < length ys
without-shorter x [] e = let no : ⊥ = cc in absurd no
without-shorter x (y ∷ ys) e =
    let by_case : (b : Bool) → (b || list_any (int_eq x) ys) ≡ true → length (cond (not b) (y ∷ without x ys) (without x ys)) < suc (length ys) = elim [
      | true ↦ λ h. let rest = without-le x ys in omega (arith, rest)
      | false ↦ λ h. let rest = without-shorter x ys h in omega (arith, rest)
    ] in
    by_case (int_eq x y) e

-- another number that is lacking without x is lacking
lacking : (z x : ℤ) (ys : List ℤ) → int_eq z x ≡ false → list_any (int_eq z) (without x ys) ≡ false → list_any (int_eq z) ys ≡ false
lacking z x [] other e = refl
lacking z x (y ∷ ys) other e =
    let by_case : (b : Bool) → int_eq x y ≡ b → list_any (int_eq z) (cond (not b) (y ∷ without x ys) (without x ys)) ≡ false → (int_eq z y || list_any (int_eq z) ys) ≡ false = elim [
      | true ↦ λ is h.
          let same : x ≡ y = same_number x y is in
          ap (λ y. int_eq z y || list_any (int_eq z) ys) (sym same) ∙ ap (λ b. b || list_any (int_eq z) ys) other ∙ lacking z x ys other h
      | false ↦ λ is h.
          let parts = or_parts (int_eq z y) (list_any (int_eq z) (without x ys)) h in
          ap (λ b. b || list_any (int_eq z) ys) parts.0 ∙ lacking z x ys other parts.1
    ] in
    by_case (int_eq x y) refl e

-- among the first n numbers there is one that a shorter list lacks
pick : (n : ℕ) (ys : List ℤ) → length ys < n → (m : ℕ) × (1 ≤ m) × (m ≤ n) × (list_any (int_eq (pos m)) ys ≡ false)
pick zero ys few = let no : ⊥ = omega (arith, few) in absurd no
pick (suc n) ys few =
    let by_case : (b : Bool) → list_any (int_eq (pos (suc n))) ys ≡ b → (m : ℕ) × (1 ≤ m) × (m ≤ suc n) × (list_any (int_eq (pos m)) ys ≡ false) = elim [
      | false ↦ λ e. (suc n, omega arith, omega arith, e)
      | true ↦ λ e.
          let less = without-shorter (pos (suc n)) ys e in
          let r = pick n (without (pos (suc n)) ys) (omega (arith, less, few)) in
          let under : r.0 ≤ n = r.2 in
          let other : int_eq (pos r.0) (pos (suc n)) ≡ false = grind (arith, under) in
          (r.0, r.1, omega (arith, under), lacking (pos r.0) (pos (suc n)) ys other r.3)
    ] in
    by_case (list_any (int_eq (pos (suc n))) ys) refl

push-each : (P : ℤ → Type 0) (xs : List ℤ) (y : ℤ) → AllByRecursion P xs → P y → AllByRecursion P (xs ++ y ∷ [])
push-each P [] y all last = (last, tt)
push-each P (x ∷ xs) y all last = (all.0, push-each P xs y all.1 last)

pub distinct-push : (xs : List ℤ) (y : ℤ) → IsDistinct int_eq xs → list_any (int_eq y) xs ≡ false → IsDistinct int_eq (xs ++ y ∷ [])
unfolding IsDistinct
distinct-push [] y distinct lack = (tt, tt)
distinct-push (x ∷ xs) y distinct lack =
    let parts = or_parts (int_eq y x) (list_any (int_eq y) xs) lack in
    (push-each (λ z. int_eq x z ≡ false) xs y distinct.0 (apart x y parts.0), distinct-push xs y distinct.1 parts.1)

-- a number from 1 on that fits its type
pub record IsNumber (z : ℤ) : Type 0 where
  pub long : IsLong z
  pub positive : IsPositive z

-- that many more numbers
pub record More (k : ℕ) (xs : List ℤ) : Type 0 where
  pub numbers : List ℤ
  pub count : length numbers ≡ k
  pub each : All IsNumber numbers
  pub distinct : IsDistinct int_eq (xs ++ numbers)

pub fresh : (k : ℕ) (xs : List ℤ) → IsDistinct int_eq xs → length xs + k < 2 ^ 63 → More k xs
fresh zero xs distinct few = record {
  numbers = [];
  count = refl;
  each = All-nil IsNumber;
  distinct = subst (IsDistinct int_eq) (sym (append-nil xs)) distinct;
}
fresh (suc k) xs distinct few =
    let r = pick (length xs + 1) xs (omega arith) in
    let y = pos r.0 in
    let longer = length_push xs y in
    let rest = fresh k (xs ++ y ∷ []) (distinct-push xs y distinct r.3) (omega (arith, longer, few)) in
    let low : 1 ≤ r.0 = r.1 in
    let high : r.0 ≤ length xs + 1 = r.2 in
    let number : IsNumber y = record { long = omega (arith, high, few); positive = grind (arith, low) } in
    record {
      numbers = y ∷ rest.numbers;
      count = ap suc rest.count;
      each = All-cons IsNumber y rest.numbers number rest.each;
      distinct = subst (IsDistinct int_eq) (append_assoc xs (y ∷ []) rest.numbers) rest.distinct;
    }
