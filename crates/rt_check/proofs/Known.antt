-- Lemmas on look-ups of numbers.
use Rattle.std.proofs.Common.{◌≡◌, ℕ, suc, ◌+◌, ◌≤◌, not, arith, ℤ, List, [], ◌∷◌, Bool, true, false, cond, map, refl, sym, ◌∙◌, ap, Some, None, length}
use Rattle.std.specs.Prelude.{Contains, find, slice_get, position}
use Rattle.std.specs.List.{list_any, position_or_len}
use Rattle.std.specs.Ordering.{int_eq}
use Rattle.std.proofs.lemmas.Bool.Decides.{Decides-int_eq}
use Rattle.std.proofs.lemmas.List.{length-map}
use Rattle.std.proofs.lemmas.Option.{slice_get_past}
use Rattle.std.proofs.lemmas.Map.Views.{Contains-from_any}

-- a test that finds two numbers equal is right
pub same_number : (x y : ℤ) → int_eq x y ≡ true → x ≡ y
same_number x y e = (Decides-int_eq x y).0 e

-- a number that a set finds is in its list
pub Contains-number : (x : ℤ) (keys : List ℤ) → list_any (int_eq x) keys ≡ true → Contains keys x
Contains-number x keys found = Contains-from_any same_number x keys found

module _ {X K : Type 0} (key : X → K) (test : K → Bool) where
  -- the first element whose key passes stands where the keys' first one does
  find-at : (xs : List X) → find (λ x. test (key x)) xs ≡ slice_get xs (position_or_len test (map key xs))
  find-at [] = refl
  find-at (x ∷ xs) =
      let n = position_or_len test (map key xs) in
      let next : suc n ≡ 1 + n = omega arith in
      elim (test (key x)) as (λ b. cond b (Some x) (find (λ x. test (key x)) xs) ≡ slice_get (x ∷ xs) (cond (not b) (1 + n) 0)) [
        | true ↦ refl
        | false ↦ find-at xs ∙ ap (slice_get (x ∷ xs)) next
      ]

  -- what is found where the keys' first one stands
  pub find-some : (xs : List X) (at : ℕ) → Some at ≡ position test (map key xs) → slice_get xs at ≡ find (λ x. test (key x)) xs
  find-some xs at e =
      let n = position_or_len test (map key xs) in
      let same : at ≡ n = grind (arith, e) in
      ap (slice_get xs) same ∙ sym (find-at xs)

  -- where no key passes, nothing is found
  pub find-none : (xs : List X) → None ≡ position test (map key xs) → None ≡ find (λ x. test (key x)) xs
  find-none xs e =
      let n = position_or_len test (map key xs) in
      let past : length (map key xs) ≤ n = grind (arith, e) in
      let same : length (map key xs) ≡ length xs = length-map xs key in
      let long : length xs ≤ n = omega (arith, past, same) in
      sym (find-at xs ∙ slice_get_past xs n long)

-- a number that isn't in a list isn't found in it
pub absent-number : (x : ℤ) (keys : List ℤ) → (Contains keys x → ⊥) → list_any (int_eq x) keys ≡ false
absent-number x keys none =
    let by_case : (b : Bool) → list_any (int_eq x) keys ≡ b → list_any (int_eq x) keys ≡ false = elim [
      | true ↦ λ found. absurd (none (Contains-number x keys found))
      | false ↦ λ e. e
    ] in
    by_case (list_any (int_eq x) keys) refl
