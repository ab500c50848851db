-- The cells that stay when others are inserted again.
use Rattle.std.proofs.Common.{◌≡◌, ◌≢◌, inl, inr, ℕ, zero, suc, ◌+◌, ◌<◌, ◌≤◌, Bool, true, false, cond, not, List, [], ◌∷◌, ◌++◌, length, get_or, count_by, nat_eq, eq-eqb, ne_eqb, refl, sym, ap, ◌∙◌, subst, arith}
use Rattle.std.specs.List.{range_with_len, list_any, filter}
use Rattle.std.specs.List.Sorted.{IsPermutation}
use Rattle.std.proofs.lemmas.Bool.{cases_eq}
use Rattle.std.proofs.lemmas.List.Sorted.{sum_by-IsPermutation}
use Rattle.rt_box.specs.declared.interval.Interval.{Interval}
use Rattle.rt_tree_choice.specs.Sorting.{positions}
use Rattle.rt_tree_choice.specs.Reinsertion.{farthest_positions}
use Rattle.rt_tree_node.proofs.Counts.{count-cons, count-append}
use Rattle.rt_tree_place.specs.Rules.{IsRisingList}
use Rattle.rt_tree_rules.specs.Placing.{near_positions}

abbrev times : ℕ → List ℕ → ℕ
times x xs = count_by (λ p. nat_eq p x) xs

abbrev Rises : ℕ → List ℕ → Type 0
Rises low [] = Unit {0}
Rises low (x ∷ xs) = (low ≤ x) × Rises (suc x) xs

rises : (low : ℕ) (xs : List ℕ) → IsRisingList xs → (0 < length xs → low ≤ get_or xs 0 0) → Rises low xs
rises low [] rising first = tt
rises low (x ∷ xs) rising first = (
  first (omega arith),
  rises (suc x) xs (λ i j less within. rising (suc i) (suc j) (omega arith) (omega arith)) (λ some. rising 0 1 (omega arith) (omega arith)),
)

times_here : (x : ℕ) (xs : List ℕ) → times x (x ∷ xs) ≡ suc (times x xs)
times_here x xs =
    let one : ◌≡◌ {A = ℕ} (cond (nat_eq x x) 1 0) 1 = ap (λ b. cond b 1 0) (eq-eqb x x refl) in
    omega (arith, count-cons (λ p. nat_eq p x) x xs)

times_other : (x y : ℕ) (xs : List ℕ) → y ≢ x → times x (y ∷ xs) ≡ times x xs
times_other x y xs other =
    let none : ◌≡◌ {A = ℕ} (cond (nat_eq y x) 1 0) 0 = ap (λ b. cond b 1 0) (ne_eqb y x other) in
    omega (arith, count-cons (λ p. nat_eq p x) y xs)

times_below : (low x : ℕ) (xs : List ℕ) → Rises low xs → x < low → times x xs ≡ 0
times_below low x [] rising less = refl
times_below low x (y ∷ xs) (above, rising) less =
    times_other x y xs (λ e. absurd (omega arith)) ∙ times_below (suc y) x xs rising (omega arith)

range_below : (a n x : ℕ) → x < a → times x (range_with_len a n) ≡ 0
range_below a zero x less = refl
range_below a (suc n) x less = times_other x a (range_with_len (a + 1) n) (λ e. absurd (omega arith)) ∙ range_below (a + 1) n x (omega arith)

any_is : (x : ℕ) (far : List ℕ) → times x far ≡ 0 → list_any (nat_eq x) far ≡ false
any_is x [] none = refl
any_is x (y ∷ far) none = elim (cases_eq y x) [
  | inl e ↦
      let some : times x (y ∷ far) ≡ suc (times x far) = subst (λ (z : ℕ). times x (z ∷ far) ≡ suc (times x far)) (sym e) (times_here x far) in
      absurd (omega arith)
  | inr other ↦
      let differs : nat_eq x y ≡ false = ne_eqb x y (λ e. other (sym e)) in
      let rest = any_is x far (omega (arith, times_other x y far other)) in
      rw (differs, rest)
]

any_is_too : (x : ℕ) (far : List ℕ) → times x far ≢ 0 → list_any (nat_eq x) far ≡ true
any_is_too x [] some = absurd (some refl)
any_is_too x (y ∷ far) some = elim (cases_eq y x) [
  | inl e ↦ let same : nat_eq x y ≡ true = eq-eqb x y (sym e) in rw same
  | inr other ↦
      let differs : nat_eq x y ≡ false = ne_eqb x y (λ e. other (sym e)) in
      let rest = any_is_too x far (λ none. some (times_other x y far other ∙ none)) in
      rw (differs, rest)
]

abbrev stays : List ℕ → ℕ → Bool
stays far p = not (list_any (nat_eq p) far)

abbrev AreOthers : List ℕ → ℕ → ℕ → List ℕ → Type 0
AreOthers far a n kept = (x : ℕ) → a ≤ x → times x far + times x kept ≡ times x (range_with_len a n)

filter_in : (far : List ℕ) (a : ℕ) (xs : List ℕ) → times a far ≡ 0 → filter (stays far) (a ∷ xs) ≡ a ∷ filter (stays far) xs
filter_in far a xs none = rw (any_is a far none)

filter_out : (far : List ℕ) (a : ℕ) (xs : List ℕ) → times a far ≢ 0 → filter (stays far) (a ∷ xs) ≡ filter (stays far) xs
filter_out far a xs some = rw (any_is_too a far some)

higher : (a : ℕ) (kept : List ℕ) → Rises a kept → times a kept ≡ 0 → Rises (a + 1) kept
higher a [] rising none = tt
higher a (y ∷ kept) (above, rising) none = elim (cases_eq y a) [
  | inl e ↦
      let some : times a (y ∷ kept) ≡ suc (times a kept) = subst (λ (z : ℕ). times a (z ∷ kept) ≡ suc (times a kept)) (sym e) (times_here a kept) in
      absurd (omega arith)
  | inr other ↦ (omega arith, rising)
]

taken : (far : List ℕ) (a n : ℕ) (kept : List ℕ) → Rises a kept → AreOthers far a (suc n) kept → times a far ≡ 0 → times a kept ≡ 1 →
    ((rest : List ℕ) → Rises (a + 1) rest → AreOthers far (a + 1) n rest → filter (stays far) (range_with_len (a + 1) n) ≡ rest) →
    a ∷ filter (stays far) (range_with_len (a + 1) n) ≡ kept
taken far a n [] rising others absent once again = absurd (omega arith)
taken far a n (y ∷ kept) (above, rising) others absent once again = elim (cases_eq y a) [
  | inl e ↦
      let next : suc y ≡ a + 1 = omega arith in
      let up : Rises (a + 1) kept = subst (λ (z : ℕ). Rises z kept) next rising in
      let rest : filter (stays far) (range_with_len (a + 1) n) ≡ kept = again kept up (λ x high.
      let other : y ≢ x = λ h. absurd (omega arith) in
      let all = others x (omega arith) in
      let left = times_other x y kept other in
      let right = times_other x a (range_with_len (a + 1) n) (λ h. absurd (omega arith)) in
      omega arith) in
      cc
  | inr other ↦
      let none = times_below (suc y) a kept rising (omega arith) in
      absurd (omega (arith, times_other a y kept other))
]

others_left : (far : List ℕ) (a n : ℕ) (kept : List ℕ) → Rises a kept → AreOthers far a n kept → filter (stays far) (range_with_len a n) ≡ kept
others_left far a zero [] rising others = refl
others_left far a zero (y ∷ kept) (above, rising) others =
    absurd (omega (arith, others y above, times_here y kept))
others_left far a (suc n) kept rising others =
    let here = others a (omega arith) in
    let one = times_here a (range_with_len (a + 1) n) in
    let none = range_below (a + 1) n a (omega arith) in
    elim (cases_eq (times a far) 0) [
      | inl absent ↦ filter_in far a (range_with_len (a + 1) n) absent
          ∙ taken far a n kept rising others absent (omega arith) (others_left far (a + 1) n)
      | inr there ↦
          filter_out far a (range_with_len (a + 1) n) there
          ∙ others_left far (a + 1) n kept (higher a kept rising (omega arith))
          (λ x high. others x (omega arith) ∙ times_other x a (range_with_len (a + 1) n) (λ e. absurd (omega arith)))
    ]

pub near_stay : (boxes : List (List Interval)) (capacity : ℕ) (kept : List ℕ) →
    IsPermutation (positions boxes) (farthest_positions boxes capacity ++ kept) → IsRisingList kept → near_positions capacity boxes ≡ kept
near_stay boxes capacity kept moved rising =
    others_left (farthest_positions boxes capacity) 0 (length boxes) kept (rises 0 kept rising (λ some. omega arith)) (λ x high.
    let all = sum_by-IsPermutation (λ p. cond (nat_eq p x) 1 0) (positions boxes) (farthest_positions boxes capacity ++ kept) moved in
    let both = count-append (λ p. nat_eq p x) (farthest_positions boxes capacity) kept in
    sym both ∙ all)
