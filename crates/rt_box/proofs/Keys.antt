-- Lemmas on keys: their order, and the least of a list of keys.
use Rattle.std.proofs.Common.{◌≡◌, ◌≢◌, ◌⊎◌, inl, inr, ℕ, ◌+◌, ◌<◌, List, [], ◌∷◌, ◌++◌, length, arith, refl, ap, ◌∙◌, sym, subst}
use Rattle.std.proofs.lemmas.Bool.{cases_eq, cases_lt}
use Rattle.rt_box.specs.Keys.{Less, IsLeast}

pub Less-trans : (xs ys zs : List ℕ) → Less xs ys → Less ys zs → Less xs zs
Less-trans [] ys zs h k = absurd h
Less-trans (x ∷ xs) [] zs h k = absurd h
Less-trans (x ∷ xs) (y ∷ ys) [] h k = absurd k
Less-trans (x ∷ xs) (y ∷ ys) (z ∷ zs) (inl h) (inl k) = inl (omega arith)
Less-trans (x ∷ xs) (y ∷ ys) (z ∷ zs) (inl h) (inr k) = inl (omega arith)
Less-trans (x ∷ xs) (y ∷ ys) (z ∷ zs) (inr h) (inl k) = inl (omega arith)
Less-trans (x ∷ xs) (y ∷ ys) (z ∷ zs) (inr h) (inr k) = inr (omega arith, Less-trans xs ys zs h.1 k.1)

-- a key with a further number at its end
pub Less-push : (xs ys : List ℕ) (p q : ℕ) → Less xs ys → Less (xs ++ p ∷ []) (ys ++ q ∷ [])
Less-push [] ys p q h = absurd h
Less-push (x ∷ xs) [] p q h = absurd h
Less-push (x ∷ xs) (y ∷ ys) p q (inl h) = inl h
Less-push (x ∷ xs) (y ∷ ys) p q (inr h) = inr (h.0, Less-push xs ys p q h.1)

less_or_more : (x y : ℕ) → x ≢ y → (x < y) ⊎ (y < x)
less_or_more x y n = elim (cases_lt x y) [ inl h ↦ inl h | inr h ↦ inr (omega arith) ]

pub Less-push_tie : (xs ys : List ℕ) (p q : ℕ) → length xs ≡ length ys → ¬ Less ys xs → p < q → Less (xs ++ p ∷ []) (ys ++ q ∷ [])
Less-push_tie [] [] p q e n h = inl h
Less-push_tie [] (y ∷ ys) p q e n h = absurd (omega arith)
Less-push_tie (x ∷ xs) [] p q e n h = absurd (omega arith)
Less-push_tie (x ∷ xs) (y ∷ ys) p q e n h =
    elim (cases_eq x y) [
      | inl same ↦ inr (same, Less-push_tie xs ys p q (omega arith) (λ l. n (inr (sym same, l))) h)
      | inr other ↦ elim (less_or_more x y other) [ inl l ↦ inl l | inr m ↦ absurd (n (inl m)) ]
    ]

-- where the numbers at the end decide only if the keys are equal
pub Less-push_or : (xs ys : List ℕ) (p q : ℕ) → length xs ≡ length ys → ¬ Less ys xs → (xs ≡ ys → p < q) → Less (xs ++ p ∷ []) (ys ++ q ∷ [])
Less-push_or [] [] p q e n h = inl (h refl)
Less-push_or [] (y ∷ ys) p q e n h = absurd (omega arith)
Less-push_or (x ∷ xs) [] p q e n h = absurd (omega arith)
Less-push_or (x ∷ xs) (y ∷ ys) p q e n h =
    elim (cases_eq x y) [
      | inl same ↦ inr (same, Less-push_or xs ys p q (omega arith) (λ l. n (inr (sym same, l))) (λ rest. h (ap (λ z. z ∷ xs) same ∙ ap (λ zs. y ∷ zs) rest)))
      | inr other ↦ elim (less_or_more x y other) [ inl l ↦ inl l | inr m ↦ absurd (n (inl m)) ]
    ]

-- ---- the first of the least keys, where a key is followed by its place
abbrev pub ranked : (ℕ → List ℕ) → ℕ → List ℕ
ranked cost k = cost k ++ k ∷ []

pub IsLeast-none : (key : ℕ → List ℕ) (low : ℕ) → IsLeast key low (low + 1) low
IsLeast-none key low = record {
  from_low = omega arith;
  below_high = omega arith;
  least = λ k above below other. absurd (other (omega arith));
}

pub IsLeast-takes : (cost : ℕ → List ℕ) (low i b : ℕ) → IsLeast (ranked cost) low i b → Less (cost i) (cost b) →
    IsLeast (ranked cost) low (i + 1) i
IsLeast-takes cost low i b so_far less = record {
  from_low = omega (arith, so_far.from_low, so_far.below_high);
  below_high = omega arith;
  least = λ k above below other.
      let better : Less (ranked cost i) (ranked cost b) = Less-push (cost i) (cost b) i b less in
      elim (cases_eq k b) [
        | inl e ↦ subst (λ j. Less (ranked cost i) (ranked cost j)) (sym e) better
        | inr n ↦ Less-trans (ranked cost i) (ranked cost b) (ranked cost k) better (so_far.least k above (omega arith) n)
      ];
}

pub IsLeast-keeps : (cost : ℕ → List ℕ) (low i b : ℕ) → IsLeast (ranked cost) low i b → length (cost b) ≡ length (cost i) →
    ¬ Less (cost i) (cost b) → IsLeast (ranked cost) low (i + 1) b
IsLeast-keeps cost low i b so_far long not_less = record {
  from_low = so_far.from_low;
  below_high = omega (arith, so_far.below_high);
  least = λ k above below other. elim (cases_eq k i) [
    | inl e ↦ subst (λ j. Less (ranked cost b) (ranked cost j)) (sym e)
        (Less-push_tie (cost b) (cost i) b i long not_less so_far.below_high)
    | inr n ↦ so_far.least k above (omega arith) other
  ];
}

-- ---- keys that go on
pub Less-append : (xs ys ps qs : List ℕ) → Less xs ys → Less (xs ++ ps) (ys ++ qs)
Less-append [] ys ps qs h = absurd h
Less-append (x ∷ xs) [] ps qs h = absurd h
Less-append (x ∷ xs) (y ∷ ys) ps qs (inl h) = inl h
Less-append (x ∷ xs) (y ∷ ys) ps qs (inr h) = inr (h.0, Less-append xs ys ps qs h.1)

-- with the same number in between
pub Less-between : (r : ℕ) (xs ys ps qs : List ℕ) → length xs ≡ length ys → Less (xs ++ ps) (ys ++ qs) → Less (xs ++ r ∷ ps) (ys ++ r ∷ qs)
Less-between r [] [] ps qs e h = inr (refl, h)
Less-between r [] (y ∷ ys) ps qs e h = absurd (omega arith)
Less-between r (x ∷ xs) [] ps qs e h = absurd (omega arith)
Less-between r (x ∷ xs) (y ∷ ys) ps qs e (inl h) = inl h
Less-between r (x ∷ xs) (y ∷ ys) ps qs e (inr h) = inr (h.0, Less-between r xs ys ps qs (omega arith) h.1)
