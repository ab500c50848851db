-- Counts of what passes a test.
use Rattle.std.proofs.Common.{◌≡◌, ℕ, zero, suc, ◌+◌, ◌<◌, Bool, true, false, cond, List, [], ◌∷◌, ◌++◌, length, get_or, count_by, arith, refl, ap, ◌∙◌, inl, inr}
use Rattle.std.specs.List.{All, flat_map}
use Rattle.std.proofs.lemmas.Bool.{cases_Bool}
use Rattle.std.proofs.lemmas.List.Concat.{flat_map-append}
use Rattle.std.proofs.lemmas.List.Elements.{All-head, All-tail}
use Rattle.std.proofs.lemmas.List.Sums.{sum_by-cons, sum_by-append}

module _ {X : Type 0} (test : X → Bool) where
  pub count-cons : (x : X) (xs : List X) → count_by test (x ∷ xs) ≡ cond (test x) 1 0 + count_by test xs
  count-cons x xs = sum_by-cons (λ y. cond (test y) 1 0) x xs

  pub count-append : (xs ys : List X) → count_by test (xs ++ ys) ≡ count_by test xs + count_by test ys
  count-append xs ys = sum_by-append (λ y. cond (test y) 1 0) xs ys

  pub count-one_yes : (x : X) → test x ≡ true → count_by test (x ∷ []) ≡ 1
  count-one_yes x e = count-cons x [] ∙ ap (λ b. cond b 1 0 + 0) e

  pub count-one_no : (x : X) → test x ≡ false → count_by test (x ∷ []) ≡ 0
  count-one_no x e = count-cons x [] ∙ ap (λ b. cond b 1 0 + 0) e

  pub count-zero : (xs : List X) → All (λ x. test x ≡ false) xs → count_by test xs ≡ 0
  count-zero [] all = refl
  count-zero (x ∷ xs) all =
      let here : ◌≡◌ {A = ℕ} (cond (test x) 1 0) 0 = ap (λ b. cond b 1 0) (All-head (λ y. test y ≡ false) x xs all) in
      omega (arith, here, count-cons x xs, count-zero xs (All-tail (λ y. test y ≡ false) x xs all))

  -- what is counted is there
  pub count-find : (P : X → Type 0) (xs : List X) → All P xs → 0 < count_by test xs → (x : X) × (test x ≡ true) × P x
  count-find P [] all some = absurd (omega arith)
  count-find P (x ∷ xs) all some = elim (cases_Bool (test x)) [
    | inl holds ↦ (x, holds, All-head P x xs all)
    | inr fails ↦
        let here : ◌≡◌ {A = ℕ} (cond (test x) 1 0) 0 = ap (λ b. cond b 1 0) fails in
        count-find P xs (All-tail P x xs all) (omega (arith, here, count-cons x xs))
  ]

  -- what is there is counted
  pub count-some : (xs : List X) (k : ℕ) (d : X) → k < length xs → test (get_or xs k d) ≡ true → 0 < count_by test xs
  count-some [] k d within holds = absurd (omega arith)
  count-some (x ∷ xs) zero d within holds =
      let here : ◌≡◌ {A = ℕ} (cond (test x) 1 0) 1 = ap (λ b. cond b 1 0) holds in
      omega (arith, here, count-cons x xs)
  count-some (x ∷ xs) (suc k) d within holds = omega (arith, count-cons x xs, count-some xs k d (omega arith) holds)

module _ {X Y : Type 0} (test : Y → Bool) (part : X → List Y) where
  -- one element taken out of the middle
  pub count-middle : (xs : List X) (w : X) (ys : List X) →
      count_by test (flat_map part (xs ++ w ∷ ys)) ≡ count_by test (flat_map part (xs ++ ys)) + count_by test (part w)
  count-middle xs w ys =
      let a = ap (count_by test) (flat_map-append part xs (w ∷ ys)) in
      let b = ap (count_by test) (flat_map-append part xs ys) in
      omega (
        arith,
        a,
        b,
        count-append test (flat_map part xs) (part w ++ flat_map part ys),
        count-append test (part w) (flat_map part ys),
        count-append test (flat_map part xs) (flat_map part ys),
      )

  pub count-joined : (xs ys : List X) → count_by test (flat_map part (xs ++ ys)) ≡ count_by test (flat_map part xs) + count_by test (flat_map part ys)
  count-joined xs ys = ap (count_by test) (flat_map-append part xs ys) ∙ count-append test (flat_map part xs) (flat_map part ys)
