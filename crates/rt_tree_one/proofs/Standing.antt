-- What stands at a place of a list, and lists that stand in a list from a place on.
use Rattle.std.proofs.Common.{◌≡◌, ℕ, zero, suc, ◌+◌, ◌<◌, ◌≤◌, Bool, true, false, cond, List, [], ◌∷◌, ◌++◌, length, get_or, Some, refl, sym, ap, ◌∙◌, subst, arith}
use Rattle.std.specs.Prelude.{find}
use Rattle.std.specs.List.{All}
use Rattle.std.proofs.lemmas.Option.{same_Some}
use Rattle.rt_tree_one.proofs.Entries.{Each}

module _ {X : Type 0} where
  abbrev pub At : List X → ℕ → X → Type 0
  At [] k x = ⊥
  At (y ∷ ys) zero x = y ≡ x
  At (y ∷ ys) (suc k) x = At ys k x

  -- the second list stands in the first from the place on
  abbrev pub Stands : List X → ℕ → List X → Type 0
  Stands xs k [] = Unit {0}
  Stands xs k (y ∷ ys) = At xs k y × Stands xs (suc k) ys

  pub at-get : (xs : List X) (k : ℕ) (d : X) → k < length xs → At xs k (get_or xs k d)
  at-get [] k d within = absurd (omega arith)
  at-get (x ∷ xs) zero d within = refl
  at-get (x ∷ xs) (suc k) d within = at-get xs k d (omega arith)

  pub at-within : (xs : List X) (k : ℕ) (x : X) → At xs k x → k < length xs
  at-within [] k x here = absurd here
  at-within (y ∷ xs) zero x here = omega arith
  at-within (y ∷ xs) (suc k) x here = let h = at-within xs k x here in omega (arith, h)

  pub at-is : (xs : List X) (k : ℕ) (x d : X) → At xs k x → get_or xs k d ≡ x
  at-is [] k x d here = absurd here
  at-is (y ∷ xs) zero x d here = here
  at-is (y ∷ xs) (suc k) x d here = at-is xs k x d here

  -- one element stands at a place
  pub at_once : (xs : List X) (k : ℕ) (x y : X) → At xs k x → At xs k y → x ≡ y
  at_once xs k x y here there = sym (at-is xs k x x here) ∙ at-is xs k y x there

  pub each-at : (P : X → Type 0) (xs : List X) (k : ℕ) (x : X) → Each P xs → At xs k x → P x
  each-at P [] k x all here = absurd here
  each-at P (y ∷ xs) zero x all here = subst P here all.0
  each-at P (y ∷ xs) (suc k) x all here = each-at P xs k x all.1 here

  pub each-from : (P : X → Type 0) (xs : List X) → ((k : ℕ) (x : X) → At xs k x → P x) → Each P xs
  each-from P [] all = tt
  each-from P (x ∷ xs) all = (all 0 x refl, each-from P xs (λ k y here. all (suc k) y here))

  pub all-at : (P : X → Type 0) (xs : List X) (k : ℕ) (x : X) → All P xs → At xs k x → P x
  all-at P xs k x all here = subst P (at-is xs k x x here) (all k x (at-within xs k x here))

  pub stands-append : (xs : List X) (k : ℕ) (ys zs : List X) → Stands xs k ys → Stands xs (k + length ys) zs → Stands xs k (ys ++ zs)
  stands-append xs k [] zs first second = subst (λ (i : ℕ). Stands xs i zs) (omega arith) second
  stands-append xs k (y ∷ ys) zs first second =
      (first.0, stands-append xs (suc k) ys zs first.1 (subst (λ (i : ℕ). Stands xs i zs) (omega arith) second))

  pub stands-within : (xs : List X) (k : ℕ) (ys : List X) → k ≤ length xs → Stands xs k ys → k + length ys ≤ length xs
  stands-within xs k [] inside stands = omega arith
  stands-within xs k (y ∷ ys) inside stands =
      let here = at-within xs k y stands.0 in
      let rest = stands-within xs (suc k) ys (omega (arith, here)) stands.1 in
      omega (arith, rest)

  stands-later : (x : X) (xs : List X) (k : ℕ) (ys : List X) → Stands (x ∷ xs) (suc k) ys → Stands xs k ys
  stands-later x xs k [] stands = tt
  stands-later x xs k (y ∷ ys) stands = (stands.0, stands-later x xs (suc k) ys stands.1)

  pub stands-whole : (xs ys : List X) → Stands xs 0 ys → length xs ≡ length ys → xs ≡ ys
  stands-whole [] [] stands long = refl
  stands-whole [] (y ∷ ys) stands long = absurd stands.0
  stands-whole (x ∷ xs) [] stands long = absurd (omega (arith, long))
  stands-whole (x ∷ xs) (y ∷ ys) stands long =
      let rest = stands-whole xs ys (stands-later x xs 0 ys stands.1) (omega (arith, long)) in
      ap (λ (z : X). z ∷ xs) stands.0 ∙ ap (λ (zs : List X). y ∷ zs) rest

  module _ (test : X → Bool) where
    found_by : (x y : X) (xs : List X) (b : Bool) → test y ≡ b → cond b (Some y) (find test xs) ≡ Some x →
        (find test xs ≡ Some x → (k : ℕ) × At xs k x × (test x ≡ true)) → (k : ℕ) × At (y ∷ xs) k x × (test x ≡ true)
    found_by x y xs true is e later = let same = same_Some y x e in (0, same, ap test (sym same) ∙ is)
    found_by x y xs false is e later = let there = later e in (suc there.0, there.1, there.2)

    -- what is found stands there
    pub found-at : (xs : List X) (x : X) → find test xs ≡ Some x → (k : ℕ) × At xs k x × (test x ≡ true)
    found-at [] x e = let none : ⊥ = cc in absurd none
    found-at (y ∷ xs) x e = found_by x y xs (test y) refl e (found-at xs x)

    finds_by : (y : X) (xs : List X) (b : Bool) → test y ≡ b → (b ≡ false → (x : X) × (find test xs ≡ Some x)) →
        (x : X) × (cond b (Some y) (find test xs) ≡ Some x)
    finds_by y xs true is later = (y, refl)
    finds_by y xs false is later = later refl

    -- where one that passes stands, one is found
    pub at-finds : (xs : List X) (k : ℕ) (x : X) → At xs k x → test x ≡ true → (y : X) × (find test xs ≡ Some y)
    at-finds [] k x here passes = absurd here
    at-finds (y ∷ xs) zero x here passes = (y, ap (λ (b : Bool). cond b (Some y) (find test xs)) (ap test here ∙ passes))
    at-finds (y ∷ xs) (suc k) x here passes = finds_by y xs (test y) refl (λ other. at-finds xs k x here passes)
