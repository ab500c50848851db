-- What is in a list that was made from others, and what a look-up finds.
use Rattle.std.proofs.Common.{◌≡◌, ◌⊎◌, ℕ, zero, suc, ◌≤◌, Bool, true, cond, List, [], ◌∷◌, ◌++◌, map, Contains, Some, None, arith, refl, ap, sym, ◌∙◌, subst, inl, inr}
use Rattle.std.specs.Prelude.{find}
use Rattle.std.specs.List.{flat_map, count_by}
use Rattle.std.proofs.lemmas.Bool.{cases_Bool, true≢false}
use Rattle.rt_tree_node.proofs.Counts.{count-cons, count-some}

module _ {X : Type 0} where
  pub contains-here : (x : X) (xs : List X) → Contains (x ∷ xs) x
  contains-here x xs = (0, omega arith, refl)

  pub contains-later : (x y : X) (xs : List X) → Contains xs y → Contains (x ∷ xs) y
  contains-later x y xs (k, h, e) = (suc k, omega arith, e)

  pub contains-cases : (x y : X) (xs : List X) → Contains (x ∷ xs) y → (x ≡ y) ⊎ Contains xs y
  contains-cases x y xs (zero, h, e) = inl e
  contains-cases x y xs (suc k, h, e) = inr (k, omega arith, e)

  pub contains-none : (y : X) → Contains [] y → ⊥
  contains-none y h = absurd (omega (arith, h.1))

  pub contains-left : (xs ys : List X) (y : X) → Contains xs y → Contains (xs ++ ys) y
  contains-left [] ys y h = absurd (contains-none y h)
  contains-left (x ∷ xs) ys y h = elim (contains-cases x y xs h) [
    | inl e ↦ subst (Contains (x ∷ (xs ++ ys))) e (contains-here x (xs ++ ys))
    | inr l ↦ contains-later x y (xs ++ ys) (contains-left xs ys y l)
  ]

  pub contains-right : (xs ys : List X) (y : X) → Contains ys y → Contains (xs ++ ys) y
  contains-right [] ys y h = h
  contains-right (x ∷ xs) ys y h = contains-later x y (xs ++ ys) (contains-right xs ys y h)

  -- ---- look-ups
  pub find-one : (test : X → Bool) (xs : List X) (x : X) → Contains xs x → test x ≡ true → count_by test xs ≤ 1 → find test xs ≡ Some x
  find-one test [] x h holds one = absurd (contains-none x h)
  find-one test (y ∷ ys) x h holds one = elim (cases_Bool (test y)) [
    | inl e ↦ elim (contains-cases y x ys h) [
      | inl same ↦ ap (λ b. cond b (Some y) (find test ys)) e ∙ ap Some same
      | inr later ↦
          let here : ◌≡◌ {A = ℕ} (cond (test y) 1 0) 1 = ap (λ b. cond b 1 0) e in
          let more = count-some test ys later.0 x later.1 (ap test later.2 ∙ holds) in
          absurd (omega (arith, here, more, one, count-cons test y ys))
    ]
    | inr e ↦ ap (λ b. cond b (Some y) (find test ys)) e ∙ elim (contains-cases y x ys h) [
      | inl same ↦ absurd (true≢false (sym (ap test same ∙ holds) ∙ e))
      | inr later ↦ find-one test ys x later holds (omega (arith, one, count-cons test y ys))
    ]
  ]

  pub find-nothing : (test : X → Bool) (xs : List X) → count_by test xs ≡ 0 → find test xs ≡ None
  find-nothing test [] none = refl
  find-nothing test (y ∷ ys) none = elim (cases_Bool (test y)) [
    | inl e ↦
        let here : ◌≡◌ {A = ℕ} (cond (test y) 1 0) 1 = ap (λ b. cond b 1 0) e in
        absurd (omega (arith, here, none, count-cons test y ys))
    | inr e ↦ ap (λ b. cond b (Some y) (find test ys)) e ∙ find-nothing test ys (omega (arith, none, count-cons test y ys))
  ]

module _ {X Y : Type 0} where
  pub contains-map : (f : X → Y) (xs : List X) (x : X) → Contains xs x → Contains (map f xs) (f x)
  contains-map f [] x h = absurd (contains-none x h)
  contains-map f (y ∷ ys) x h = elim (contains-cases y x ys h) [
    | inl e ↦ subst (λ (z : X). Contains (map f (y ∷ ys)) (f z)) e (contains-here (f y) (map f ys))
    | inr l ↦ contains-later (f y) (f x) (map f ys) (contains-map f ys x l)
  ]

  pub contains-flat : (f : X → List Y) (xs : List X) (x : X) (y : Y) → Contains xs x → Contains (f x) y → Contains (flat_map f xs) y
  contains-flat f [] x y h there = absurd (contains-none x h)
  contains-flat f (z ∷ zs) x y h there = elim (contains-cases z x zs h) [
    | inl e ↦ contains-left (f z) (flat_map f zs) y (subst (λ (w : X). Contains (f w) y) (sym e) there)
    | inr l ↦ contains-right (f z) (flat_map f zs) y (contains-flat f zs x y l there)
  ]

  -- what is in a mapped list comes from the other
  pub contains-mapped : (f : X → Y) (xs : List X) (y : Y) → Contains (map f xs) y → (x : X) × Contains xs x × (f x ≡ y)
  contains-mapped f [] y h = absurd (contains-none y h)
  contains-mapped f (x ∷ xs) y h = elim (contains-cases (f x) y (map f xs) h) [
    | inl e ↦ (x, contains-here x xs, e)
    | inr l ↦ let r = contains-mapped f xs y l in (r.0, contains-later x r.0 xs r.1, r.2)
  ]
