-- Lists in the order of their keys in which each element occurs equally often are the same list.
use Rattle.std.proofs.Common.{◌≡◌, ℕ, suc, ◌+◌, ◌<◌, Bool, true, false, ◌&&◌, cond, ℤ, ◌≤ℤ◌, List, [], ◌∷◌, length, get_or, Contains, Some, arith, refl, ap, sym, ◌∙◌, subst, inl, inr}
use Rattle.std.specs.Prelude.{◌<ℤ◌, filter}
use Rattle.std.specs.List.{AllByRecursion, count_by, sum_by}
use Rattle.std.specs.List.Sorted.{IsPermutation, IsSortedByKey}
use Rattle.std.specs.Ordering.{int_eq, int_cmp, is_lt}
use Rattle.std.proofs.lemmas.Bool.{cases_Bool, true≢false}
use Rattle.std.proofs.lemmas.Cmp.{int_ranked, by_ranked}
use Rattle.std.proofs.lemmas.Int.{ints}
use Rattle.std.proofs.lemmas.List.Elements.{All-from_recursion}
use Rattle.std.proofs.lemmas.List.Recursion.{is_sum_by}
use Rattle.std.proofs.lemmas.List.Sorted.{sum_by-IsPermutation}
use Rattle.rt_tree_node.proofs.Counts.{count-cons, count-some}
use Rattle.rt_tree_walk.proofs.Reaching.{All_contained, counted-contained}
use Rattle.rt_tree.proofs.Members.{contains-cases, contains-here, contains-later, contains-none}
use Rattle.rt_live.proofs.Order.{eq_same, eq_above}
use Rattle.rt_live.proofs.Sorted.{at_key, Rises}

-- ---- counts

module _ {X : Type 0} where
  pub count_alike : (f g : X → Bool) (xs : List X) → ((x : X) → Contains xs x → f x ≡ g x) → count_by f xs ≡ count_by g xs
  count_alike f g [] same = refl
  count_alike f g (x ∷ xs) same =
      let here : ◌≡◌ {A = ℕ} (cond (f x) 1 0) (cond (g x) 1 0) = ap (λ b. cond b 1 0) (same x (contains-here x xs)) in
      omega (arith, here, count-cons f x xs, count-cons g x xs, count_alike f g xs (λ y h. same y (contains-later x y xs h)))

  -- of what passes one test, as many pass another as pass both
  pub count_kept : (p test : X → Bool) (xs : List X) → count_by test (filter p xs) ≡ count_by (λ x. p x && test x) xs
  count_kept p test [] = refl
  count_kept p test (x ∷ xs) = elim (cases_Bool (p x)) [
    | inl e ↦
        let kept : count_by test (filter p (x ∷ xs)) ≡ count_by test (x ∷ filter p xs) = ap (λ b. count_by test (cond b (x ∷ filter p xs) (filter p xs))) e in
        let here : ◌≡◌ {A = ℕ} (cond (p x && test x) 1 0) (cond (test x) 1 0) = ap (λ b. cond (b && test x) 1 0) e in
        omega (arith, kept, here, count-cons test x (filter p xs), count-cons (λ y. p y && test y) x xs, count_kept p test xs)
    | inr e ↦
        let kept : count_by test (filter p (x ∷ xs)) ≡ count_by test (filter p xs) = ap (λ b. count_by test (cond b (x ∷ filter p xs) (filter p xs))) e in
        let here : ◌≡◌ {A = ℕ} (cond (p x && test x) 1 0) 0 = ap (λ b. cond (b && test x) 1 0) e in
        omega (arith, kept, here, count-cons (λ y. p y && test y) x xs, count_kept p test xs)
  ]

  pub count_permuted : (test : X → Bool) (xs ys : List X) → IsPermutation xs ys → count_by test ys ≡ count_by test xs
  count_permuted test xs ys moved = sym (summed ys) ∙ sum_by-IsPermutation (λ x. cond (test x) 1 0) xs ys moved ∙ summed xs
    where
      summed : (zs : List X) → sum_by (λ x. cond (test x) 1 0) zs ≡ count_by test zs
      summed zs = sym (is_sum_by (count_by test) (λ x. cond (test x) 1 0) refl (λ x xs. count-cons test x xs) zs)

module _ {X : Type 0} (key : X → ℤ) where
  -- ---- order

  -- no key is below one before it
  abbrev pub Climbs : List X → Type 0
  Climbs [] = Unit {0}
  Climbs (x ∷ xs) = AllByRecursion (λ y. key x ≤ℤ key y) xs × Climbs xs

  below_more : (x y : X) (xs : List X) → key x ≤ℤ key y → AllByRecursion (λ z. key y ≤ℤ key z) xs → AllByRecursion (λ z. key x ≤ℤ key z) xs
  below_more x y [] le below = tt
  below_more x y (z ∷ xs) le below = (omega (arith, ints, le, below.0), below_more x y xs le below.1)

  pub climbs : (xs : List X) → ((k j : ℕ) (d : X) → j ≡ k + 1 → j < length xs → key (get_or xs k d) ≤ℤ key (get_or xs j d)) → Climbs xs
  climbs [] step = tt
  climbs (x ∷ []) step = (tt, tt)
  climbs (x ∷ y ∷ xs) step =
      let rest = climbs (y ∷ xs) (λ k j d e h. step (suc k) (suc j) d (omega arith) (omega arith)) in
      let here : key x ≤ℤ key y = step 0 1 x refl (omega arith) in
      ((here, below_more x y xs here rest.0), rest)

  not_below : (a b : ℤ) → is_lt (int_cmp b a) ≡ false → a ≤ℤ b
  not_below a b e = by_ranked _ _ _ (int_cmp b a) (int_ranked b a (int_cmp b a) refl)
      (λ is h. absurd (true≢false (sym (ap is_lt is) ∙ e)))
      (λ is h. omega (arith, ints, h))
      (λ is h. omega (arith, ints, h))

  pub sorted_climbs : (xs : List X) → IsSortedByKey key int_cmp xs → Climbs xs
  sorted_climbs xs sorted = climbs xs (λ k j d e h.
      subst (λ (i : ℕ). key (get_or xs k d) ≤ℤ key (get_or xs i d)) (sym e)
      (not_below (key (get_or xs k d)) (key (get_or xs (k + 1) d)) (sorted k d (omega arith) (omega arith))))

  -- what is in a rising list stands at its key
  pub at_own_key : (xs : List X) (x : X) → Rises key xs → Contains xs x → at_key key xs (key x) ≡ Some x
  at_own_key [] x rise h = absurd (contains-none x h)
  at_own_key (y ∷ ys) x rise h = elim (contains-cases y x ys h) [
    | inl same ↦ ap (λ (z : X). cond (int_eq (key z) (key y)) (Some y) (at_key key ys (key z))) (sym same) ∙ ap (λ b. cond b (Some y) (at_key key ys (key y))) (eq_same (key y)) ∙ ap Some same
    | inr more ↦
        let above = All_contained (λ z. key y <ℤ key z) ys x (All-from_recursion (λ z. key y <ℤ key z) ys rise.0) more in
        ap (λ b. cond b (Some y) (at_key key ys (key x))) (eq_above (key x) (key y) above) ∙ at_own_key ys x rise.1 more
  ]

  module _ (same : X → X → Bool) (itself : (x : X) → same x x ≡ true) (is_same : (x y : X) → same x y ≡ true → x ≡ y) where
    pub counted_in_both : (xs ys : List X) → ((test : X → Bool) → count_by test xs ≡ count_by test ys) → (x : X) → Contains xs x → Contains ys x
    counted_in_both xs ys counts x there =
        let some = count-some (same x) xs there.0 x there.1 (ap (same x) there.2 ∙ itself x) in
        let other = counted-contained (same x) ys (omega (arith, some, counts (same x))) in
        subst (Contains ys) (sym (is_same x other.0 other.2)) other.1

    first_same : (x y : X) (xs ys : List X) → Climbs (x ∷ xs) → Rises key (y ∷ ys) →
        ((test : X → Bool) → count_by test (x ∷ xs) ≡ count_by test (y ∷ ys)) → x ≡ y
    first_same x y xs ys climb rise counts =
        elim (contains-cases y x ys (counted_in_both (x ∷ xs) (y ∷ ys) counts x (contains-here x xs))) [
          | inl e ↦ sym e
          | inr later ↦ elim (contains-cases x y xs (counted_in_both (y ∷ ys) (x ∷ xs) (λ test. sym (counts test)) y (contains-here y ys))) [
            | inl e ↦ e
            | inr after ↦
                let below = All_contained (λ z. key y <ℤ key z) ys x (All-from_recursion (λ z. key y <ℤ key z) ys rise.0) later in
                let above = All_contained (λ z. key x ≤ℤ key z) xs y (All-from_recursion (λ z. key x ≤ℤ key z) xs climb.0) after in
                absurd (omega (arith, ints, below, above))
          ]
        ]

    pub same_counts : (xs ys : List X) → Climbs xs → Rises key ys → ((test : X → Bool) → count_by test xs ≡ count_by test ys) → xs ≡ ys
    same_counts [] [] climb rise counts = refl
    same_counts [] (y ∷ ys) climb rise counts = absurd (contains-none y (counted_in_both (y ∷ ys) [] (λ test. sym (counts test)) y (contains-here y ys)))
    same_counts (x ∷ xs) [] climb rise counts = absurd (contains-none x (counted_in_both (x ∷ xs) [] counts x (contains-here x xs)))
    same_counts (x ∷ xs) (y ∷ ys) climb rise counts =
        let first = first_same x y xs ys climb rise counts in
        let rest : (test : X → Bool) → count_by test xs ≡ count_by test ys =
        λ test. let here : ◌≡◌ {A = ℕ} (cond (test x) 1 0) (cond (test y) 1 0) = ap (λ z. cond (test z) 1 0) first in
        omega (arith, here, counts test, count-cons test x xs, count-cons test y ys) in
        ap (λ z. z ∷ xs) first ∙ ap (λ zs. y ∷ zs) (same_counts xs ys climb.1 rise.1 rest)
