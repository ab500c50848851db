-- Sums over lists, place by place, and how many of a list's elements there can be.
use Rattle.std.proofs.Common.{◌≡◌, ◌≢◌, ℕ, zero, suc, ◌+◌, ◌*◌, ◌≤◌, Bool, true, List, [], ◌∷◌, length, get_or, Option, None, nat_eq, nat_lt, eq-eqb, ne_eqb, length-append, arith, refl, ap, sym, ◌∙◌, inl, inr}
use Rattle.std.specs.List.{sum_by, count_by, flat_map}
use Rattle.std.proofs.Math.Nat.{mul-add}
use Rattle.std.proofs.lemmas.Bool.{cases_eq, cases_lt, lt-ltb, le-ltb}
use Rattle.std.proofs.lemmas.List.Sums.{sum_by-cons}
use Rattle.rt_tree_node.proofs.Counts.{count-append, count-one_yes, count-one_no}
use Rattle.rt_tree_node.proofs.Sums.{upto}

module _ {X : Type 0} where
  pub sum-same : (f g : X → ℕ) → ((x : X) → f x ≡ g x) → (xs : List X) → sum_by f xs ≡ sum_by g xs
  sum-same f g same [] = refl
  sum-same f g same (x ∷ xs) = omega (arith, sum_by-cons f x xs, sum_by-cons g x xs, same x, sum-same f g same xs)

  pub sum-added : (f g h : X → ℕ) → ((x : X) → h x ≡ f x + g x) → (xs : List X) → sum_by h xs ≡ sum_by f xs + sum_by g xs
  sum-added f g h is [] = refl
  sum-added f g h is (x ∷ xs) = omega (arith, sum_by-cons f x xs, sum_by-cons g x xs, sum_by-cons h x xs, is x, sum-added f g h is xs)

  pub sum-scaled : (m : ℕ) (f : X → ℕ) (xs : List X) → sum_by (λ x. m * f x) xs ≡ m * sum_by f xs
  sum-scaled m f [] = omega arith
  sum-scaled m f (x ∷ xs) =
      let step = ap (λ n. m * n) (sum_by-cons f x xs) ∙ mul-add m (f x) (sum_by f xs) in
      omega (arith, step, sum_by-cons (λ y. m * f y) x xs, sum-scaled m f xs)

  pub count-all : (xs : List X) → count_by (λ x. true) xs ≡ length xs
  count-all [] = refl
  count-all (x ∷ xs) = omega (arith, sum_by-cons {X = X} (λ y. 1) x xs, count-all xs)

module _ {X Y : Type 0} where
  pub count-flat : (test : Y → Bool) (part : X → List Y) (xs : List X) → count_by test (flat_map part xs) ≡ sum_by (λ x. count_by test (part x)) xs
  count-flat test part [] = refl
  count-flat test part (x ∷ xs) =
      omega (arith, count-append test (part x) (flat_map part xs), sum_by-cons (λ y. count_by test (part y)) x xs, count-flat test part xs)

  pub length-flat : (part : X → List Y) (xs : List X) → length (flat_map part xs) ≡ sum_by (λ x. length (part x)) xs
  length-flat part [] = refl
  length-flat part (x ∷ xs) =
      omega (arith, length-append (part x) (flat_map part xs), sum_by-cons (λ y. length (part y)) x xs, length-flat part xs)

module _ {T : Type 0} (f : Option T → ℕ) (nothing : f None ≡ 0) where
  pub sum-none : (xs : List (Option T)) → ((k : ℕ) → f (get_or xs k None) ≡ 0) → sum_by f xs ≡ 0
  sum-none [] h = refl
  sum-none (x ∷ xs) h = let here = h 0 in omega (arith, here, sum_by-cons f x xs, sum-none xs (λ k. h (suc k)))

  -- one place alone counts
  pub sum-only : (xs : List (Option T)) (key : ℕ) → ((k : ℕ) → k ≢ key → f (get_or xs k None) ≡ 0) → sum_by f xs ≡ f (get_or xs key None)
  sum-only [] key h = sym nothing
  sum-only (x ∷ xs) zero h = omega (arith, sum_by-cons f x xs, sum-none xs (λ k. h (suc k) (λ e. omega arith)))
  sum-only (x ∷ xs) (suc key) h =
      let here = h 0 (λ e. omega arith) in
      omega (arith, here, sum_by-cons f x xs, sum-only xs key (λ k ne. h (suc k) (λ e. ne (omega arith))))

  -- each place counts
  pub sum-each : (xs : List (Option T)) (key : ℕ) → f (get_or xs key None) ≤ sum_by f xs
  sum-each [] key = omega (arith, nothing)
  sum-each (x ∷ xs) zero = omega (arith, sum_by-cons f x xs)
  sum-each (x ∷ xs) (suc key) = omega (arith, sum_by-cons f x xs, sum-each xs key)

module _ {T : Type 0} (f g : Option T → ℕ) (f_nothing : f None ≡ 0) (g_nothing : g None ≡ 0) where
  pub sum-le : (xs : List (Option T)) → ((k : ℕ) → f (get_or xs k None) ≤ g (get_or xs k None)) → sum_by f xs ≤ sum_by g xs
  sum-le [] h = omega arith
  sum-le (x ∷ xs) h = let here = h 0 in omega (arith, here, sum_by-cons f x xs, sum_by-cons g x xs, sum-le xs (λ k. h (suc k)))

  -- at each place but one
  pub sum-le_but : (xs : List (Option T)) (key : ℕ) → ((k : ℕ) → k ≢ key → f (get_or xs k None) ≤ g (get_or xs k None)) →
      sum_by f xs + g (get_or xs key None) ≤ sum_by g xs + f (get_or xs key None)
  sum-le_but [] key h = omega (arith, f_nothing, g_nothing)
  sum-le_but (x ∷ xs) zero h =
      omega (arith, sum_by-cons f x xs, sum_by-cons g x xs, sum-le xs (λ k. h (suc k) (λ e. omega arith)))
  sum-le_but (x ∷ xs) (suc key) h =
      let here = h 0 (λ e. omega arith) in
      omega (arith, here, sum_by-cons f x xs, sum_by-cons g x xs, sum-le_but xs key (λ k ne. h (suc k) (λ e. ne (omega arith))))

module _ {X : Type 0} (number : X → ℕ) where
  -- how many of the elements have a number
  abbrev pub times_of : ℕ → List X → ℕ
  times_of k xs = count_by (λ x. nat_eq (number x) k) xs

  below : ℕ → List X → ℕ
  below n xs = count_by (λ x. nat_lt (number x) n) xs

  times-first : (x : X) (xs : List X) (k : ℕ) → times_of k (x ∷ xs) ≡ times_of k (x ∷ []) + times_of k xs
  times-first x xs k = count-append (λ y. nat_eq (number y) k) (x ∷ []) xs

  below-first : (n : ℕ) (x : X) (xs : List X) → below n (x ∷ xs) ≡ below n (x ∷ []) + below n xs
  unfolding below
  below-first n x xs = count-append (λ y. nat_lt (number y) n) (x ∷ []) xs

  one-more : (n : ℕ) (x : X) → below (suc n) (x ∷ []) ≡ below n (x ∷ []) + times_of n (x ∷ [])
  unfolding below
  one-more n x = elim (cases_eq (number x) n) [
    | inl e ↦
        let a = count-one_yes (λ y. nat_lt (number y) (suc n)) x (lt-ltb (number x) (suc n) (omega arith)) in
        let b = count-one_no (λ y. nat_lt (number y) n) x (le-ltb (number x) n (omega arith)) in
        let d = count-one_yes (λ y. nat_eq (number y) n) x (eq-eqb (number x) n e) in
        omega (arith, a, b, d)
    | inr ne ↦
        let d = count-one_no (λ y. nat_eq (number y) n) x (ne_eqb (number x) n ne) in
        elim (cases_lt (number x) n) [
          | inl lt ↦
              let a = count-one_yes (λ y. nat_lt (number y) (suc n)) x (lt-ltb (number x) (suc n) (omega arith)) in
              let b = count-one_yes (λ y. nat_lt (number y) n) x (lt-ltb (number x) n lt) in
              omega (arith, a, b, d)
          | inr ge ↦
              let a = count-one_no (λ y. nat_lt (number y) (suc n)) x (le-ltb (number x) (suc n) (omega arith)) in
              let b = count-one_no (λ y. nat_lt (number y) n) x (le-ltb (number x) n ge) in
              omega (arith, a, b, d)
        ]
  ]

  below-more : (n : ℕ) (xs : List X) → below (suc n) xs ≡ below n xs + times_of n xs
  unfolding below
  below-more n [] = refl
  below-more n (x ∷ xs) =
      omega (arith, below-first (suc n) x xs, below-first n x xs, times-first x xs n, one-more n x, below-more n xs)

  below-none : (xs : List X) → below 0 xs ≡ 0
  unfolding below
  below-none [] = refl
  below-none (x ∷ xs) =
      omega (arith, below-first 0 x xs, count-one_no (λ y. nat_lt (number y) 0) x (le-ltb (number x) 0 (omega arith)), below-none xs)

  below-all : (n : ℕ) (xs : List X) → ((k : ℕ) → n ≤ k → times_of k xs ≡ 0) → below n xs ≡ length xs
  unfolding below
  below-all n [] past = refl
  below-all n (x ∷ xs) past = elim (cases_lt (number x) n) [
    | inl lt ↦
        let a = count-one_yes (λ y. nat_lt (number y) n) x (lt-ltb (number x) n lt) in
        omega (arith, a, below-first n x xs, below-all n xs (λ k h. omega (arith, past k h, times-first x xs k)))
    | inr ge ↦
        let none = past (number x) ge in
        let one = count-one_yes (λ y. nat_eq (number y) (number x)) x (eq-eqb (number x) (number x) refl) in
        absurd (omega (arith, none, one, times-first x xs (number x)))
  ]

  below-le : (f : ℕ → ℕ) (xs : List X) → ((k : ℕ) → times_of k xs ≤ f k) → (n : ℕ) → below n xs ≤ upto f n
  unfolding upto
  below-le f xs few zero = omega (arith, below-none xs)
  below-le f xs few (suc n) = omega (arith, below-more n xs, few n, below-le f xs few n)

  -- the elements with number k are at most f k, so all of them are at most the sum of f
  pub length-few : (f : ℕ → ℕ) (n : ℕ) (xs : List X) → ((k : ℕ) → times_of k xs ≤ f k) → ((k : ℕ) → n ≤ k → f k ≡ 0) → length xs ≤ upto f n
  length-few f n xs few past =
      omega (arith, below-all n xs (λ k h. omega (arith, few k, past k h)), below-le f xs few n)
