-- Sums over the places of a list or a slab.
use Rattle.std.proofs.Common.{◌≡◌, ◌≢◌, ℕ, zero, suc, ◌+◌, ◌≤◌, List, [], ◌∷◌, length, get_or, take, Option, None, sum_by, arith, refl, ap, ◌∙◌}
use Rattle.std.proofs.lemmas.List.{take_more, take_all}
use Rattle.std.proofs.lemmas.List.Sums.{sum_by-cons, sum_by-append}
use Rattle.slab.specs.Slab.{Slab, get, Updates}
use Rattle.rt_tree_node.specs.Node.{NodeCells}
use Rattle.rt_tree_node.specs.Places.{sum_over}

module _ {X : Type 0} (f : Option X → ℕ) (nothing : f None ≡ 0) where
  pub sums-same : (xs ys : List (Option X)) → ((k : ℕ) → f (get_or ys k None) ≡ f (get_or xs k None)) → sum_by f ys ≡ sum_by f xs
  sums-same [] [] same = refl
  sums-same [] (y ∷ ys) same =
      let here = same 0 in
      omega (arith, here, sum_by-cons f y ys, sums-same [] ys (λ k. same (suc k)))
  sums-same (x ∷ xs) [] same =
      let here = same 0 in
      omega (arith, here, sum_by-cons f x xs, sums-same xs [] (λ k. same (suc k)))
  sums-same (x ∷ xs) (y ∷ ys) same =
      let here = same 0 in
      omega (arith, here, sum_by-cons f x xs, sum_by-cons f y ys, sums-same xs ys (λ k. same (suc k)))

  -- the same at each place but one
  pub sums-but : (xs ys : List (Option X)) (key : ℕ) → ((k : ℕ) → k ≢ key → f (get_or ys k None) ≡ f (get_or xs k None)) →
      sum_by f ys + f (get_or xs key None) ≡ sum_by f xs + f (get_or ys key None)
  sums-but [] [] key same = refl
  sums-but [] (y ∷ ys) zero same =
      omega (arith, nothing, sum_by-cons f y ys, sums-same [] ys (λ k. same (suc k) (λ e. omega arith)))
  sums-but [] (y ∷ ys) (suc key) same =
      let here = same 0 (λ e. omega arith) in
      omega (arith, nothing, here, sum_by-cons f y ys, sums-but [] ys key (λ k ne. same (suc k) (λ e. ne (omega arith))))
  sums-but (x ∷ xs) [] zero same =
      omega (arith, nothing, sum_by-cons f x xs, sums-same xs [] (λ k. same (suc k) (λ e. omega arith)))
  sums-but (x ∷ xs) [] (suc key) same =
      let here = same 0 (λ e. omega arith) in
      omega (arith, nothing, here, sum_by-cons f x xs, sums-but xs [] key (λ k ne. same (suc k) (λ e. ne (omega arith))))
  sums-but (x ∷ xs) (y ∷ ys) zero same =
      omega (arith, sum_by-cons f x xs, sum_by-cons f y ys, sums-same xs ys (λ k. same (suc k) (λ e. omega arith)))
  sums-but (x ∷ xs) (y ∷ ys) (suc key) same =
      let here = same 0 (λ e. omega arith) in
      omega (arith, here, sum_by-cons f x xs, sum_by-cons f y ys, sums-but xs ys key (λ k ne. same (suc k) (λ e. ne (omega arith))))

module _ {D : ℕ} where
  -- a sum over the places, where one of them changed
  pub sum_over-updated : (F : Option (NodeCells D) → ℕ) → F None ≡ 0 → (a b : Slab (NodeCells D)) (k : ℕ) (slot : Option (NodeCells D)) →
      Updates a b k slot → sum_over F b + F (get a k) ≡ sum_over F a + F slot
  sum_over-updated F none a b k slot u =
      let step = sums-but F none a.slots b.slots k (λ i other. ap F (u.others i other)) in
      let here = ap F u.changed in
      omega (arith, step, here)

-- the sum of the numbers of all keys below n
unfoldable pub upto : (ℕ → ℕ) → ℕ → ℕ
upto f zero = 0
upto f (suc n) = upto f n + f n

module _ {X : Type 0} (m : X → ℕ) (xs : List X) (d : X) where
  upto-taken : (n : ℕ) → n ≤ length xs → upto (λ k. m (get_or xs k d)) n ≡ sum_by m (take n xs)
  unfolding upto
  upto-taken zero h = refl
  upto-taken (suc n) h =
      let e : suc n ≡ n + 1 = omega arith in
      let a = ap (λ i. sum_by m (take i xs)) e ∙ ap (sum_by m) (take_more xs n d (omega arith)) in
      let b = sum_by-append m (take n xs) (get_or xs n d ∷ []) in
      omega (arith, a, b, upto-taken n (omega arith))

  -- the sum over the places of a list
  pub upto-list : upto (λ k. m (get_or xs k d)) (length xs) ≡ sum_by m xs
  upto-list = upto-taken (length xs) (omega arith) ∙ ap (sum_by m) (take_all (length xs) xs (omega arith))
