-- Numbers for keys, summed over a list that has each key at most once.
use Rattle.std.proofs.Common.{◌≡◌, ◌≢◌, ℕ, zero, suc, ◌+◌, ◌*◌, ◌<◌, ◌≤◌, cond, List, [], ◌∷◌, ◌++◌, nat_eq, nat_lt, eq-eqb, ne_eqb, arith, refl, ap, sym, ◌∙◌, inl, inr}
use Rattle.std.specs.List.{sum_by}
use Rattle.std.proofs.lemmas.Bool.{cases_eq, cases_lt, lt-ltb, le-ltb}
use Rattle.std.proofs.lemmas.List.Sums.{sum_by-cons}
use Rattle.rt_tree_node.proofs.Counts.{count-append, count-one_yes, count-one_no}
use Rattle.rt_tree_node.proofs.Sums.{upto}
use Rattle.rt_tree_walk.specs.Search.{times}

-- ---- how often a key is listed
pub times-append : (k : ℕ) (xs ys : List ℕ) → times k (xs ++ ys) ≡ times k xs + times k ys
times-append k xs ys = count-append (λ x. nat_eq x k) xs ys

pub times-one : (k x : ℕ) → x ≡ k → times k (x ∷ []) ≡ 1
times-one k x e = count-one_yes (λ y. nat_eq y k) x (eq-eqb x k e)

pub times-other : (k x : ℕ) → x ≢ k → times k (x ∷ []) ≡ 0
times-other k x e = count-one_no (λ y. nat_eq y k) x (ne_eqb x k e)

pub times-cons : (k x : ℕ) (xs : List ℕ) → times k (x ∷ xs) ≡ times k (x ∷ []) + times k xs
times-cons k x xs = times-append k (x ∷ []) xs

pub times-is : (k x : ℕ) → 0 < times k (x ∷ []) → x ≡ k
times-is k x h = elim (cases_eq x k) [
  | inl e ↦ e
  | inr ne ↦ absurd (omega (arith, times-other k x ne))
]

-- ---- sums
module _ (f : ℕ → ℕ) where
  -- the sum of f over the listed keys below n
  part : ℕ → List ℕ → ℕ
  part n xs = sum_by (λ k. cond (nat_lt k n) (f k) 0) xs

  term-more : (n k : ℕ) → cond (nat_lt k (suc n)) (f k) 0 ≡ cond (nat_lt k n) (f k) 0 + times n (k ∷ []) * f n
  term-more n k = elim (cases_eq k n) [
    | inl e ↦
        let a : ◌≡◌ {A = ℕ} (cond (nat_lt k (suc n)) (f k) 0) (f k) = ap (λ b. cond b (f k) 0) (lt-ltb k (suc n) (omega arith)) in
        let b : ◌≡◌ {A = ℕ} (cond (nat_lt k n) (f k) 0) 0 = ap (λ b. cond b (f k) 0) (le-ltb k n (omega arith)) in
        let d : times n (k ∷ []) * f n ≡ f n = ap (λ t. t * f n) (times-one n k e) ∙ omega arith in
        omega (arith, a, b, d, ap f e)
    | inr ne ↦
        let d : times n (k ∷ []) * f n ≡ 0 = ap (λ t. t * f n) (times-other n k ne) ∙ omega arith in
        elim (cases_lt k n) [
          | inl lt ↦
              let a : ◌≡◌ {A = ℕ} (cond (nat_lt k (suc n)) (f k) 0) (f k) = ap (λ b. cond b (f k) 0) (lt-ltb k (suc n) (omega arith)) in
              let b : ◌≡◌ {A = ℕ} (cond (nat_lt k n) (f k) 0) (f k) = ap (λ b. cond b (f k) 0) (lt-ltb k n lt) in
              omega (arith, a, b, d)
          | inr ge ↦
              let a : ◌≡◌ {A = ℕ} (cond (nat_lt k (suc n)) (f k) 0) 0 = ap (λ b. cond b (f k) 0) (le-ltb k (suc n) (omega arith)) in
              let b : ◌≡◌ {A = ℕ} (cond (nat_lt k n) (f k) 0) 0 = ap (λ b. cond b (f k) 0) (le-ltb k n ge) in
              omega (arith, a, b, d)
        ]
  ]

  part-more : (n : ℕ) (xs : List ℕ) → part (suc n) xs ≡ part n xs + times n xs * f n
  unfolding part
  part-more n [] = omega arith
  part-more n (x ∷ xs) =
      let a = sum_by-cons (λ k. cond (nat_lt k (suc n)) (f k) 0) x xs in
      let b = sum_by-cons (λ k. cond (nat_lt k n) (f k) 0) x xs in
      let d : times n (x ∷ xs) * f n ≡ times n (x ∷ []) * f n + times n xs * f n = ap (λ t. t * f n) (times-cons n x xs) ∙ omega arith in
      omega (arith, a, b, d, part-more n xs, term-more n x)

  part-none : (xs : List ℕ) → part 0 xs ≡ 0
  unfolding part
  part-none [] = refl
  part-none (x ∷ xs) =
      let a = sum_by-cons (λ k. cond (nat_lt k 0) (f k) 0) x xs in
      let b : ◌≡◌ {A = ℕ} (cond (nat_lt x 0) (f x) 0) 0 = ap (λ b. cond b (f x) 0) (le-ltb x 0 (omega arith)) in
      omega (arith, a, b, part-none xs)

  part-whole : (n : ℕ) (xs : List ℕ) → ((k : ℕ) → n ≤ k → f k ≡ 0) → part n xs ≡ sum_by f xs
  unfolding part
  part-whole n [] past = refl
  part-whole n (x ∷ xs) past =
      let a = sum_by-cons (λ k. cond (nat_lt k n) (f k) 0) x xs in
      let b = sum_by-cons f x xs in
      let d : cond (nat_lt x n) (f x) 0 ≡ f x = elim (cases_lt x n) [
        | inl lt ↦ ap (λ b. cond b (f x) 0) (lt-ltb x n lt)
        | inr ge ↦ ap (λ b. cond b (f x) 0) (le-ltb x n ge) ∙ sym (past x ge)
      ] in
      omega (arith, a, b, d, part-whole n xs past)

  scaled-le : (t x : ℕ) → t ≤ 1 → t * x ≤ x
  scaled-le zero x h = omega arith
  scaled-le (suc zero) x h = omega arith
  scaled-le (suc (suc t)) x h = absurd (omega arith)

  scaled-same : (t x : ℕ) → t ≤ 1 → (0 < x → 0 < t) → t * x ≡ x
  scaled-same zero zero h some = refl
  scaled-same zero (suc x) h some = let k : 0 < 0 = some (omega arith) in absurd (omega arith)
  scaled-same (suc zero) x h some = omega arith
  scaled-same (suc (suc t)) x h some = absurd (omega arith)

  part-le : (xs : List ℕ) → ((k : ℕ) → times k xs ≤ 1) → (n : ℕ) → part n xs ≤ upto f n
  unfolding upto
  part-le xs once zero = omega (arith, part-none xs)
  part-le xs once (suc n) = omega (arith, part-more n xs, part-le xs once n, scaled-le (times n xs) (f n) (once n))

  part-same : (xs : List ℕ) → ((k : ℕ) → times k xs ≤ 1) → ((k : ℕ) → 0 < f k → 0 < times k xs) → (n : ℕ) → part n xs ≡ upto f n
  unfolding upto
  part-same xs once all zero = omega (arith, part-none xs)
  part-same xs once all (suc n) = omega (arith, part-more n xs, part-same xs once all n, scaled-same (times n xs) (f n) (once n) (all n))

  -- f is summed over the keys below n where each of them is listed once, except some at which f is 0
  pub sum-listed : (n : ℕ) (xs : List ℕ) → ((k : ℕ) → n ≤ k → f k ≡ 0) → ((k : ℕ) → times k xs ≤ 1) → ((k : ℕ) → 0 < f k → 0 < times k xs) →
      sum_by f xs ≡ upto f n
  sum-listed n xs past once all = sym (part-whole n xs past) ∙ part-same xs once all n

  pub sum-listed_le : (n : ℕ) (xs : List ℕ) → ((k : ℕ) → n ≤ k → f k ≡ 0) → ((k : ℕ) → times k xs ≤ 1) → sum_by f xs ≤ upto f n
  sum-listed_le n xs past once = omega (arith, part-whole n xs past, part-le xs once n)

  pub upto-le : ((k : ℕ) → f k ≤ 1) → (n : ℕ) → upto f n ≤ n
  unfolding upto
  upto-le few zero = omega arith
  upto-le few (suc n) = omega (arith, few n, upto-le few n)
