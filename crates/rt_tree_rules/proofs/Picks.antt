-- What is picked of a node by positions: how many cells, which, and how much they weigh in all.
use Rattle.std.proofs.Common.{◌≡◌, inl, inr, ℕ, zero, suc, ◌+◌, ◌<◌, ◌≤◌, Bool, true, false, cond, not, List, [], ◌∷◌, length, get_or, take, drop, sum_by, count_by, Option, Some, None, nat_eq, eq-eqb, ne_eqb, refl, sym, ap, ◌∙◌, subst, arith}
use Rattle.std.specs.Prelude.{◌||◌}
use Rattle.std.specs.List.{range_with_len, list_any, filter, slice_get, All}
use Rattle.std.specs.declared.cmp.Ordering.{Ordering}
use Rattle.std.proofs.lemmas.Bool.{cases_eq, cases_Bool}
use Rattle.std.proofs.lemmas.List.Sums.{sum_by-cons, sum_by-take-drop, length-filter}
use Rattle.std.proofs.lemmas.List.Filters.{sum_by-filter_both, length-filter_both}
use Rattle.std.proofs.lemmas.List.Elements.{All-nil, All-cons, All-head, All-tail}
use Rattle.std.proofs.lemmas.List.FromFn.{length-range_with_len}
use Rattle.std.proofs.lemmas.List.Sorted.{sum_by-IsPermutation}
use Rattle.std.proofs.lemmas.Option.{slice_get-get_or, slice_get_within, get_or_from_slice_get}
use Rattle.rt_tree_choice.specs.Sorting.{sort_by, positions}
use Rattle.rt_tree_choice.proofs.Sorted.{sort-permutes}
use Rattle.rt_tree_rules.specs.Placing.{picked}

-- the weight of an element that may be there
abbrev pub weight_of : {X : Type 0} → (X → ℕ) → Option X → ℕ
weight_of f None = 0
weight_of f (Some x) = f x

module _ {X : Type 0} where
  -- ---- what is picked

  picks_here : (P : X → Type 0) (xs : List X) (p : ℕ) (ps : List ℕ) (found : Option X) → slice_get xs p ≡ found → All P xs → All P (picked xs ps) →
      All P (picked xs (p ∷ ps))
  picks_here P xs p ps None is all rest = rw is rest
  picks_here P xs p ps (Some x) is all rest =
      let here : P x = subst P (get_or_from_slice_get xs p x x is) (all p x (slice_get_within xs p x is)) in
      rw is (All-cons P x (picked xs ps) here rest)

  pub All-picks : (P : X → Type 0) (xs : List X) (ps : List ℕ) → All P xs → All P (picked xs ps)
  All-picks P xs [] all = All-nil P
  All-picks P xs (p ∷ ps) all = picks_here P xs p ps (slice_get xs p) refl all (All-picks P xs ps all)

  weighs_here : (f : X → ℕ) (xs : List X) (p : ℕ) (ps : List ℕ) (found : Option X) → slice_get xs p ≡ found →
      sum_by f (picked xs (p ∷ ps)) ≡ weight_of f found + sum_by f (picked xs ps)
  weighs_here f xs p ps None is = rw is (omega arith)
  weighs_here f xs p ps (Some x) is = rw is (sum_by-cons f x (picked xs ps))

  -- the picked elements weigh what stands at the positions
  pub sum_by-picks : (f : X → ℕ) (xs : List X) (ps : List ℕ) → sum_by f (picked xs ps) ≡ sum_by (λ p. weight_of f (slice_get xs p)) ps
  sum_by-picks f xs [] = refl
  sum_by-picks f xs (p ∷ ps) =
      weighs_here f xs p ps (slice_get xs p) refl
      ∙ ap (λ n. weight_of f (slice_get xs p) + n) (sum_by-picks f xs ps)
      ∙ sym (sum_by-cons (λ q. weight_of f (slice_get xs q)) p ps)

  length_here : (xs : List X) (p : ℕ) (ps : List ℕ) → p < length xs → length (picked xs (p ∷ ps)) ≡ suc (length (picked xs ps))
  length_here [] p ps less = absurd (omega arith)
  length_here (x ∷ xs) p ps less = rw (slice_get-get_or (x ∷ xs) p x less) refl

  -- each position of the list picks one element
  pub length-picks : (xs : List X) (ps : List ℕ) → All (λ p. p < length xs) ps → length (picked xs ps) ≡ length ps
  length-picks xs [] within = refl
  length-picks xs (p ∷ ps) within =
      length_here xs p ps (All-head (λ q. q < length xs) p ps within) ∙ ap suc (length-picks xs ps (All-tail (λ q. q < length xs) p ps within))

  weighs_from : (f : X → ℕ) (get : ℕ → Option X) (low : ℕ) (xs : List X) → ((k : ℕ) → get (low + k) ≡ slice_get xs k) →
      sum_by (λ p. weight_of f (get p)) (range_with_len low (length xs)) ≡ sum_by f xs
  weighs_from f get low [] same = refl
  weighs_from f get low (x ∷ xs) same =
      let here : weight_of f (get low) ≡ f x = ap (λ (n : ℕ). weight_of f (get n)) (let e : low ≡ low + 0 = omega arith in e) ∙ ap (weight_of f) (same 0) in
      let later = weighs_from f get (low + 1) xs (λ k. ap get (let e : low + 1 + k ≡ low + suc k = omega arith in e) ∙ same (suc k)) in
      sum_by-cons (λ p. weight_of f (get p)) low (range_with_len (low + 1) (length xs))
      ∙ ap (λ n. n + sum_by (λ p. weight_of f (get p)) (range_with_len (low + 1) (length xs))) here
      ∙ ap (λ n. f x + n) later ∙ sym (sum_by-cons f x xs)

  -- all positions pick all elements
  pub sum_by-positions : (f : X → ℕ) (xs : List X) → sum_by (λ p. weight_of f (slice_get xs p)) (positions xs) ≡ sum_by f xs
  sum_by-positions f xs = weighs_from f (slice_get xs) 0 xs (λ k. ap (slice_get xs) (let e : 0 + k ≡ k = omega arith in e))

  -- the two parts of a sorting weigh what the list does
  pub parts_weigh : (f : X → ℕ) (xs : List X) (compare : ℕ → ℕ → Ordering) (n : ℕ) (ps : List ℕ) → ps ≡ positions xs →
      sum_by f (picked xs (take n (sort_by compare ps))) + sum_by f (picked xs (drop n (sort_by compare ps))) ≡ sum_by f xs
  parts_weigh f xs compare n ps all =
      let g = λ (p : ℕ). weight_of f (slice_get xs p) in
      let both = sum_by-take-drop g (sort_by compare ps) n in
      let moved = sum_by-IsPermutation g ps (sort_by compare ps) (sort-permutes compare ps) in
      let one = sum_by-picks f xs (take n (sort_by compare ps)) in
      let other = sum_by-picks f xs (drop n (sort_by compare ps)) in
      let whole = ap (λ qs. sum_by g qs) all ∙ sum_by-positions f xs in
      omega arith

-- ---- the positions that are not among some others

abbrev is_among : List ℕ → ℕ → Bool
is_among far p = list_any (nat_eq p) far

abbrev others : List ℕ → List ℕ → List ℕ
others far ps = filter (λ p. not (is_among far p)) ps

is_head : (p : ℕ) (far : List ℕ) → is_among (p ∷ far) p ≡ true
is_head p far = let e : nat_eq p p ≡ true = eq-eqb p p refl in rw e refl

is_later : (p q : ℕ) (far : List ℕ) → is_among far p ≡ true → is_among (q ∷ far) p ≡ true
is_later p q far is = elim (cases_Bool (nat_eq p q)) [ inl e ↦ rw e refl | inr e ↦ rw e is ]

all_among : (g : ℕ → ℕ) (far part : List ℕ) → All (λ p. is_among far p ≡ true) part →
    sum_by (λ p. cond (is_among far p) (g p) 0) part ≡ sum_by g part
all_among g far [] all = refl
all_among g far (p ∷ part) all =
    let here : cond (is_among far p) (g p) 0 ≡ g p = ap (λ b. cond b (g p) 0) (All-head (λ q. is_among far q ≡ true) p part all) in
    let later = all_among g far part (All-tail (λ q. is_among far q ≡ true) p part all) in
    omega (arith, sum_by-cons (λ q. cond (is_among far q) (g q) 0) p part, sum_by-cons g p part)

each_among : (far : List ℕ) → All (λ p. is_among far p ≡ true) far
each_among [] = All-nil (λ p. is_among [] p ≡ true)
each_among (q ∷ far) =
    let rest = each_among far in
    All-cons (λ p. is_among (q ∷ far) p ≡ true) q far (is_head q far) (λ k d h. is_later (get_or far k d) q far (rest k d h))

filter_here : (g : ℕ → ℕ) (test : ℕ → Bool) (p : ℕ) (ps : List ℕ) (b : Bool) → test p ≡ b →
    sum_by g (filter test (p ∷ ps)) ≡ cond b (g p) 0 + sum_by g (filter test ps)
filter_here g test p ps true is = rw is (sum_by-cons g p (filter test ps))
filter_here g test p ps false is = rw is (omega arith)

sum_by-filter : (g : ℕ → ℕ) (test : ℕ → Bool) (ps : List ℕ) → sum_by g (filter test ps) ≡ sum_by (λ p. cond (test p) (g p) 0) ps
sum_by-filter g test [] = refl
sum_by-filter g test (p ∷ ps) =
    filter_here g test p ps (test p) refl
    ∙ ap (λ n. cond (test p) (g p) 0 + n) (sum_by-filter g test ps)
    ∙ sym (sum_by-cons (λ q. cond (test q) (g q) 0) p ps)

-- the positions from a place of a sorting on, and those that are not among them, weigh no more than all
pub others_weigh : (g : ℕ → ℕ) (compare : ℕ → ℕ → Ordering) (n : ℕ) (ps : List ℕ) →
    sum_by g (others (drop n (sort_by compare ps)) ps) + sum_by g (drop n (sort_by compare ps)) ≤ sum_by g ps
others_weigh g compare n ps =
    let sorted = sort_by compare ps in
    let far = drop n sorted in
    let h = λ (p : ℕ). cond (is_among far p) (g p) 0 in
    let both = sum_by-filter_both (λ p. not (is_among far p)) (is_among far) (λ p. twice (is_among far p)) g ps in
    let within = sum_by-filter g (is_among far) ps in
    let moved = sum_by-IsPermutation h ps sorted (sort-permutes compare ps) in
    let parts = sum_by-take-drop h sorted n in
    let all = all_among g far far (each_among far) in
    omega arith
  where
    twice : (b : Bool) → b ≡ not (not b)
    twice true = refl
    twice false = refl

-- ---- how many are left

counts_one : (q low n : ℕ) → count_by (λ p. nat_eq p q) (range_with_len low n) ≤ 1
counts_one q low zero = omega arith
counts_one q low (suc n) =
    let whole = sum_by-cons (λ p. cond (nat_eq p q) 1 0) low (range_with_len (low + 1) n) in
    elim (cases_eq low q) [
      | inl e ↦
          let here : ◌≡◌ {A = ℕ} (cond (nat_eq low q) 1 0) 1 = ap (λ b. cond b 1 0) (eq-eqb low q e) in
          let none = counts_none q (low + 1) n (omega arith) in
          omega arith
      | inr other ↦
          let here : ◌≡◌ {A = ℕ} (cond (nat_eq low q) 1 0) 0 = ap (λ b. cond b 1 0) (ne_eqb low q other) in
          let rest = counts_one q (low + 1) n in
          omega arith
    ]
  where
    counts_none : (q low n : ℕ) → q < low → count_by (λ p. nat_eq p q) (range_with_len low n) ≡ 0
    counts_none q low zero less = refl
    counts_none q low (suc n) less =
        let here : ◌≡◌ {A = ℕ} (cond (nat_eq low q) 1 0) 0 = ap (λ b. cond b 1 0) (ne_eqb low q (λ e. absurd (omega arith))) in
        omega (arith, sum_by-cons (λ p. cond (nat_eq p q) 1 0) low (range_with_len (low + 1) n), counts_none q (low + 1) n (omega arith))

counts_more : (q : ℕ) (far ps : List ℕ) → count_by (is_among (q ∷ far)) ps ≤ count_by (λ p. nat_eq p q) ps + count_by (is_among far) ps
counts_more q far [] = omega arith
counts_more q far (p ∷ ps) =
    let rest = counts_more q far ps in
    let whole = sum_by-cons (λ r. cond (is_among (q ∷ far) r) 1 0) p ps in
    let one = sum_by-cons (λ r. cond (nat_eq r q) 1 0) p ps in
    let other = sum_by-cons (λ r. cond (is_among far r) 1 0) p ps in
    let here : cond (is_among (q ∷ far) p) 1 0 ≤ cond (nat_eq p q) 1 0 + cond (is_among far p) 1 0 = either (nat_eq p q) (is_among far p) in
    omega arith
  where
    either : (a b : Bool) → cond (a || b) 1 0 ≤ cond a 1 0 + cond b 1 0
    either true true = omega arith
    either true false = omega arith
    either false true = omega arith
    either false false = omega arith

counts_all : (far : List ℕ) (low n : ℕ) → count_by (is_among far) (range_with_len low n) ≤ length far
counts_all [] low n = let none = counts_nothing low n in omega arith
  where
    counts_nothing : (low n : ℕ) → count_by (is_among []) (range_with_len low n) ≡ 0
    counts_nothing low zero = refl
    counts_nothing low (suc n) = omega (arith, sum_by-cons (λ p. cond (is_among [] p) 1 0) low (range_with_len (low + 1) n), counts_nothing (low + 1) n)
counts_all (q ∷ far) low n =
    omega (arith, counts_more q far (range_with_len low n), counts_one q low n, counts_all far low n)

-- all but as many positions as are named stay
pub others_many : (far : List ℕ) (low n : ℕ) → n ≤ length (others far (range_with_len low n)) + length far
others_many far low n =
    let both = length-filter_both (λ p. not (is_among far p)) (is_among far) (λ p. twice (is_among far p)) (range_with_len low n) in
    let within = length-filter (is_among far) (range_with_len low n) in
    omega (arith, counts_all far low n, length-range_with_len low n)
  where
    twice : (b : Bool) → b ≡ not (not b)
    twice true = refl
    twice false = refl
