-- The pairs of one tree's rows, each with the lower id on the left.
use Rattle.std.proofs.Common.{◌≡◌, ℕ, ◌+◌, ◌≤◌, Bool, true, false, cond, ltb, ℤ, pos, negsuc, ◌⊎◌, List, [], ◌∷◌, ◌++◌, map, arith, refl, ap, sym, ◌∙◌, inl, inr}
use Rattle.std.specs.Prelude.{◌&&◌, int_lt}
use Rattle.std.specs.List.{count_by, filter}
use Rattle.std.specs.Ordering.{int_eq}
use Rattle.std.proofs.lemmas.Bool.{cases_Bool, cases_lt, true≢false, lt-ltb, le-ltb}
use Rattle.std.proofs.lemmas.Bool.Decides.{Decides-int_eq}
use Rattle.rt_tree_node.specs.declared.arena.Arena.{Arena}
use Rattle.rt_tree_node.proofs.Counts.{count-cons, count-append}
use Rattle.rt_tree_walk.specs.declared.searching.Row.{Row}
use Rattle.rt_tree_walk.proofs.Judging.{count-mapped}
use Rattle.rt_tree_walk.proofs.Progress.{IsSettled}
use Rattle.rt_tree_walk.specs.Rows.{rows_in}
use Rattle.rt_tree_walk.proofs.Below.{ids-apart}
use Rattle.rt_tree_join.specs.declared.joining.Pair.{Pair}
use Rattle.rt_tree_join.specs.Join.{touch, pair_of, pairs_with, touching_pairs, touching_within, rises, has_ids, JoinsItself}
use Rattle.rt_tree_join.specs.Itself.{in_order, pairs_within}
use Rattle.rt_tree_join.proofs.Boxes.{touch-same}
use Rattle.rt_tree_join.proofs.Counting.{right-joined, sum-filter_le}
use Rattle.rt_tree_join.proofs.Once.{pairs-once}

-- of what a filter keeps that passes a test which passes both
filter-counted : {X : Type 0} (test p : X → Bool) (xs : List X) → count_by test (filter p xs) ≡ count_by (λ x. p x && test x) xs
filter-counted test p [] = refl
filter-counted test p (x ∷ xs) = elim (cases_Bool (p x)) [
  | inl e ↦
      let kept = ap (λ b. count_by test (cond b (x ∷ filter p xs) (filter p xs))) e in
      let here : ◌≡◌ {A = ℕ} (cond (p x && test x) 1 0) (cond (test x) 1 0) = ap (λ b. cond (b && test x) 1 0) e in
      omega (arith, kept, here, count-cons test x (filter p xs), count-cons (λ y. p y && test y) x xs, filter-counted test p xs)
  | inr e ↦
      let left = ap (λ b. count_by test (cond b (x ∷ filter p xs) (filter p xs))) e in
      let here : ◌≡◌ {A = ℕ} (cond (p x && test x) 1 0) 0 = ap (λ b. cond (b && test x) 1 0) e in
      omega (arith, left, here, count-cons (λ y. p y && test y) x xs, filter-counted test p xs)
]

-- one of two different numbers is less
nat-less : (a b : ℕ) → (a ≡ b → ⊥) → ((ltb a b ≡ true) × (ltb b a ≡ false)) ⊎ ((ltb a b ≡ false) × (ltb b a ≡ true))
nat-less a b ne = elim (cases_lt a b) [
  | inl h ↦ inl (lt-ltb a b h, le-ltb b a (omega (arith, h)))
  | inr h ↦ inr (le-ltb a b h, lt-ltb b a (omega (arith, h, ne)))
]

apart : (x y : ℤ) → int_eq x y ≡ false → x ≡ y → ⊥
apart x y e same = true≢false (sym ((Decides-int_eq x y).1 same) ∙ e)

one-less : (x y : ℤ) → int_eq x y ≡ false → ((int_lt x y ≡ true) × (int_lt y x ≡ false)) ⊎ ((int_lt x y ≡ false) × (int_lt y x ≡ true))
one-less (pos a) (pos b) e = nat-less a b (λ same. apart (pos a) (pos b) e (ap pos same))
one-less (pos a) (negsuc b) e = inr (refl, refl)
one-less (negsuc a) (pos b) e = inl (refl, refl)
one-less (negsuc a) (negsuc b) e = nat-less b a (λ same. apart (negsuc a) (negsuc b) e (ap negsuc (sym same)))

not-less : (x : ℤ) → int_lt x x ≡ false
not-less (pos a) = le-ltb a a (omega arith)
not-less (negsuc a) = le-ltb a a (omega arith)

-- the pair rises and passes the test; it passes the test once it is put in order
abbrev low : (Pair → Bool) → Pair → Bool
low test p = rises p && test p

abbrev put : (Pair → Bool) → Pair → Bool
put test p = test (in_order p)

module _ {D : ℕ} (test : Pair → Bool) where
  -- of a pair and its mirror one is in order
  one-pair : (r s : Row D) → int_eq r.id s.id ≡ false →
      ◌≡◌ {A = ℕ} (cond (put test (pair_of r s)) 1 0) (cond (low test (pair_of r s)) 1 0 + cond (low test (pair_of s r)) 1 0)
  one-pair r s e = elim (one-less r.id s.id e) [
    | inl h ↦
        let kept : ◌≡◌ {A = ℕ} (cond (put test (pair_of r s)) 1 0) (cond (test (pair_of r s)) 1 0) =
        ap (λ b. cond (test (cond b (pair_of s r) (pair_of r s))) 1 0) h.1 in
        let own : ◌≡◌ {A = ℕ} (cond (low test (pair_of r s)) 1 0) (cond (test (pair_of r s)) 1 0) = ap (λ b. cond (b && test (pair_of r s)) 1 0) h.0 in
        let other : ◌≡◌ {A = ℕ} (cond (low test (pair_of s r)) 1 0) 0 = ap (λ b. cond (b && test (pair_of s r)) 1 0) h.1 in
        omega (arith, kept, own, other)
    | inr h ↦
        let turned : ◌≡◌ {A = ℕ} (cond (put test (pair_of r s)) 1 0) (cond (test (pair_of s r)) 1 0) =
        ap (λ b. cond (test (cond b (pair_of s r) (pair_of r s))) 1 0) h.1 in
        let own : ◌≡◌ {A = ℕ} (cond (low test (pair_of r s)) 1 0) 0 = ap (λ b. cond (b && test (pair_of r s)) 1 0) h.0 in
        let other : ◌≡◌ {A = ℕ} (cond (low test (pair_of s r)) 1 0) (cond (test (pair_of s r)) 1 0) = ap (λ b. cond (b && test (pair_of s r)) 1 0) h.1 in
        omega (arith, turned, own, other)
  ]

  -- a row with others, and the others with it
  row-turned : (r : Row D) (rows : List (Row D)) → count_by (λ (s : Row D). int_eq r.id s.id) rows ≡ 0 →
      count_by (put test) (pairs_with rows r) ≡ count_by (low test) (pairs_with rows r) + count_by (low test) (touching_pairs rows (r ∷ []))
  row-turned r [] none = omega arith
  row-turned r (s ∷ ss) none =
      let parts = count-cons (λ (x : Row D). int_eq r.id x.id) s ss in
      let apart : int_eq r.id s.id ≡ false = elim (cases_Bool (int_eq r.id s.id)) [
        | inl e ↦ let one : ◌≡◌ {A = ℕ} (cond (int_eq r.id s.id) 1 0) 1 = ap (λ b. cond b 1 0) e in absurd (omega (arith, none, parts, one))
        | inr e ↦ e
      ] in
      by (touch r.rect s.rect) (row-turned r ss (omega (arith, none, parts))) (one-pair r s apart)
      ∙ ap (λ b. count_by (low test) (pairs_with (s ∷ ss) r) + count_by (low test) (map (pair_of s) (cond b (r ∷ []) []) ++ touching_pairs ss (r ∷ []))) (touch-same r.rect s.rect)
    where
      by : (b : Bool) → count_by (put test) (pairs_with ss r) ≡ count_by (low test) (pairs_with ss r) + count_by (low test) (touching_pairs ss (r ∷ [])) →
          ◌≡◌ {A = ℕ} (cond (put test (pair_of r s)) 1 0) (cond (low test (pair_of r s)) 1 0 + cond (low test (pair_of s r)) 1 0) →
          count_by (put test) (map (pair_of r) (cond b (s ∷ filter (λ x. touch r.rect x.rect) ss) (filter (λ x. touch r.rect x.rect) ss)))
          ≡ count_by (low test) (map (pair_of r) (cond b (s ∷ filter (λ x. touch r.rect x.rect) ss) (filter (λ x. touch r.rect x.rect) ss)))
          + count_by (low test) (map (pair_of s) (cond b (r ∷ []) []) ++ touching_pairs ss (r ∷ []))
      by true rest one =
          omega (
            arith,
            rest,
            one,
            count-cons (put test) (pair_of r s) (pairs_with ss r),
            count-cons (low test) (pair_of r s) (pairs_with ss r),
            count-cons (low test) (pair_of s r) (touching_pairs ss (r ∷ [])),
          )
      by false rest one = rest

  -- a row doesn't stand before itself
  alone : (r : Row D) (rows : List (Row D)) → count_by (low test) (pairs_with (r ∷ rows) r) ≡ count_by (low test) (pairs_with rows r)
  alone r rows = by (touch r.rect r.rect)
    where
      by : (b : Bool) → count_by (low test) (map (pair_of r) (cond b (r ∷ filter (λ x. touch r.rect x.rect) rows) (filter (λ x. touch r.rect x.rect) rows)))
          ≡ count_by (low test) (pairs_with rows r)
      by true =
          let none : ◌≡◌ {A = ℕ} (cond (low test (pair_of r r)) 1 0) 0 = ap (λ b. cond (b && test (pair_of r r)) 1 0) (not-less r.id) in
          omega (arith, none, count-cons (low test) (pair_of r r) (pairs_with rows r))
      by false = refl

  turned : (rows : List (Row D)) → ((id : ℤ) → count_by (λ (r : Row D). int_eq id r.id) rows ≤ 1) → count_by (put test) (pairs_within rows) ≡ count_by (low test) (touching_pairs rows rows)
  turned [] once = refl
  turned (r ∷ rows) once =
      let same : ◌≡◌ {A = ℕ} (cond (int_eq r.id r.id) 1 0) 1 = ap (λ b. cond b 1 0) ((Decides-int_eq r.id r.id).1 refl) in
      let none : count_by (λ (s : Row D). int_eq r.id s.id) rows ≡ 0 = omega (arith, once r.id, count-cons (λ (s : Row D). int_eq r.id s.id) r rows, same) in
      omega (
        arith,
        count-append (put test) (pairs_with rows r) (pairs_within rows),
        count-append (low test) (pairs_with (r ∷ rows) r) (touching_pairs rows (r ∷ rows)),
        alone r rows,
        right-joined (low test) rows (r ∷ []) rows,
        row-turned r rows none,
        turned rows (λ id. omega (arith, once id, count-cons (λ (s : Row D). int_eq id s.id) r rows)),
      )

module _ {D : ℕ} (t : Arena D) (s : IsSettled t) where
  pub itself-ordered : (pairs pairs1 : List Pair) → ((test : Pair → Bool) → count_by test pairs ≡ count_by test (pairs_within (rows_in t))) →
      pairs1 ≡ map in_order pairs → JoinsItself t pairs1
  itself-ordered pairs pairs1 all is = record {
    each = each;
    once = λ left right.
        let few = sum-filter_le (λ p. cond (has_ids left right p) 1 0) rises (touching_pairs (rows_in t) (rows_in t)) in
        omega (arith, few, each (has_ids left right), pairs-once left right t t s s);
  }
    where
      each : (test : Pair → Bool) → count_by test pairs1 ≡ count_by test (touching_within (rows_in t))
      each test =
          ap (count_by test) is ∙ count-mapped test in_order (λ p. test (in_order p)) pairs (λ i d h. refl) ∙ all (λ p. test (in_order p))
          ∙ turned test (rows_in t) (ids-apart t s) ∙ sym (filter-counted test rises (touching_pairs (rows_in t) (rows_in t)))
