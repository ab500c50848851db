-- The orders of rows, of candidates and of branches.
use Rattle.std.proofs.Common.{◌≡◌, ℕ, ◌<◌, ◌≤◌, true, false, ℤ, List, [], ◌∷◌, get_or, Some, arith, refl, ap, sym, ◌∙◌}
use Rattle.std.specs.List.{All, count_by}
use Rattle.std.specs.BinaryHeap.{IsUpperBound}
use Rattle.std.specs.Cmp.{IsTotalOrder}
use Rattle.std.specs.declared.cmp.Ordering.{Ordering}
use Rattle.std.specs.declared.cmp.Ordering.TheVariants.{Less, Equal, Greater}
use Rattle.std.specs.declared.cmp.Reverse.{Reverse}
use Rattle.std.specs.Ordering.{ordering_then, ordering_reverse, nat_cmp, int_cmp, is_lt, is_gt, is_some_and, partial_ordering_then, int_eq, MatchOrdering}
use Rattle.std.proofs.lemmas.Bool.{true≢false}
use Rattle.std.proofs.lemmas.Bool.Decides.{Decides-int_eq}
use Rattle.std.proofs.lemmas.Cmp.{nat_cmp_total, int_cmp_total, on_total, then_total, ranked, int_ranked, upto}
use Rattle.std.proofs.lemmas.List.Elements.{All-from_recursion, All-weaker}
use Rattle.rt_box.specs.declared.interval.Interval.{Interval}
use Rattle.rt_tree_choice.proofs.Entries.{then-equal}
use Rattle.rt_tree_node.proofs.Counts.{count-append, count-one_yes, count-some}
use Rattle.rt_tree_walk.specs.declared.searching.Row.{Row}
use Rattle.rt_tree_nearest.specs.declared.candidate.Candidate.{Candidate}
use Rattle.rt_tree_nearest.specs.declared.candidate.Branch.{Branch}
use Rattle.rt_tree_nearest.specs.Nearest.{box_distance, by_nearness_to}
use Rattle.rt_tree_nearest.specs.Candidates.{compare, compare_branches, own_row}
use Rattle.rt_tree_nearest.proofs.Ordered.{Untied}

lesser : (x y : ℕ) → x < y → nat_cmp x y ≡ Less
lesser x y h = by (nat_cmp x y) (ranked x y (nat_cmp x y) refl)
  where
    by : (r : Ordering) → MatchOrdering r (x < y) (x ≡ y) (y < x) → r ≡ Less
    by Less e = refl
    by Equal e = absurd (omega arith)
    by Greater e = absurd (omega arith)

not-below : (x y : ℕ) → is_lt (nat_cmp x y) ≡ false → y ≤ x
not-below x y h = by (nat_cmp x y) (ranked x y (nat_cmp x y) refl) h
  where
    by : (r : Ordering) → MatchOrdering r (x < y) (x ≡ y) (y < x) → is_lt r ≡ false → y ≤ x
    by Less e g = absurd (true≢false g)
    by Equal e g = omega arith
    by Greater e g = omega arith

no-lesser : (r s : Ordering) → s ≡ ordering_reverse r → is_lt r ≡ false → is_gt s ≡ false
no-lesser Less s e h = absurd (true≢false h)
no-lesser Equal s e h = ap is_gt e
no-lesser Greater s e h = ap is_gt e

is-lesser : (r s : Ordering) → s ≡ ordering_reverse r → is_lt r ≡ true → is_gt r ≡ false
is-lesser Less s e h = refl
is-lesser Equal s e h = refl
is-lesser Greater s e h = absurd (true≢false (sym h))

-- `<` is by `cmp`
both-tests : (o p : Ordering) → is_lt (ordering_then o p) ≡ is_some_and is_lt (partial_ordering_then (Some o) (Some p))
both-tests Less p = refl
both-tests Equal p = refl
both-tests Greater p = refl

module _ {D : ℕ} where
  pub lt-compare : (a c : Candidate D) → is_lt (compare a c) ≡ is_some_and is_lt (partial_ordering_then (Some (nat_cmp a.distance c.distance)) (Some (int_cmp a.id c.id)))
  lt-compare a c = both-tests (nat_cmp a.distance c.distance) (int_cmp a.id c.id)

  pub compare_total : IsTotalOrder (compare {D = D})
  compare_total = then_total (on_total (λ (c : Candidate D). c.distance) nat_cmp_total) (on_total (λ (c : Candidate D). c.id) int_cmp_total)

  -- what isn't less doesn't come before
  pub not-after_not-less : (c a : Candidate D) → is_lt (compare c a) ≡ false → is_gt (compare a c) ≡ false
  not-after_not-less c a h = no-lesser (compare c a) (compare a c) (compare_total.antisymm a c) h

  pub not-after_less : (c a : Candidate D) → is_lt (compare c a) ≡ true → is_gt (compare c a) ≡ false
  not-after_less c a h = is-lesser (compare c a) (compare a c) (compare_total.antisymm a c) h

  pub not-after_nearer : (a c : Candidate D) → a.distance < c.distance → is_gt (compare a c) ≡ false
  not-after_nearer a c h = ap (λ o. is_gt (ordering_then o (int_cmp a.id c.id))) (lesser a.distance c.distance h)

  pub not-after_trans : (x y z : Candidate D) → is_gt (compare x y) ≡ false → is_gt (compare y z) ≡ false → is_gt (compare x z) ≡ false
  not-after_trans = upto compare_total

  -- the distances of what comes no later
  pub not-after_distance : (a c : Candidate D) → is_gt (compare a c) ≡ false → a.distance ≤ c.distance
  not-after_distance a c h = by (nat_cmp a.distance c.distance) (ranked a.distance c.distance (nat_cmp a.distance c.distance) refl) h
    where
      by : (r : Ordering) → MatchOrdering r (a.distance < c.distance) (a.distance ≡ c.distance) (c.distance < a.distance) →
          is_gt (ordering_then r (int_cmp a.id c.id)) ≡ false → a.distance ≤ c.distance
      by Less e g = omega arith
      by Equal e g = omega arith
      by Greater e g = absurd (true≢false g)

  -- what the top of a heap says of all in it
  pub top-last : (x : Candidate D) (xs : List (Candidate D)) → IsUpperBound compare x xs → All (λ a. is_gt (compare a x) ≡ false) xs
  top-last x xs top =
      All-weaker (λ a. is_lt (compare x a) ≡ false) (λ a. is_gt (compare a x) ≡ false) (λ a h. not-after_not-less x a h) xs
      (All-from_recursion (λ a. is_lt (compare x a) ≡ false) xs top)

-- the first of the heap of branches is the nearest
pub top-nearest : (x : Reverse Branch) (xs : List (Reverse Branch)) → IsUpperBound compare_branches x xs → All (λ e. x.0.distance ≤ e.0.distance) xs
top-nearest x xs top =
    All-weaker (λ e. is_lt (compare_branches x e) ≡ false) (λ e. x.0.distance ≤ e.0.distance) (λ e h. not-below e.0.distance x.0.distance h) xs
    (All-from_recursion (λ e. is_lt (compare_branches x e) ≡ false) xs top)

module _ {D : ℕ} (target : List Interval) where
  pub nearness_total : IsTotalOrder (by_nearness_to {D = D} target)
  nearness_total = then_total (on_total (λ (r : Row D). box_distance r.rect target) nat_cmp_total) (on_total (λ (r : Row D). r.id) int_cmp_total)

  pub same-id : (r s : Row D) → by_nearness_to target r s ≡ Equal → r.id ≡ s.id
  same-id r s e = int_ranked r.id s.id Equal (sym (then-equal (nat_cmp (box_distance r.rect target) (box_distance s.rect target)) (int_cmp r.id s.id) e))

  -- rows with ids of their own don't tie
  pub untied : (rows : List (Row D)) → ((id : ℤ) → count_by (λ (r : Row D). int_eq id r.id) rows ≤ 1) → Untied (by_nearness_to target) rows
  untied [] once = tt
  untied (r ∷ rows) once = (
    (λ k d h e.
        let x = get_or rows k d in
        let same : int_eq r.id x.id ≡ true = (Decides-int_eq r.id x.id).1 (same-id r x e) in
        let later = count-some (λ (y : Row D). int_eq r.id y.id) rows k d h same in
        let here = count-one_yes (λ (y : Row D). int_eq r.id y.id) r ((Decides-int_eq r.id r.id).1 refl) in
        absurd (omega (arith, once r.id, later, here, count-append (λ (y : Row D). int_eq r.id y.id) (r ∷ []) rows))),
    untied rows (λ id. omega (arith, once id, count-append (λ (y : Row D). int_eq id y.id) (r ∷ []) rows)),
  )

  -- the order of candidates is that of their rows
  pub compare-rows : (a c : Candidate D) → a.distance ≡ box_distance a.rect target → c.distance ≡ box_distance c.rect target →
      compare a c ≡ by_nearness_to target (own_row a) (own_row c)
  compare-rows a c e f =
      ap (λ n. ordering_then (nat_cmp n c.distance) (int_cmp a.id c.id)) e
      ∙ ap (λ n. ordering_then (nat_cmp (box_distance a.rect target) n) (int_cmp a.id c.id)) f
