-- A nearer limit, and why the answer stays.
use Rattle.std.proofs.Common.{◌≡◌, ℕ, zero, suc, ◌-◌, ◌<◌, ◌≤◌, Bool, true, false, cond, List, [], ◌∷◌, ◌++◌, length, map, take, filter, Contains, Some, nat_le, arith, refl, ap, sym, ◌∙◌, subst, inl, inr}
use Rattle.std.specs.List.{All, count_by, sum_by}
use Rattle.std.specs.declared.cmp.Ordering.{Ordering}
use Rattle.std.specs.declared.cmp.Ordering.TheVariants.{Less, Equal, Greater}
use Rattle.std.specs.Ordering.{ordering_then, nat_cmp, int_cmp, MatchOrdering}
use Rattle.std.proofs.lemmas.Bool.{true≢false}
use Rattle.std.proofs.lemmas.Bool.Decides.{nat_tests}
use Rattle.std.proofs.lemmas.Cmp.{ranked}
use Rattle.std.proofs.lemmas.List.Elements.{All-contains, All-weaker}
use Rattle.std.proofs.lemmas.List.Sorted.{sum_by-IsPermutation}
use Rattle.std.proofs.lemmas.List.Sums.{sum_by-cons}
use Rattle.slab.specs.Slab.{get}
use Rattle.rt_box.specs.declared.interval.Interval.{Interval}
use Rattle.rt_tree_choice.specs.Sorting.{sort_by}
use Rattle.rt_tree_node.specs.declared.arena.Arena.{Arena}
use Rattle.rt_tree_node.specs.declared.cell.Cell.{Cell}
use Rattle.rt_tree_node.specs.Node.{NodeCells}
use Rattle.rt_tree_node.specs.Places.{key_of, cells_of, cells_at, level_at}
use Rattle.rt_tree_node.proofs.Counts.{count-append, count-cons}
use Rattle.rt_tree_node.proofs.Places.{leaf-at_leaf}
use Rattle.rt_tree_walk.specs.declared.searching.Row.{Row}
use Rattle.rt_tree_walk.specs.Search.{row_of}
use Rattle.rt_tree_walk.specs.Preorder.{tree_keys}
use Rattle.rt_tree_walk.proofs.Judging.{count-mapped}
use Rattle.rt_tree_walk.proofs.Listed.{levels-below, listed-contained}
use Rattle.rt_tree_walk.proofs.Progress.{IsSettled}
use Rattle.rt_tree_walk.proofs.Reaching.{counted-contained}
use Rattle.rt_tree_nearest.specs.declared.candidate.Candidate.{Candidate}
use Rattle.rt_tree_nearest.specs.declared.keep.Kept.{Kept}
use Rattle.rt_tree_nearest.specs.declared.keep.Kept.TheVariants.{Few, Full}
use Rattle.rt_tree_nearest.specs.declared.query.Query.{Query}
use Rattle.rt_tree_walk.specs.Rows.{rows_in}
use Rattle.rt_tree_nearest.specs.Nearest.{box_distance, by_nearness_to}
use Rattle.rt_tree_nearest.specs.Candidates.{NamesKey, IsNearLimit, IsAimed, IsNarrowed, IsReach, IsOut, IsAnswer, Keeps, HasShape, candidate_of}
use Rattle.rt_tree_walk.proofs.Below.{leaf_rows, ids-apart}
use Rattle.rt_tree_nearest.proofs.Ordered.{Rising, Rising-sort, contains-cases, sort-permutes}
use Rattle.rt_tree_nearest.proofs.Orders.{nearness_total, untied}
use Rattle.rt_tree_walk.proofs.Judging.{count-joined}
use Rattle.rt_tree_nearest.proofs.Same.{count-all}

no-farther : (n m : ℕ) → n ≤ m → nat_le n m ≡ true
no-farther n m h = grind (arith, nat_tests)

is-within : (n m : ℕ) → nat_le n m ≡ true → n ≤ m
is-within n m h = grind (arith, nat_tests)

-- a term is at most the sum
term-le : {X : Type 0} (f : X → ℕ) (xs : List X) (x : X) → Contains xs x → f x ≤ sum_by f xs
term-le f [] x h = absurd (omega (arith, h.1))
term-le f (y ∷ ys) x h = elim (contains-cases y ys x h) [
  | inl here ↦ omega (arith, ap f here, sum_by-cons f y ys)
  | inr later ↦ omega (arith, term-le f ys x later, sum_by-cons f y ys)
]

module _ {D : ℕ} where
  -- what comes first is no farther
  first-nearer : (target : List Interval) (r s : Row D) → by_nearness_to target r s ≡ Less → box_distance r.rect target ≤ box_distance s.rect target
  first-nearer target r s h = by (nat_cmp x y) (ranked x y (nat_cmp x y) refl) h
    where
      x : ℕ
      x = box_distance r.rect target

      y : ℕ
      y = box_distance s.rect target

      by : (o : Ordering) → MatchOrdering o (x < y) (x ≡ y) (y < x) → ordering_then o (int_cmp r.id s.id) ≡ Less → x ≤ y
      by Less e g = omega arith
      by Equal e g = omega arith
      by Greater e g = absurd (cc)

  module _ (target : List Interval) (limit : ℕ) (near : Row D → Bool) (within : (r : Row D) → box_distance r.rect target ≤ limit → near r ≡ true) where
    abbrev inside : Row D → Bool
    inside r = nat_le (box_distance r.rect target) limit

    same-front_at : (k : ℕ) (r : Row D) (rows : List (Row D)) → (k ≤ count_by inside rows → take k (filter inside rows) ≡ take k (filter near rows)) →
        All (λ s. by_nearness_to target r s ≡ Less) rows → suc k ≤ count_by inside (r ∷ rows) → (b : Bool) → inside r ≡ b →
        take (suc k) (cond (inside r) (r ∷ filter inside rows) (filter inside rows)) ≡ take (suc k) (cond (near r) (r ∷ filter near rows) (filter near rows))
    same-front_at k r rows rest up enough true e =
        let also : near r ≡ true = within r (is-within (box_distance r.rect target) limit e) in
        let one : ◌≡◌ {A = ℕ} (cond (inside r) 1 0) 1 = ap (λ b. cond b 1 0) e in
        ap (λ b. take (suc k) (cond b (r ∷ filter inside rows) (filter inside rows))) e
        ∙ ap (λ later. r ∷ later) (rest (omega (arith, enough, one, count-cons inside r rows)))
        ∙ sym (ap (λ b. take (suc k) (cond b (r ∷ filter near rows) (filter near rows))) also)
    same-front_at k r rows rest up enough false e =
        let none : ◌≡◌ {A = ℕ} (cond (inside r) 1 0) 0 = ap (λ b. cond b 1 0) e in
        let s = counted-contained inside rows (omega (arith, enough, none, count-cons inside r rows)) in
        let nearer = first-nearer target r s.0 (All-contains (λ y. by_nearness_to target r y ≡ Less) rows s.0 up s.1) in
        absurd (true≢false (sym (no-farther (box_distance r.rect target) limit (omega (arith, nearer, is-within (box_distance s.0.rect target) limit s.2))) ∙ e))

    -- of rows by distance, the first k inside of the limit are the first k that are near, if k are inside
    same-front : (k : ℕ) (rows : List (Row D)) → Rising (by_nearness_to target) rows → k ≤ count_by inside rows →
        take k (filter inside rows) ≡ take k (filter near rows)
    same-front zero rows up enough = refl
    same-front (suc k) [] up enough = refl
    same-front (suc k) (r ∷ rows) up enough = same-front_at k r rows (same-front k rows up.1) up.0 enough (inside r) refl

module _ {D : ℕ} where
  made : List Interval → ℕ → ℕ → List Interval → Query D
  made target k limit window = record { target = target; k = k; limit = limit; window = window }

  -- a query is what its parts are
  pub fields : (q : Query D) (target : List Interval) (k limit : ℕ) → q.target ≡ target → q.k ≡ k → q.limit ≡ limit →
      q ≡ record { target = target; k = k; limit = limit; window = q.window }
  unfolding made
  fields q target k limit a b c = ap (λ v. made v q.k q.limit q.window) a ∙ ap (λ v. made target v q.limit q.window) b ∙ ap (λ v. made target k v q.window) c

module _ {D : ℕ} (t : Arena D) (s : IsSettled t) where
  -- a child is a level lower
  pub child-level : (k l key : ℕ) (n : NodeCells D) → get t.nodes k ≡ Some n → level_at t.nodes k ≡ Some l → 0 < l → NamesKey n key →
      level_at t.nodes key ≡ Some (l - 1)
  child-level k l key n is at high named =
      let up : suc (l - 1) ≡ l = omega arith in
      let there : Contains (cells_at t.nodes k) named.0 = subst (λ (cells : List (Cell D)). Contains cells named.0) (sym (ap cells_of is)) named.1 in
      ap (level_at t.nodes) named.2
      ∙ All-contains (λ c. level_at t.nodes (key_of c) ≡ Some (l - 1)) (cells_at t.nodes k) named.0 (levels-below t s k (l - 1) (at ∙ ap Some (sym up))) there

  -- ---- the limit
  module _ (q : Query D) (key : ℕ) (n : NodeCells D) (kept : List (Candidate D)) (most : ℕ) (at : level_at t.nodes key ≡ Some 0) (is : get t.nodes key ≡ Some n)
      (keeps : Keeps q (map (candidate_of q.target) n.cells) [] kept) (full : length kept ≡ q.k) (reach : IsReach q kept most) where
    abbrev test : Row D → Bool
    test r = nat_le (box_distance r.rect q.target) most

    abbrev near_by : Candidate D → Bool
    near_by c = nat_le c.distance most

    all-near : All (λ c. near_by c ≡ true) kept
    all-near = elim (reach.far (suc most) (omega arith)) [
      | inl low ↦ All-weaker (λ c. c.distance ≤ q.limit) (λ c. near_by c ≡ true) (λ c h. no-farther c.distance most (omega (arith, h, low))) kept keeps.kept.within
      | inr held ↦ All-weaker (λ c. c.distance < suc most) (λ c. near_by c ≡ true) (λ c h. no-farther c.distance most (omega (arith, h))) kept held.1
    ]

    candidates-near : q.k ≤ count_by near_by (map (candidate_of q.target) n.cells)
    candidates-near =
        omega (
          arith,
          full,
          count-all near_by kept all-near,
          sum_by-IsPermutation (λ c. cond (near_by c) 1 0) (map (candidate_of q.target) n.cells) (kept ++ keeps.left) keeps.same,
          count-append near_by kept keeps.left,
        )

    leaf-near : count_by near_by (map (candidate_of q.target) n.cells) ≡ count_by test (leaf_rows t.nodes key)
    leaf-near =
        count-mapped near_by (candidate_of q.target) (λ c. test (row_of c)) n.cells (λ i d h. refl)
        ∙ sym (count-mapped test row_of (λ c. test (row_of c)) n.cells (λ i d h. refl))
        ∙ ap (λ (cells : List (Cell D)). count_by test (map row_of cells)) (sym (leaf-at_leaf t.nodes key at ∙ ap cells_of is))

    pub near-limit : IsNearLimit t q most
    near-limit = record {
      within = reach.within;
      enough = omega (
        arith,
        candidates-near,
        leaf-near,
        count-joined test (leaf_rows t.nodes) (tree_keys t),
        term-le (λ k. count_by test (leaf_rows t.nodes k)) (tree_keys t) key (listed-contained t s key 0 at),
      );
    }

  -- ---- the answer
  sorted-rising : (target : List Interval) → Rising (by_nearness_to target) (sort_by (by_nearness_to target) (rows_in t))
  sorted-rising target = Rising-sort (by_nearness_to target) (nearness_total target) (rows_in t) (untied target (rows_in t) (ids-apart t s))

  limited : (q : Query D) (limit : ℕ) (window : List Interval) (rows : List (Row D)) → IsNearLimit t q limit →
      IsAnswer t (record { target = q.target; k = q.k; limit = limit; window = window }) rows → IsAnswer t q rows
  limited q limit window rows nearer answer near beyond within =
      let inside : Row D → Bool = λ r. nat_le (box_distance r.rect q.target) limit in
      let sorted = sort_by (by_nearness_to q.target) (rows_in t) in
      answer inside (λ r far. is-beyond (box_distance r.rect q.target) limit (omega (arith, far.2, far.3))) (λ r h. no-farther (box_distance r.rect q.target) limit h)
      ∙ same-front q.target limit near (λ r h. within r (omega (arith, h, nearer.within))) q.k sorted (sorted-rising q.target)
      (omega (arith, nearer.enough, sum_by-IsPermutation (λ r. cond (inside r) 1 0) (rows_in t) sorted (sort-permutes (by_nearness_to q.target) (rows_in t))))
    where
      is-beyond : (n m : ℕ) → m < n → nat_le n m ≡ false
      is-beyond n m h = grind (arith, nat_tests)

  pub narrowed-answer : (q nearer : Query D) (rows : List (Row D)) → IsNarrowed t q nearer → IsAnswer t nearer rows → IsAnswer t q rows
  narrowed-answer q nearer rows (inl e) answer = subst (λ (p : Query D). IsAnswer t p rows) e answer
  narrowed-answer q nearer rows (inr found) answer = limited q found.0 nearer.window rows found.1 (subst (λ (p : Query D). IsAnswer t p rows) found.3 answer)

  pub narrowed-aimed : (q nearer : Query D) → IsAimed q → IsNarrowed t q nearer → IsAimed nearer
  narrowed-aimed q nearer aimed (inl e) = subst (λ (p : Query D). IsAimed p) (sym e) aimed
  narrowed-aimed q nearer aimed (inr found) = found.2

  pub narrowed-some : (q nearer : Query D) → IsNarrowed t q nearer → nearer.k ≡ q.k
  narrowed-some q nearer (inl e) = ap (λ (p : Query D). p.k) e
  narrowed-some q nearer (inr found) = ap (λ (p : Query D). p.k) found.3

-- ---- the rows kept
module _ {D : ℕ} (q nearer : Query D) (seen kept : List (Candidate D)) (most : ℕ) (keeps : Keeps q seen [] kept) (some : 1 ≤ q.k) (full : length kept ≡ q.k)
    (reach : IsReach q kept most) (k : nearer.k ≡ q.k) (limit : nearer.limit ≡ most) where
  still-out : (c : Candidate D) → IsOut q kept c → IsOut nearer kept c
  still-out c out = elim out [
    | inl beyond ↦ inl (beyond.0, beyond.1, omega (arith, beyond.2, limit, reach.within), beyond.3)
    | inr after ↦ inr (after.0 ∙ sym k, after.1)
  ]

  out-later : (c : Candidate D) → IsOut nearer [] c → IsOut nearer kept c
  out-later c out = elim out [ inl beyond ↦ inl beyond | inr after ↦ absurd (omega (arith, after.0, k, some)) ]

  all-within : All (λ c. c.distance ≤ nearer.limit) kept
  all-within = elim (reach.far (suc most) (omega arith)) [
    | inl low ↦ All-weaker (λ c. c.distance ≤ q.limit) (λ c. c.distance ≤ nearer.limit) (λ c h. omega (arith, h, low, limit)) kept keeps.kept.within
    | inr held ↦ All-weaker (λ c. c.distance < suc most) (λ c. c.distance ≤ nearer.limit) (λ c h. omega (arith, h, limit)) kept held.1
  ]

  -- a nearer limit leaves out no row that was kept
  pub keeps-nearer : Keeps nearer seen [] kept
  keeps-nearer = record {
    left = keeps.left;
    same = keeps.same;
    out = All-weaker (IsOut q kept) (IsOut nearer kept) still-out keeps.left keeps.out;
    stays = out-later;
    kept = record { few = omega (arith, full, k); within = all-within };
  }

module _ {D : ℕ} where
  pub shape-nearer : (q nearer : Query D) (kept : Kept D) → nearer.k ≡ q.k → HasShape q kept → HasShape nearer kept
  shape-nearer q nearer (Few rows) k shape = omega (arith, shape, k)
  shape-nearer q nearer (Full heap) k shape = (shape.0 ∙ sym k, shape.1)
