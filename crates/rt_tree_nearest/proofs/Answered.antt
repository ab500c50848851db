-- The rows kept at the end are the answer.
use Rattle.std.proofs.Common.{◌≡◌, ◌≢◌, ℕ, suc, ◌+◌, ◌<◌, ◌≤◌, ◌⊎◌, Bool, true, false, cond, ℤ, List, [], ◌∷◌, length, map, take, filter, get_or, Contains, arith, refl, ap, sym, ◌∙◌, subst, inl, inr}
use Rattle.std.specs.List.{All, count_by}
use Rattle.std.specs.List.Sorted.{IsSorted}
use Rattle.std.specs.declared.cmp.Ordering.{Ordering}
use Rattle.std.specs.declared.cmp.Ordering.TheVariants.{Less, Equal, Greater}
use Rattle.std.specs.Ordering.{is_lt, is_gt, int_eq}
use Rattle.std.proofs.lemmas.Bool.{true≢false, cases_lt}
use Rattle.std.proofs.lemmas.Bool.Decides.{Decides-int_eq}
use Rattle.std.proofs.lemmas.List.{take_all, length-map}
use Rattle.std.proofs.lemmas.List.Elements.{All-head, All-tail, All-map, All-contains, Contains-get_or}
use Rattle.std.proofs.lemmas.List.Sorted.{All-permutation, Contains-permutation, IsPermutation-sym, length_permutation, sum_by-IsPermutation, sorted_far, ranks_by}
use Rattle.std.proofs.lemmas.List.Sums.{length-filter, count_by-le-length}
use Rattle.rt_tree_choice.specs.Sorting.{sort_by}
use Rattle.rt_tree_node.specs.declared.arena.Arena.{Arena}
use Rattle.rt_tree_node.proofs.Counts.{count-some}
use Rattle.rt_tree_node.proofs.Links.{All-left, All-right}
use Rattle.rt_tree_walk.specs.declared.searching.Row.{Row}
use Rattle.rt_tree_walk.proofs.Judging.{count-mapped}
use Rattle.rt_tree_walk.proofs.Progress.{IsSettled}
use Rattle.rt_tree_walk.proofs.Reaching.{counted-contained}
use Rattle.rt_tree_nearest.specs.declared.candidate.Candidate.{Candidate}
use Rattle.rt_tree_nearest.specs.declared.query.Query.{Query}
use Rattle.rt_tree_walk.specs.Rows.{rows_in}
use Rattle.rt_tree_nearest.specs.Nearest.{box_distance, by_nearness_to}
use Rattle.rt_tree_nearest.specs.Candidates.{own_row, compare, IsBeyond, IsOut, IsOrdered}
use Rattle.rt_tree_nearest.proofs.Ordered.{Rising, InOrder, Rising-sort, Rising-filter, Contains-filter, Contains-unfilter, beginning, rises, sort-permutes}
use Rattle.rt_tree_nearest.proofs.Same.{same_row, same_row-decides, listed-counted, counted-listed}
use Rattle.rt_tree_nearest.proofs.Orders.{compare_total, nearness_total, untied, same-id, compare-rows, not-after_not-less}
use Rattle.rt_tree_walk.proofs.Below.{ids-apart}
use Rattle.rt_tree_nearest.proofs.Searched.{Searched}

-- nothing passes
count-none : {X : Type 0} (test : X → Bool) (xs : List X) → All (λ x. test x ≡ false) xs → count_by test xs ≡ 0
count-none test xs none = elim (cases_lt 0 (count_by test xs)) [
  | inl some ↦
      let x = counted-contained test xs some in
      absurd (true≢false (sym x.2 ∙ All-contains (λ y. test y ≡ false) xs x.0 none x.1))
  | inr few ↦ omega (arith, few)
]

not-after : (r : Ordering) → is_gt r ≡ false → r ≢ Equal → r ≡ Less
not-after Less e n = refl
not-after Equal e n = absurd (n refl)
not-after Greater e n = absurd (true≢false e)

module _ {D : ℕ} where
  -- a sorted list is in order
  in-order : (cs : List (Candidate D)) → IsSorted compare cs → InOrder compare cs
  in-order [] up = tt
  in-order (c ∷ cs) up = (
    (λ k d h. not-after_not-less (get_or cs k d) c (sorted_far (λ (x y : Candidate D). is_lt (compare x y)) (ranks_by compare_total (λ (x : Candidate D). x)) (c ∷ cs) up 0 (suc k) d (omega arith) (omega (arith, h)))),
    in-order cs (λ k d low h.
        let next : suc k + 1 ≡ suc (k + 1) = omega arith in
        subst (λ n. is_lt (compare (get_or (c ∷ cs) n d) (get_or cs k d)) ≡ false) next (up (suc k) d (omega arith) (omega (arith, h)))),
  )

  -- the rows of candidates in order are in order
  rows-in_order : (target : _) (cs : List (Candidate D)) → All (λ c. c.distance ≡ box_distance c.rect target) cs → InOrder compare cs →
      InOrder (by_nearness_to target) (map own_row cs)
  rows-in_order target [] exact up = tt
  rows-in_order target (c ∷ cs) exact up = (
    All-map (λ r. is_gt (by_nearness_to target (own_row c) r) ≡ false) own_row cs (λ k d h.
        let e = get_or cs k d in
        ap is_gt (sym (compare-rows target c e (All-head (λ x. x.distance ≡ box_distance x.rect target) c cs exact) (All-tail (λ x. x.distance ≡ box_distance x.rect target) c cs exact k d h)))
        ∙ up.0 k d h),
    rows-in_order target cs (All-tail (λ x. x.distance ≡ box_distance x.rect target) c cs exact) up.1,
  )

  module _ (q : Query D) (t : Arena D) (s : IsSettled t) (kept : List (Candidate D)) (so : Searched q t kept []) (answer : List (Row D)) (is : IsOrdered kept answer)
      (near : Row D → Bool) (beyond : (r : Row D) → IsBeyond q.limit (box_distance r.rect q.target) → near r ≡ false)
      (within : (r : Row D) → box_distance r.rect q.target ≤ q.limit → near r ≡ true) where
    abbrev rows : List (Row D)
    rows = rows_in t

    abbrev sorted : List (Row D)
    sorted = sort_by (by_nearness_to q.target) rows

    abbrev nears : List (Row D)
    nears = filter near sorted

    abbrev IsExact : Candidate D → Type 0
    IsExact c = c.distance ≡ box_distance c.rect q.target

    abbrev own : (Row D → Bool) → Candidate D → Bool
    own test c = test (own_row c)

    exact-kept : All IsExact kept
    exact-kept = All-left IsExact kept so.left so.exact

    exact-left : All IsExact so.left
    exact-left = All-right IsExact kept so.left so.exact

    answer-counts : (test : Row D → Bool) → count_by test answer ≡ count_by (own test) kept
    answer-counts test =
        ap (count_by test) is.own
        ∙ count-mapped test own_row (own test) is.sorted (λ i d h. refl)
        ∙ sum_by-IsPermutation (λ c. cond (own test c) 1 0) kept is.sorted is.same

    once : (id : ℤ) → count_by (λ (r : Row D). int_eq id r.id) answer ≤ 1
    once id =
        let test : Row D → Bool = λ r. int_eq id r.id in
        omega (arith, answer-counts test, so.counts test, ids-apart t s id)

    long : length answer ≡ length kept
    long = ap length is.own ∙ length-map is.sorted own_row ∙ length_permutation kept is.sorted is.same

    rising : Rising (by_nearness_to q.target) answer
    rising = rises (by_nearness_to q.target) answer
        (subst (InOrder (by_nearness_to q.target)) (sym is.own)
        (rows-in_order q.target is.sorted (All-permutation IsExact kept is.sorted is.same exact-kept) (in-order is.sorted is.order)))
        (untied q.target answer once)

    listed : (r : Row D) → 0 < count_by (own (same_row r)) kept + count_by (own (same_row r)) so.left → Contains rows r
    listed r some = counted-listed rows r (omega (arith, some, so.counts (same_row r)))

    in-rows : (r : Row D) → Contains answer r → Contains rows r
    in-rows r h = listed r (omega (arith, listed-counted answer r h, answer-counts (same_row r)))

    is-within : All (Contains nears) answer
    is-within = λ i d h.
        let r = get_or answer i d in
        let there = Contains-get_or answer i d h in
        let c = counted-contained (own (same_row r)) kept (omega (arith, listed-counted answer r there, answer-counts (same_row r))) in
        let same : r ≡ own_row c.0 = (same_row-decides r (own_row c.0)).0 c.2 in
        let at : c.0.distance ≡ box_distance c.0.rect q.target = All-contains IsExact kept c.0 exact-kept c.1 in
        let reached : c.0.distance ≤ q.limit = All-contains (λ c. c.distance ≤ q.limit) kept c.0 so.keeps.within c.1 in
        let passes : near r ≡ true = ap near same ∙ within (own_row c.0) (omega (arith, at, reached)) in
        Contains-filter near sorted r (Contains-permutation rows sorted r (sort-permutes (by_nearness_to q.target) rows) (in-rows r there)) passes

    -- a row that isn't kept
    left-after : (r : Row D) → near r ≡ true → (c : Candidate D) → Contains so.left c → r ≡ own_row c →
        (length kept ≡ q.k) × All (λ z. by_nearness_to q.target z r ≡ Less) answer
    left-after r passes c there same = elim (All-contains (IsOut q kept) so.left c so.out there) [
      | inl far ↦
          let at = All-contains IsExact so.left c exact-left there in
          absurd (true≢false (sym passes ∙ ap near same ∙ beyond (own_row c) (subst (IsBeyond q.limit) at far)))
      | inr after ↦ (
        after.0,
        λ i d h.
            let z = get_or answer i d in
            let listed_z = Contains-get_or answer i d h in
            let e = counted-contained (own (same_row z)) kept (omega (arith, listed-counted answer z listed_z, answer-counts (same_row z))) in
            let z_is : z ≡ own_row e.0 = (same_row-decides z (own_row e.0)).0 e.2 in
            let low = All-contains (λ x. is_gt (compare x c) ≡ false) kept e.0 after.1 e.1 in
            let order = compare-rows q.target e.0 c (All-contains IsExact kept e.0 exact-kept e.1) (All-contains IsExact so.left c exact-left there) in
            let less : by_nearness_to q.target (own_row e.0) (own_row c) ≡ Less = not-after (by_nearness_to q.target (own_row e.0) (own_row c)) (ap is_gt (sym order) ∙ low) (λ tie.
            let id : ℤ = e.0.id in
            let test : Row D → Bool = λ y. int_eq id y.id in
            let one = count-some (own test) kept e.1.0 e.0 e.1.1 (ap (own test) e.1.2 ∙ (Decides-int_eq id id).1 refl) in
            let other = count-some (own test) so.left there.0 c there.1 (ap (own test) there.2 ∙ (Decides-int_eq id c.id).1 (same-id q.target (own_row e.0) (own_row c) tie)) in
            absurd (omega (arith, one, other, so.counts test, ids-apart t s id))) in
            ap (λ (y : Row D). by_nearness_to q.target y r) z_is ∙ ap (λ (y : Row D). by_nearness_to q.target (own_row e.0) y) same ∙ less,
      )
    ]

    kept-or_left : (r : Row D) → Contains nears r → Contains answer r ⊎ ((c : Candidate D) × Contains so.left c × (r ≡ own_row c))
    kept-or_left r there =
        let in_sorted = (Contains-unfilter near sorted r there).0 in
        let in_rows = listed-counted rows r (Contains-permutation sorted rows r (IsPermutation-sym rows sorted (sort-permutes (by_nearness_to q.target) rows)) in_sorted) in
        elim (cases_lt 0 (count_by (same_row r) answer)) [
          | inl some ↦ inl (counted-listed answer r some)
          | inr none ↦
              let c = counted-contained (own (same_row r)) so.left (omega (arith, none, in_rows, so.counts (same_row r), answer-counts (same_row r))) in
              inr (c.0, c.1, (same_row-decides r (own_row c.0)).0 c.2)
        ]

    other : (r : Row D) → Contains nears r → Contains answer r ⊎ All (λ z. by_nearness_to q.target z r ≡ Less) answer
    other r there = elim (kept-or_left r there) [
      | inl here ↦ inl here
      | inr left ↦ inr (left-after r (Contains-unfilter near sorted r there).1 left.0 left.1 left.2).1
    ]

    is-beginning : answer ≡ take (length answer) nears
    is-beginning =
        beginning (by_nearness_to q.target) (nearness_total q.target) answer nears rising
        (Rising-filter (by_nearness_to q.target) near sorted
        (Rising-sort (by_nearness_to q.target) (nearness_total q.target) rows (untied q.target rows (ids-apart t s)))) is-within other

    -- where fewer rows are kept than are asked for, none is left out that is near
    few-nears : length kept < q.k → length nears ≤ length answer
    few-nears few =
        let none : All (λ c. own near c ≡ false) so.left = λ i d h.
        let c = get_or so.left i d in
        elim (so.out i d h) [
          | inl far ↦ beyond (own_row c) (subst (IsBeyond q.limit) (exact-left i d h) far)
          | inr full ↦ absurd (omega (arith, few, full.0))
        ] in
        omega (
          arith,
          length-filter near sorted,
          sum_by-IsPermutation (λ r. cond (near r) 1 0) rows sorted (sort-permutes (by_nearness_to q.target) rows),
          so.counts near,
          count-none (own near) so.left none,
          count_by-le-length (own near) kept,
          long,
        )

    pub answered : answer ≡ take q.k nears
    answered = elim (cases_lt (length kept) q.k) [
      | inl few ↦
          is-beginning ∙ take_all (length answer) nears (few-nears few) ∙ sym (take_all q.k nears (omega (arith, few-nears few, long, few)))
      | inr many ↦ is-beginning ∙ ap (λ n. take n nears) (omega (arith, many, so.keeps.few, long))
    ]
