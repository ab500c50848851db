-- How far a search has come.
use Rattle.std.proofs.Common.{◌≡◌, ◌≢◌, ℕ, suc, ◌+◌, ◌<◌, ◌≤◌, Bool, true, false, List, [], ◌∷◌, ◌++◌, length, get_or, drop, Contains, Option, Some, None, is_some, IsSome, cond, nat_eq, arith, refl, ap, sym, ◌∙◌, subst, inl, inr, append-nil, append_assoc}
use Rattle.std.specs.List.{All, count_by, sum_by}
use Rattle.std.proofs.lemmas.Bool.{cases_lt}
use Rattle.std.proofs.lemmas.Option.{same_Some, none-some}
use Rattle.std.proofs.lemmas.List.{get_or_past, length_push, length-map}
use Rattle.std.proofs.lemmas.List.Elements.{All-nil, All-append}
use Rattle.std.proofs.lemmas.List.Sums.{sum_by-append, sum_by-cons, count_by-le-length}
use Rattle.slab.specs.Slab.{Slab, get, ContainsKey}
use Rattle.rt_box.specs.declared.interval.Interval.{Interval}
use Rattle.rt_box.specs.Rect.{IsBox}
use Rattle.rt_box.specs.Window.{Admits}
use Rattle.rt_tree_node.specs.declared.arena.Arena.{Arena}
use Rattle.rt_tree_node.specs.declared.cell.Cell.{Cell}
use Rattle.rt_tree_node.specs.Node.{NodeCells}
use Rattle.rt_tree_node.specs.Places.{times_named, cells_at, leaf_cells_of, leaf_cells_at, inner_cells_at, level_at, parent_at, count_rows, level_of}
use Rattle.rt_tree_node.specs.Sound.{IsLinked, NamesChild}
use Rattle.rt_tree_node.specs.Whole.{IsWhole}
use Rattle.rt_tree_node.proofs.Counts.{count-append}
use Rattle.rt_tree_node.proofs.Links.{above-some}
use Rattle.rt_tree_node.proofs.Places.{inner-at_inner}
use Rattle.rt_tree_walk.specs.declared.searching.Reached.{Reached}
use Rattle.rt_tree_walk.specs.declared.searching.Row.{Row}
use Rattle.rt_tree_walk.specs.Search.{times, row_of, LeadsInto, AsksAdmitted, IsReached, Finds, FindsAfter}
use Rattle.rt_tree_walk.specs.Visits.{keys_of, Visits}
use Rattle.rt_tree_node.proofs.Sums.{upto, upto-list}
use Rattle.rt_tree_walk.proofs.Totals.{times-append, times-one, times-is, sum-listed, sum-listed_le, upto-le}
use Rattle.rt_tree_walk.proofs.Inside.{keys-next, visits-dropped}
use Rattle.rt_tree_walk.proofs.Reaching.{All_contained, inner-level, leaf-level, hull-contained, counted-contained, reached-up}

module _ {D : ℕ} where
  -- the nodes that the search went into are listed, and those still to come; both are reached, and each once
  pub record Progress (t : Arena D) (window : List Interval) (keys : List ℕ) (rows : List (Row D)) (visited : ℕ) : Type 0 where
    pub seen : List ℕ
    pub counted : visited ≡ length seen
    pub once : (k : ℕ) → times k seen + times k keys ≤ 1
    pub top : 0 < times t.root seen + times t.root keys
    pub reached : (k : ℕ) → 0 < times k seen + times k keys → IsReached t window k
    pub above : (k p : ℕ) → 0 < times k seen + times k keys → parent_at t.nodes k ≡ Some p → 0 < times p seen
    pub below : (k l child : ℕ) → 0 < times k seen → level_at t.nodes k ≡ Some (suc l) → LeadsInto window (cells_at t.nodes k) child →
        0 < times child seen + times child keys
    pub admitted : All (λ r. Admits window r.rect) rows
    pub each : (test : Row D → Bool) → AsksAdmitted window test →
        count_by test rows ≡ sum_by (λ k. count_by (λ c. test (row_of c)) (leaf_cells_at t.nodes k)) seen

  -- the nodes still to come may stand in another order
  pub Progress-reordered : (t : Arena D) (window : List Interval) (keys keys1 : List ℕ) (rows : List (Row D)) (visited : ℕ) →
      ((k : ℕ) → times k keys1 ≡ times k keys) → Progress t window keys rows visited → Progress t window keys1 rows visited
  Progress-reordered t window keys keys1 rows visited same so = record {
    seen = so.seen;
    counted = so.counted;
    once = λ k. omega (arith, same k, so.once k);
    top = omega (arith, same t.root, so.top);
    reached = λ k some. so.reached k (omega (arith, same k));
    above = λ k p some up. so.above k p (omega (arith, same k)) up;
    below = λ k l child some lev leads. omega (arith, same child, so.below k l child some lev leads);
    admitted = so.admitted;
    each = so.each;
  }

  -- what is sound and has nothing pending
  pub record IsSettled (t : Arena D) : Type 0 where
    pub whole : IsWhole t
    pub none : t.pending.items ≡ []

  pub settled-linked : (t : Arena D) → IsSettled t → IsLinked t.nodes t.root t.level []
  settled-linked t s = subst (IsLinked t.nodes t.root t.level) s.none s.whole.linked

  -- ---- where the search starts
  pub Progress-start : (t : Arena D) (window : List Interval) (keys : List ℕ) → IsSettled t → keys ≡ t.root ∷ [] → Progress t window keys [] 0
  Progress-start t window keys s e = subst (λ (ks : List ℕ). Progress t window ks [] 0) (sym e) (record {
    seen = [];
    counted = refl;
    once = λ k. omega (arith, count_by-le-length (λ x. nat_eq x k) (t.root ∷ []));
    top = omega (arith, times-one t.root t.root refl);
    reached = λ k some. subst (IsReached t window) (times-is k t.root (omega arith)) IsReached.root;
    above = λ k p some e. absurd (none-some p (sym linked.root_parent ∙ ap (parent_at t.nodes) (times-is k t.root (omega arith)) ∙ e));
    below = λ k l child some lev leads. absurd (omega arith);
    admitted = All-nil (λ r. Admits window r.rect);
    each = λ test asks. refl;
  })
    where
      linked : IsLinked t.nodes t.root t.level []
      linked = settled-linked t s

  -- each node reached has a level
  pub reached-level : (t : Arena D) (window : List Interval) → IsLinked t.nodes t.root t.level [] → (k : ℕ) → IsReached t window k →
      (l : ℕ) × (level_at t.nodes k ≡ Some l)
  reached-level t window linked k IsReached.root = (t.level, linked.root_level)
  reached-level t window linked k (IsReached.child {key = key} l up lev leads) =
      let named = All_contained (NamesChild t.nodes l key) (cells_at t.nodes key) leads.0 (linked.children key l lev) leads.1 in
      (l, ap (level_at t.nodes) (sym leads.2) ∙ named.names.level_is)

  pub level-some : (a : Slab (NodeCells D)) (k l : ℕ) → level_at a k ≡ Some l → ContainsKey a k
  level-some a k l lev = by (get a k) lev
    where
      by : (o : Option (NodeCells D)) → level_of o ≡ Some l → IsSome o
      by None e = absurd (none-some l e)
      by (Some n) e = refl

  pub level-within : (a : Slab (NodeCells D)) (k l : ℕ) → level_at a k ≡ Some l → k < length a.slots
  level-within a k l lev = elim (cases_lt k (length a.slots)) [
    | inl h ↦ h
    | inr past ↦ absurd (none-some l (sym (ap level_of (get_or_past a.slots k None past)) ∙ lev))
  ]

  -- listed keys at which there are nodes, counted
  pub occupied : (a : Slab (NodeCells D)) (xs : List ℕ) → ((k : ℕ) → 0 < times k xs → is_some (get a k) ≡ true) →
      sum_by (λ k. cond (is_some (get a k)) 1 0) xs ≡ length xs
  occupied a [] all = refl
  occupied a (x ∷ xs) all =
      let one = sum_by-cons (λ k. cond (is_some (get a k)) 1 0) x xs in
      let here : ◌≡◌ {A = ℕ} (cond (is_some (get a x)) 1 0) 1 =
      ap (λ b. cond b 1 0) (all x (omega (arith, times-append x (x ∷ []) xs, times-one x x refl))) in
      omega (arith, one, here, occupied a xs (λ k some. all k (omega (arith, times-append k (x ∷ []) xs))))

  -- ---- one node more
  module _ (t : Arena D) (window : List Interval) (s : IsSettled t) (keys rest : List ℕ) (key : ℕ) (rows : List (Row D)) (visited : ℕ)
      (so : Progress t window keys rows visited) (e : keys ≡ key ∷ rest) where
    link : IsLinked t.nodes t.root t.level []
    link = settled-linked t s

    keys-split : (k : ℕ) → times k keys ≡ times k rest + times k (key ∷ [])
    keys-split k = omega (arith, ap (times k) e, times-append k (key ∷ []) rest)

    pub key-reached : IsReached t window key
    key-reached = so.reached key (omega (arith, keys-split key, times-one key key refl))

    pub key-there : (l : ℕ) × (level_at t.nodes key ≡ Some l)
    key-there = reached-level t window link key key-reached

    -- fewer nodes were visited than there are keys
    pub visited-few : visited < length t.nodes.slots
    visited-few =
        let xs = so.seen ++ key ∷ [] in
        let f : ℕ → ℕ = λ k. cond (is_some (get t.nodes k)) 1 0 in
        let one : (k : ℕ) → times k xs ≤ 1 = λ k. omega (arith, times-append k so.seen (key ∷ []), keys-split k, so.once k) in
        let past : (k : ℕ) → length t.nodes.slots ≤ k → f k ≡ 0 = λ k h. ap (λ o. cond (is_some o) 1 0) (get_or_past t.nodes.slots k None h) in
        let few : (k : ℕ) → f k ≤ 1 = λ k. at_most (is_some (get t.nodes k)) in
        let bound = sum-listed_le f (length t.nodes.slots) xs past one in
        omega (
          arith,
          bound,
          upto-le f few (length t.nodes.slots),
          occupied t.nodes xs (λ k some.
              let h = reached-level t window link k (so.reached k (omega (arith, times-append k so.seen (key ∷ []), keys-split k))) in level-some t.nodes k h.0 h.1),
          length_push so.seen key,
          so.counted,
        )
      where
        at_most : (b : Bool) → cond b 1 0 ≤ 1
        at_most true = omega arith
        at_most false = omega arith

    module _ (rows1 : List (Row D)) (keys1 : List ℕ) (went : Visits t.nodes window key rows rows1 rest keys1) where
      abbrev more : List ℕ
      more = went.children_are.more

      keys-now : (k : ℕ) → times k keys1 ≡ times k rest + times k more
      keys-now k = ap (times k) went.children_are.is ∙ times-append k rest more

      seen-now : (k : ℕ) → times k (so.seen ++ key ∷ []) ≡ times k so.seen + times k (key ∷ [])
      seen-now k = times-append k so.seen (key ∷ [])

      -- what a new key is
      record IsNew (k : ℕ) : Type 0 where
        parent_is : parent_at t.nodes k ≡ Some key
        few : times k more ≤ 1
        fresh : times k so.seen + times k keys ≡ 0
        level : ℕ
        level_is : level_at t.nodes key ≡ Some (suc level)
        leads : LeadsInto window (cells_at t.nodes key) k

      new : (k : ℕ) → 0 < times k more → IsNew k
      new k some =
          let leads = went.children_are.named k some in
          let inner = inner-level t.nodes key (let h = leads.1.1 in omega arith) in
          let leads2 : LeadsInto window (cells_at t.nodes key) k = subst (λ (xs : List (Cell D)). LeadsInto window xs k) inner.1.cells leads in
          let child = All_contained (NamesChild t.nodes inner.0 key) (cells_at t.nodes key) leads2.0 (link.children key inner.0 inner.1.level) leads2.1 in
          let parent : parent_at t.nodes k ≡ Some key = ap (parent_at t.nodes) (sym leads2.2) ∙ child.parent_is in
          let lev : level_at t.nodes k ≡ Some inner.0 = ap (level_at t.nodes) (sym leads2.2) ∙ child.names.level_is in
          let ne : k ≢ t.root = λ e. none-some key (sym link.root_parent ∙ ap (parent_at t.nodes) (sym e) ∙ parent) in
          let above = ap (times_named k) (above-some t.nodes k key parent) in
          let one = link.named k inner.0 lev ne in
          record {
            parent_is = parent;
            few = omega (arith, above, one, went.children_are.each k);
            fresh = elim (cases_lt 0 (times k so.seen + times k keys)) [
              | inl old ↦ let seen = so.above k key old parent in absurd (omega (arith, seen, so.once key, keys-split key, times-one key key refl))
              | inr none ↦ omega arith
            ];
            level = inner.0;
            level_is = inner.1.level;
            leads = leads2;
          }

      pub Progress-step : Progress t window keys1 rows1 (visited + 1)
      Progress-step = record {
        seen = so.seen ++ key ∷ [];
        counted = omega (arith, length_push so.seen key, so.counted);
        once = λ k. elim (cases_lt 0 (times k more)) [
          | inl some ↦ let n = new k some in omega (arith, keys-now k, seen-now k, keys-split k, n.few, n.fresh)
          | inr none ↦ omega (arith, keys-now k, seen-now k, keys-split k, so.once k)
        ];
        top = omega (arith, keys-now t.root, seen-now t.root, keys-split t.root, so.top);
        reached = λ k some. elim (cases_lt 0 (times k more)) [
          | inl is ↦ let n = new k is in IsReached.child n.level key-reached n.level_is n.leads
          | inr none ↦ so.reached k (omega (arith, keys-now k, seen-now k, keys-split k))
        ];
        above = λ k p some up. elim (cases_lt 0 (times k more)) [
          | inl is ↦
              let n = new k is in
              let same : key ≡ p = same_Some key p (sym n.parent_is ∙ up) in
              omega (arith, seen-now p, times-one p key same)
          | inr none ↦ let h = so.above k p (omega (arith, keys-now k, seen-now k, keys-split k)) up in omega (arith, h, seen-now p)
        ];
        below = λ k l child some lev leads. elim (cases_lt 0 (times k (key ∷ []))) [
          | inl is ↦
              let same : key ≡ k = times-is k key is in
              let lev2 : level_at t.nodes key ≡ Some (suc l) = ap (level_at t.nodes) same ∙ lev in
              let leads2 : LeadsInto window (cells_at t.nodes key) child = subst (λ (j : ℕ). LeadsInto window (cells_at t.nodes j) child) (sym same) leads in
              let leads3 : LeadsInto window (inner_cells_at t.nodes key) child =
              subst (λ (xs : List (Cell D)). LeadsInto window xs child) (sym (inner-at_inner t.nodes key l lev2)) leads2 in
              omega (arith, keys-now child, went.children_are.all child leads3)
          | inr none ↦
              let h = so.below k l child (omega (arith, seen-now k)) lev leads in
              omega (arith, h, keys-now child, seen-now child, keys-split child)
        ];
        admitted = subst (All (λ r. Admits window r.rect)) (sym went.rows_are.is)
            (All-append (λ r. Admits window r.rect) rows went.rows_are.more so.admitted went.rows_are.admitted);
        each = λ test asks.
            let a = ap (count_by test) went.rows_are.is ∙ count-append test rows went.rows_are.more in
            let f : ℕ → ℕ = λ k. count_by (λ c. test (row_of c)) (leaf_cells_at t.nodes k) in
            let b = sum_by-append f so.seen (key ∷ []) in
            omega (arith, a, b, so.each test asks, went.rows_are.each test asks);
      }

  -- ---- where the search ends
  module _ (t : Arena D) (window : List Interval) (s : IsSettled t) (rows : List (Row D)) (visited : ℕ) (so : Progress t window [] rows visited) where
    last : IsLinked t.nodes t.root t.level []
    last = settled-linked t s

    seen-reached : (k : ℕ) → IsReached t window k → 0 < times k so.seen
    seen-reached k IsReached.root = let h = so.top in omega arith
    seen-reached k (IsReached.child {key = key} l up lev leads) = let h = so.below key l k (seen-reached key up) lev leads in omega arith

    -- a leaf with a row that is asked for is reached
    query-seen : (test : Row D → Bool) → AsksAdmitted window test → (k : ℕ) → 0 < count_by (λ c. test (row_of c)) (leaf_cells_at t.nodes k) → 0 < times k so.seen
    query-seen test asks k some =
        let found = counted-contained (λ (c : Cell D). test (row_of c)) (leaf_cells_at t.nodes k) some in
        let leaf = leaf-level t.nodes k (let h = found.1.1 in omega arith) in
        let there : Contains (cells_at t.nodes k) found.0 = subst (λ (xs : List (Cell D)). Contains xs found.0) leaf.1 found.1 in
        let box = All_contained (λ c. IsBox D c.rect) (cells_at t.nodes k) found.0 (s.whole.fitted.boxes k) there in
        let low = last.levels k 0 leaf.0 in
        seen-reached k (reached-up t window s.whole s.none found.0.rect box (asks (row_of found.0) found.2) t.level k 0 leaf.0 (omega arith)
        (hull-contained t s.whole k found.0 there))

    pub Progress-end : Finds t window rows visited
    Progress-end = record {
      admitted = so.admitted;
      each = λ test asks.
          let m : Option (NodeCells D) → ℕ = λ o. count_by (λ c. test (row_of c)) (leaf_cells_of o) in
          let f : ℕ → ℕ = λ k. m (get t.nodes k) in
          let past : (k : ℕ) → length t.nodes.slots ≤ k → f k ≡ 0 = λ k h. ap m (get_or_past t.nodes.slots k None h) in
          let a : sum_by f so.seen ≡ upto f (length t.nodes.slots) =
          sum-listed f (length t.nodes.slots) so.seen past (λ k. omega (arith, so.once k)) (query-seen test asks) in
          let b = upto-list m t.nodes.slots None in
          let w = ap (λ ws. count_rows (λ c. test (row_of c)) t.nodes ws) s.none in
          omega (arith, a, b, w, so.each test asks);
      nodes = so.seen;
      once = λ k is. let h = seen-reached k is in omega (arith, h, so.once k);
      only = λ k some. so.reached k (omega arith);
      counted = so.counted;
    }

  -- ---- a search that appends to a list
  pub record ProgressAfter (t : Arena D) (window : List Interval) (keys : List ℕ) (old rows : List (Row D)) (visited : ℕ) : Type 0 where
    pub more : List (Row D)
    pub is : rows ≡ old ++ more
    pub so : Progress t window keys more visited

  -- the same visit, after other rows that stood there before
  visits-behind : (a : Slab (NodeCells D)) (window : List Interval) (key : ℕ) (rows rows1 front : List (Row D)) (keys keys1 : List ℕ)
      (went : Visits a window key rows rows1 keys keys1) → Visits a window key front (front ++ went.rows_are.more) keys keys1
  visits-behind a window key rows rows1 front keys keys1 went = record {
    rows_are = record { more = went.rows_are.more; is = refl; admitted = went.rows_are.admitted; each = went.rows_are.each };
    children_are = went.children_are;
  }

  pub After-start : (t : Arena D) (window : List Interval) (keys : List ℕ) (rows : List (Row D)) → IsSettled t → keys ≡ t.root ∷ [] →
      ProgressAfter t window keys rows rows 0
  After-start t window keys rows s e = record { more = []; is = sym (append-nil rows); so = Progress-start t window keys s e }

  pub After-step : (t : Arena D) (window : List Interval) (s : IsSettled t) (keys rest : List ℕ) (key : ℕ) (old rows : List (Row D)) (visited : ℕ)
      (so : ProgressAfter t window keys old rows visited) → keys ≡ key ∷ rest → (rows1 : List (Row D)) (keys1 : List ℕ) →
      Visits t.nodes window key rows rows1 rest keys1 → ProgressAfter t window keys1 old rows1 (visited + 1)
  After-step t window s keys rest key old rows visited so e rows1 keys1 went = record {
    more = so.more ++ went.rows_are.more;
    is = went.rows_are.is ∙ ap (λ rs. rs ++ went.rows_are.more) so.is ∙ append_assoc old so.more went.rows_are.more;
    so = Progress-step t window s keys rest key so.more visited so.so e (so.more ++ went.rows_are.more) keys1
        (visits-behind t.nodes window key rows rows1 so.more rest keys1 went);
  }

  pub After-end : (t : Arena D) (window : List Interval) (s : IsSettled t) (old rows : List (Row D)) (visited : ℕ) →
      ProgressAfter t window [] old rows visited → FindsAfter t window old rows visited
  After-end t window s old rows visited so = record { more = so.more; is = so.is; finds = Progress-end t window s so.more visited so.so }

  -- ---- one node more of the list
  module _ (t : Arena D) (window : List Interval) (s : IsSettled t) (reached : List Reached) (at : ℕ) (next : Reached) (below : at < length reached)
      (is : next ≡ get_or reached at next) (old rows : List (Row D)) (so : ProgressAfter t window (drop at (keys_of reached)) old rows at) where
    first : drop at (keys_of reached) ≡ next.key ∷ drop (at + 1) (keys_of reached)
    first = keys-next reached at next below is

    pub next-there : ContainsKey t.nodes next.key
    next-there =
        let there = key-there t window s (drop at (keys_of reached)) (drop (at + 1) (keys_of reached)) next.key so.more at so.so first in
        level-some t.nodes next.key there.0 there.1

    pub next-few : at < length t.nodes.slots
    next-few = visited-few t window s (drop at (keys_of reached)) (drop (at + 1) (keys_of reached)) next.key so.more at so.so first

    pub After-next : (rows1 : List (Row D)) (keys1 : List ℕ) (query : List Interval) → query ≡ window →
        Visits t.nodes query next.key rows rows1 (keys_of reached) keys1 → ProgressAfter t window (drop (at + 1) keys1) old rows1 (at + 1)
    After-next rows1 keys1 query e went =
        After-step t window s (drop at (keys_of reached)) (drop (at + 1) (keys_of reached)) next.key old rows at so first rows1 (drop (at + 1) keys1)
        (visits-dropped t.nodes window next.key (at + 1) rows rows1 (keys_of reached) keys1
        (subst (λ (w : List Interval). Visits t.nodes w next.key rows rows1 (keys_of reached) keys1) e went)
        (omega (arith, below, length-map reached (λ (d : Reached). d.key))))
