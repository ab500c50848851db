-- How far a count has come.
use Rattle.std.proofs.Common.{◌≡◌, ◌⊎◌, ℕ, zero, suc, ◌+◌, ◌<◌, ◌≤◌, Bool, true, false, cond, ℤ, Some, List, [], ◌∷◌, ◌++◌, length, map, get_or, drop, Option, nat_eq, eqb-true, eq-eqb, inl, inr, arith, refl, ap, sym, ◌∙◌, subst}
use Rattle.std.specs.Prelude.{None, ◌&&◌, int_le}
use Rattle.std.specs.List.{All, AllZip, count_by, sum_by, remove, flat_map}
use Rattle.std.specs.Bool.{Decides}
use Rattle.std.proofs.lemmas.Bool.{true≢false}
use Rattle.std.proofs.lemmas.Bool.Decides.{Decides-and}
use Rattle.std.proofs.lemmas.List.{get_or_past, length-append, length-map}
use Rattle.std.proofs.lemmas.List.Concat.{length-flat_map}
use Rattle.std.proofs.lemmas.List.Elements.{All-head, All-tail, Contains-get_or}
use Rattle.std.proofs.lemmas.Option.{same_Some, none-some}
use Rattle.std.proofs.lemmas.List.Sums.{sum_by-cons, sum_by-append, sum_by-remove, sum_by-le-sum_by, count_by-le-length}
use Rattle.slab.specs.Slab.{Slab, get, ContainsKey}
use Rattle.rt_box.specs.Window.{MayHold}
use Rattle.rt_box.proofs.Holding.{Holds_refl}
use Rattle.rt_box.specs.declared.interval.Interval.{Interval}
use Rattle.rt_box.specs.Interval.{Includes}
use Rattle.rt_box.specs.Rect.{coordinates}
use Rattle.rt_tree_node.specs.declared.arena.Arena.{Arena}
use Rattle.rt_tree_node.specs.declared.cell.Cell.{Cell}
use Rattle.rt_tree_node.specs.Node.{NodeCells}
use Rattle.rt_tree_node.specs.Places.{key_of, times_named, cells_of, cells_at, leaf_cells_of, inner_cells_at, level_of, level_at}
use Rattle.rt_tree_node.specs.Below.{rows_below}
use Rattle.rt_tree_node.proofs.Places.{names_key, inner-at_inner, leaf-at_inner}
use Rattle.rt_tree_node.specs.Whole.{row_count}
use Rattle.rt_tree_node.proofs.Counts.{count-cons, count-some}
use Rattle.rt_tree_walk.specs.declared.searching.Reached.{Reached}
use Rattle.rt_tree_walk.specs.declared.searching.Row.{Row}
use Rattle.rt_tree_walk.specs.Search.{times, row_of, AsksAdmitted, Counts}
use Rattle.rt_tree_walk.specs.Visits.{keys_of, LiesInside, TakesChildren, CountsRows, VisitsCounting, CountsBelow}
use Rattle.rt_tree_walk.proofs.Ints.{int_le-true, int_le-from}
use Rattle.rt_tree_node.proofs.Sums.{upto-list}
use Rattle.rt_tree_walk.proofs.Totals.{times-cons, times-one, times-append, sum-listed_le}
use Rattle.rt_tree_walk.proofs.Taking.{TakesRows-none}
use Rattle.rt_tree_walk.proofs.Reaching.{All_contained, counted-contained}
use Rattle.rt_tree_walk.proofs.Judging.{count-mapped}
use Rattle.rt_tree_walk.proofs.Inside.{keys-next, counting-dropped, visits-counting_all, inside-child}
use Rattle.rt_tree_walk.proofs.Progress.{IsSettled, Progress, Progress-start, Progress-step, Progress-reordered, Progress-end, key-there, level-some}
use Rattle.rt_tree_walk.proofs.Due.{below, below-next}
use Rattle.rt_tree_walk.proofs.Listed.{contained-from_times, levels-below}

-- ---- a test of what a window admits
includes : Interval → ℤ → Bool
includes i z = int_le i.lo z && int_le z i.hi

includes-decides : (i : Interval) (z : ℤ) → Decides (includes i z) (Includes i z)
unfolding includes
includes-decides i z = Decides-and (int_le i.lo z) (int_le z i.hi) (int_le-true i.lo z, int_le-from i.lo z) (int_le-true z i.hi, int_le-from z i.hi)

pub allowed : List Interval → List ℤ → Bool
allowed [] [] = true
allowed [] (z ∷ zs) = false
allowed (i ∷ is) [] = false
allowed (i ∷ is) (z ∷ zs) = includes i z && allowed is zs

pub allowed-decides : (is : List Interval) (zs : List ℤ) → Decides (allowed is zs) (AllZip Includes is zs)
unfolding allowed
allowed-decides [] [] = (λ e. tt, λ h. refl)
allowed-decides [] (z ∷ zs) = (λ e. absurd (true≢false (sym e)), λ h. absurd h)
allowed-decides (i ∷ is) [] = (λ e. absurd (true≢false (sym e)), λ h. absurd h)
allowed-decides (i ∷ is) (z ∷ zs) = Decides-and (includes i z) (allowed is zs) (includes-decides i z) (allowed-decides is zs)

-- ---- lists and the keys in them
pub count-all : {X : Type 0} (test : X → Bool) (xs : List X) → All (λ x. test x ≡ true) xs → count_by test xs ≡ length xs
count-all test [] all = refl
count-all test (x ∷ xs) all =
    let here : ◌≡◌ {A = ℕ} (cond (test x) 1 0) 1 = ap (λ b. cond b 1 0) (All-head (λ y. test y ≡ true) x xs all) in
    omega (arith, here, count-cons test x xs, count-all test xs (All-tail (λ y. test y ≡ true) x xs all))

-- the sum over keys of which each is as often in another list is at most the sum over that one
sum-within : (f : ℕ → ℕ) (xs ys : List ℕ) → ((k : ℕ) → times k xs ≤ times k ys) → sum_by f xs ≤ sum_by f ys
sum-within f [] ys each = omega arith
sum-within f (x ∷ xs) ys each =
    let here : times x (x ∷ []) ≡ 1 = times-one x x refl in
    let at = contained-from_times x ys (omega (arith, times-cons x x xs, here, each x)) in
    let rest = sum-within f xs (remove ys at.0) (λ k.
    let gone = sum_by-remove (λ y. cond (nat_eq y k) 1 0) ys at.0 x at.1 in
    let same : times k (get_or ys at.0 x ∷ []) ≡ times k (x ∷ []) = ap (λ y. times k (y ∷ [])) at.2 in
    let one = count-cons (λ y. nat_eq y k) (get_or ys at.0 x) [] in
    omega (arith, times-cons k x xs, each k, gone, same, one)) in
    omega (arith, sum_by-cons f x xs, sum_by-remove f ys at.0 x at.1, ap f at.2, rest)

module _ {D : ℕ} where
  -- as many rows are counted as a search would have found so far
  pub record Counting (t : Arena D) (window : List Interval) (keys : List ℕ) (count : ℕ) : Type 0 where
    pub rows : List (Row D)
    pub visited : ℕ
    pub so : Progress t window keys rows visited
    pub counted : count ≡ length rows

  -- how many nodes are still to come at most
  pub ahead : Arena D → List ℕ → ℕ
  ahead t keys = sum_by (λ k. length (below t.nodes k)) keys

  pub Counting-start : (t : Arena D) (window : List Interval) (keys : List ℕ) → IsSettled t → keys ≡ t.root ∷ [] → Counting t window keys 0
  Counting-start t window keys s e = record { rows = []; visited = 0; so = Progress-start t window keys s e; counted = refl }

  module _ (t : Arena D) (window : List Interval) (s : IsSettled t) where
    -- no more rows are found than there are
    pub Counting-few : (keys : List ℕ) (count : ℕ) → Counting t window keys count → count ≤ row_count t
    Counting-few keys count so =
        let p = so.so in
        let test : Row D → Bool = λ r. allowed window (coordinates r.rect) in
        let asks : AsksAdmitted window test = λ r e. (allowed-decides window (coordinates r.rect)).0 e in
        let m : Option (NodeCells D) → ℕ = λ o. count_by (λ c. test (row_of c)) (leaf_cells_of o) in
        let n : Option (NodeCells D) → ℕ = λ o. count_by (λ c. true) (leaf_cells_of o) in
        let f : ℕ → ℕ = λ k. m (get t.nodes k) in
        let past : (k : ℕ) → length t.nodes.slots ≤ k → f k ≡ 0 = λ k h. ap m (get_or_past t.nodes.slots k None h) in
        let once : (k : ℕ) → times k p.seen ≤ 1 = λ k. omega (arith, p.once k) in
        let all = count-all test so.rows (λ k d h. (allowed-decides window (coordinates (get_or so.rows k d).rect)).1 (p.admitted k d h)) in
        let each = p.each test asks in
        let listed = sum-listed_le f (length t.nodes.slots) p.seen past once in
        let whole = upto-list m t.nodes.slots None in
        let more = sum_by-le-sum_by m n t.nodes.slots (λ o.
        omega (arith, count_by-le-length (λ c. test (row_of c)) (leaf_cells_of o), count-all (λ (c : Cell D). true) (leaf_cells_of o) (λ k d h. refl))) in
        omega (arith, all, each, listed, whole, more, so.counted)

    pub Counting-end : (count : ℕ) → Counting t window [] count → Counts t window count
    Counting-end count so =
        let f = Progress-end t window s so.rows so.visited so.so in
        record { rows = so.rows; admitted = f.admitted; each = f.each; counted = so.counted }

    -- a node is less still to come
    ahead-past : (keys rest : List ℕ) (key : ℕ) (keys1 : List ℕ) → keys ≡ key ∷ rest → keys1 ≡ rest → (l : ℕ) → level_at t.nodes key ≡ Some l → ahead t keys1 < ahead t keys
    unfolding ahead
    ahead-past keys rest key keys1 e same l lev =
        let f : ℕ → ℕ = λ k. length (below t.nodes k) in
        let own = ap length (below-next t s key l lev) in
        let now = ap (sum_by f) same in
        let was = ap (sum_by f) e ∙ sum_by-cons f key rest in
        omega (arith, own, now, was)

    module _ (keys rest : List ℕ) (key count : ℕ) (so : Counting t window keys count) (e : keys ≡ key ∷ rest) where
      pub counting-there : (l : ℕ) × (level_at t.nodes key ≡ Some l)
      counting-there = key-there t window s keys rest key so.rows so.visited so.so e

      module _ (n : ℕ) (keys1 : List ℕ) (went : VisitsCounting t.nodes window key n rest keys1) where
        pub Counting-step : Counting t window keys1 (count + n)
        Counting-step =
            let takes = went.rows_are.takes in
            record {
              rows = so.rows ++ takes.more;
              visited = so.visited + 1;
              so = Progress-step t window s keys rest key so.rows so.visited so.so e (so.rows ++ takes.more) keys1 (record {
                rows_are = record { more = takes.more; is = refl; admitted = takes.admitted; each = takes.each };
                children_are = went.children_are;
              });
              counted = omega (arith, so.counted, went.rows_are.counted, ap length takes.is, length-append so.rows takes.more);
            }

        pub ahead-less : ahead t keys1 < ahead t keys
        unfolding ahead
        ahead-less =
            let f : ℕ → ℕ = λ k. length (below t.nodes k) in
            let named = map key_of (inner_cells_at t.nodes key) in
            let children = went.children_are in
            let own = ap length (below-next t s key counting-there.0 counting-there.1) in
            let flat = length-flat_map (below t.nodes) named in
            let few = sum-within f children.more named (λ k.
            omega (arith, children.each k, count-mapped (λ j. nat_eq j k) key_of (λ c. nat_eq (key_of c) k) (inner_cells_at t.nodes key) (λ i d h. refl))) in
            let now = ap (sum_by f) children.is ∙ sum_by-append f rest children.more in
            let was = ap (sum_by f) e ∙ sum_by-cons f key rest in
            omega (arith, own, flat, few, now, was)

    -- ---- all that is below a node inside the window
    abbrev a : Slab (NodeCells D)
    a = t.nodes

    reordered : (keys keys1 : List ℕ) (count : ℕ) → ((k : ℕ) → times k keys1 ≡ times k keys) → Counting t window keys count → Counting t window keys1 count
    reordered keys keys1 count same so =
        record { rows = so.rows; visited = so.visited; so = Progress-reordered t window keys keys1 so.rows so.visited same so.so; counted = so.counted }

    -- the window may hold a box in each cell, so all children come
    all-children : (cells : List (Cell D)) (rest : List ℕ) → All (λ c. MayHold D window c.rect) cells →
        TakesChildren window cells rest (rest ++ map key_of cells)
    all-children cells rest may = record {
      more = map key_of cells;
      is = refl;
      each = λ key. omega (arith, listed key);
      named = λ key some.
          let found = counted-contained (names_key key) cells (omega (arith, some, listed key)) in
          (found.0, found.1, eqb-true (key_of found.0) key found.2, All_contained (λ c. MayHold D window c.rect) cells found.0 may found.1);
      all = λ key leads.
          let c = leads.0 in
          let at = leads.1 in
          let one = count-some (names_key key) cells at.0 c at.1 (ap (λ (x : Cell D). nat_eq (key_of x) key) at.2 ∙ eq-eqb (key_of c) key leads.2) in
          omega (arith, one, listed key);
    }
      where
        listed : (key : ℕ) → times key (map key_of cells) ≡ times_named key cells
        listed key = count-mapped (λ j. nat_eq j key) key_of (names_key key) cells (λ i d h. refl)

    abbrev Taken : ℕ → Type 0
    Taken l = (key : ℕ) (rest : List ℕ) (count : ℕ) → level_at a key ≡ Some l → LiesInside a window key →
        Counting t window (key ∷ rest) count → Counting t window rest (count + length (rows_below a l key))

    taken-cells : (l : ℕ) → Taken l → (cells : List (Cell D)) → All (λ c. level_at a (key_of c) ≡ Some l) cells → All (λ c. LiesInside a window (key_of c)) cells →
        (rest : List ℕ) (count : ℕ) → Counting t window (map key_of cells ++ rest) count →
        Counting t window rest (count + length (flat_map (λ c. rows_below a l (key_of c)) cells))
    taken-cells l by [] levels insides rest count so = subst (Counting t window rest) (omega arith) so
    taken-cells l by (c ∷ cs) levels insides rest count so =
        let mine = rows_below a l (key_of c) in
        let others = flat_map (λ x. rows_below a l (key_of x)) cs in
        let one = by (key_of c) (map key_of cs ++ rest) count (All-head (λ x. level_at a (key_of x) ≡ Some l) c cs levels)
        (All-head (λ x. LiesInside a window (key_of x)) c cs insides) so in
        let more = taken-cells l by cs (All-tail (λ x. level_at a (key_of x) ≡ Some l) c cs levels) (All-tail (λ x. LiesInside a window (key_of x)) c cs insides)
        rest (count + length mine) one in
        subst (Counting t window rest) (omega (arith, length-append mine others)) more

    taken-leaf : (key : ℕ) (rest : List ℕ) (count : ℕ) (o : Option (NodeCells D)) → get a key ≡ o → level_of o ≡ Some 0 → LiesInside a window key →
        Counting t window (key ∷ rest) count → Counting t window rest (count + length (cells_of o))
    taken-leaf key rest count None e lev inside so = absurd (none-some 0 lev)
    taken-leaf key rest count (Some n) e lev inside so =
        Counting-step (key ∷ rest) rest key count so refl (length n.cells) rest
        (visits-counting_all a window key n e (same_Some n.level 0 lev) inside.cells rest)

    taken-inner : (l : ℕ) → Taken l → Taken (suc l)
    taken-inner l by key rest count lev inside so =
        let cells = cells_at a key in
        let may : All (λ c. MayHold D window c.rect) cells = λ i d h.
        let c = get_or cells i d in (c.rect, s.whole.fitted.boxes key i d h, Holds_refl c.rect, inside.cells i d h) in
        let went : VisitsCounting a window key 0 rest (rest ++ map key_of cells) = record {
          rows_are = subst (λ (xs : List (Cell D)). CountsRows window xs 0) (sym (leaf-at_inner a key l lev))
              (record { rows = []; takes = TakesRows-none window []; counted = refl });
          children_are = subst (λ (xs : List (Cell D)). TakesChildren window xs rest (rest ++ map key_of cells)) (sym (inner-at_inner a key l lev))
              (all-children cells rest may);
        } in
        let step = Counting-step (key ∷ rest) rest key count so refl 0 (rest ++ map key_of cells) went in
        let turned = reordered (rest ++ map key_of cells) (map key_of cells ++ rest) (count + 0)
        (λ k. omega (arith, times-append k rest (map key_of cells), times-append k (map key_of cells) rest)) step in
        subst (λ n. Counting t window rest (n + length (rows_below a (suc l) key))) (omega arith)
        (taken-cells l by cells (levels-below t s key l lev)
        (λ i d h. inside-child t s.whole window key l lev inside (get_or cells i d) (Contains-get_or cells i d h)) rest (count + 0) turned)

    taken : (l : ℕ) → Taken l
    taken zero = λ key rest count lev inside so. taken-leaf key rest count (get a key) refl lev inside so
    taken (suc l) = taken-inner l (taken l)

    -- ---- one node more, in either way
    Counting-either : (keys rest : List ℕ) (key count : ℕ) → Counting t window keys count → keys ≡ key ∷ rest → (n : ℕ) (keys1 : List ℕ) →
        VisitsCounting a window key n rest keys1 ⊎ CountsBelow a window key n rest keys1 → Counting t window keys1 (count + n)
    Counting-either keys rest key count so e n keys1 (inl went) = Counting-step keys rest key count so e n keys1 went
    Counting-either keys rest key count so e n keys1 (inr counts) =
        subst (λ (ks : List ℕ). Counting t window ks (count + n)) (sym counts.same)
        (subst (λ m. Counting t window rest (count + m)) (sym counts.counted)
        (taken counts.level key rest count counts.level_is counts.inside (subst (λ (ks : List ℕ). Counting t window ks count) e so)))

    ahead-either : (keys rest : List ℕ) (key count : ℕ) → Counting t window keys count → keys ≡ key ∷ rest → (n : ℕ) (keys1 : List ℕ) →
        VisitsCounting a window key n rest keys1 ⊎ CountsBelow a window key n rest keys1 → ahead t keys1 < ahead t keys
    ahead-either keys rest key count so e n keys1 (inl went) = ahead-less keys rest key count so e n keys1 went
    ahead-either keys rest key count so e n keys1 (inr counts) = ahead-past keys rest key keys1 e counts.same counts.level counts.level_is

    dropped-either : (key n count : ℕ) (keys keys1 : List ℕ) → VisitsCounting a window key count keys keys1 ⊎ CountsBelow a window key count keys keys1 →
        n ≤ length keys → VisitsCounting a window key count (drop n keys) (drop n keys1) ⊎ CountsBelow a window key count (drop n keys) (drop n keys1)
    dropped-either key n count keys keys1 (inl went) h = inl (counting-dropped a window key n count keys keys1 went h)
    dropped-either key n count keys keys1 (inr counts) h =
        inr (record { inside = counts.inside; level = counts.level; level_is = counts.level_is; counted = counts.counted; same = ap (drop n) counts.same })

    -- ---- one node more of the list
    module _ (reached : List Reached) (at : ℕ) (next : Reached) (below_end : at < length reached) (is : next ≡ get_or reached at next) (count : ℕ)
        (so : Counting t window (drop at (keys_of reached)) count) where
      first : drop at (keys_of reached) ≡ next.key ∷ drop (at + 1) (keys_of reached)
      first = keys-next reached at next below_end is

      pub counted-there : ContainsKey t.nodes next.key
      counted-there =
          let there = counting-there (drop at (keys_of reached)) (drop (at + 1) (keys_of reached)) next.key count so first in
          level-some t.nodes next.key there.0 there.1

      module _ (n : ℕ) (reached1 : List Reached) (query : List Interval) (e : query ≡ window)
          (went : VisitsCounting t.nodes query next.key n (keys_of reached) (keys_of reached1) ⊎ CountsBelow t.nodes query next.key n (keys_of reached) (keys_of reached1)) where
        dropped : VisitsCounting t.nodes window next.key n (drop (at + 1) (keys_of reached)) (drop (at + 1) (keys_of reached1))
            ⊎ CountsBelow t.nodes window next.key n (drop (at + 1) (keys_of reached)) (drop (at + 1) (keys_of reached1))
        dropped =
            dropped-either next.key (at + 1) n (keys_of reached) (keys_of reached1)
            (subst (λ (w : List Interval). VisitsCounting t.nodes w next.key n (keys_of reached) (keys_of reached1)
            ⊎ CountsBelow t.nodes w next.key n (keys_of reached) (keys_of reached1)) e went)
            (omega (arith, below_end, length-map reached (λ (d : Reached). d.key)))

        pub Counting-next : Counting t window (drop (at + 1) (keys_of reached1)) (count + n)
        Counting-next = Counting-either (drop at (keys_of reached)) (drop (at + 1) (keys_of reached)) next.key count so first n (drop (at + 1) (keys_of reached1)) dropped

        pub ahead-next : ahead t (drop (at + 1) (keys_of reached1)) < ahead t (drop at (keys_of reached))
        ahead-next = ahead-either (drop at (keys_of reached)) (drop (at + 1) (keys_of reached)) next.key count so first n (drop (at + 1) (keys_of reached1)) dropped
