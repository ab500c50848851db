-- The rows that a search by a window finds, and those of which a condition holds.
use Rattle.std.proofs.Common.{◌≡◌, ℕ, ◌<◌, Bool, true, false, ◌&&◌, cond, ℤ, List, [], ◌∷◌, length, map, get_or, Contains, All, Option, Some, None, arith, refl, ap, sym, ◌∙◌, subst, inl, inr}
use Rattle.std.specs.Prelude.{filter, ◌<ℤ◌}
use Rattle.std.specs.Bool.{Decides}
use Rattle.std.specs.List.{AllByRecursion, count_by}
use Rattle.std.specs.List.Sorted.{IsPermutation, IsSortedByKey}
use Rattle.std.specs.Option.{option_map, option_map_or}
use Rattle.std.specs.Ordering.{int_eq, int_cmp}
use Rattle.std.specs.Cmp.Lexicographic.{pointwise}
use Rattle.std.proofs.lemmas.Bool.{cases_Bool, and_from, true≢false}
use Rattle.std.proofs.lemmas.List.{get_or_default}
use Rattle.std.proofs.lemmas.Slice.Eq.{slice_eq-Decides}
use Rattle.rt_box.specs.declared.interval.Interval.{Interval}
use Rattle.rt_box.specs.Rect.{IsBox}
use Rattle.rt_box.specs.Window.{Admits}
use Rattle.rt_check.specs.declared.node.NodeRow.{NodeRow}
use Rattle.rt_check.specs.declared.node.RawCell.{RawCell}
use Rattle.rt_check.specs.Shadow.{ShadowLists}
use Rattle.rt_check.specs.Conditions.{is_leaf, leaf_cells}
use Rattle.rt_tree_node.proofs.Counts.{count-some}
use Rattle.rt_tree_walk.specs.declared.searching.Row.{Row}
use Rattle.rt_tree_walk.proofs.Reaching.{All_contained, counted-contained}
use Rattle.rt_tree_walk.proofs.Judging.{count-mapped}
use Rattle.rt_tree.specs.Lists.{box_in, row_in, rows_of}
use Rattle.rt_tree.specs.Boxes.{HasBoxes}
use Rattle.rt_tree.specs.Search.{FindsIn, FindsInAfter}
use Rattle.rt_tree.proofs.Members.{contains-none, contains-map, contains-mapped}
use Rattle.rt_table_row.specs.Rows.{TableRow, AreRising, row_at}
use Rattle.rt_table_row.specs.Filters.{Placed, admits}
use Rattle.rt_table_row.specs.Windows.{IsWindowAt}
use Rattle.rt_table_row.proofs.Windows.{window-keeps}
use Rattle.rt_table_store.specs.Trees.{leaf_row, IsTreeOf}
use Rattle.rt_table_store.specs.Picking.{Stands, ArePicked, passes, picked_rows, picked_ids}
use Rattle.rt_table_store.proofs.Order.{eq_same, eq_from}
use Rattle.rt_table_store.proofs.Sorted.{Rises, rises, rises-filter}
use Rattle.rt_table_store.proofs.Soundness.{flat_from, found_in}
use Rattle.rt_table_store.proofs.Alike.{count_alike, count_kept, count_permuted, sorted_climbs, at_own_key, counted_in_both, same_counts}

-- ---- a list that had no rows before

pub finds_alone : {D : ℕ} (s : ShadowLists D) (window : List Interval) (rows : List (Row D)) (visited : ℕ) → FindsInAfter s window [] rows visited → FindsIn s window rows visited
finds_alone {D} s window rows visited after = subst (λ (found : List (Row D)). FindsIn s window found visited) (sym after.is) after.finds

-- ---- whether boxes and rows are the same

pub same_side : Interval → Interval → Bool
same_side i j = int_eq i.lo j.lo && int_eq i.hi j.hi

both : (a b : Bool) → (a && b) ≡ true → (a ≡ true) × (b ≡ true)
both true b e = (refl, e)
both false b e = absurd (true≢false (sym e))

side-Decides : (i j : Interval) → Decides (same_side i j) (i ≡ j)
unfolding same_side
side-Decides i j = (
  (λ e.
      let ends = both (int_eq i.lo j.lo) (int_eq i.hi j.hi) e in
      let lo : i.lo ≡ j.lo = eq_from i.lo j.lo ends.0 in
      let hi : i.hi ≡ j.hi = eq_from i.hi j.hi ends.1 in
      let with_lo : ℤ → Interval = λ z. record { lo = z; hi = i.hi } in
      let with_hi : ℤ → Interval = λ z. record { lo = j.lo; hi = z } in
      ap with_lo lo ∙ ap with_hi hi),
  (λ e. subst (λ (k : Interval). same_side i k ≡ true) e (and_from (int_eq i.lo i.lo) (int_eq i.hi i.hi) (eq_same i.lo) (eq_same i.hi))),
)

abbrev pub same_sides : List Interval → List Interval → Bool
same_sides a b = pointwise same_side a b

sides-Decides : (a b : List Interval) → Decides (same_sides a b) (a ≡ b)
sides-Decides a b = slice_eq-Decides side-Decides a b (same_sides a b) refl

pub leaf_rises : (D : ℕ) (rows : List TableRow) → Rises (λ (row : TableRow). row.id) rows → Rises (λ (r : Row D). r.id) (map leaf_row rows)
leaf_rises D [] rise = tt
leaf_rises D (row ∷ rows) rise = (all_leaf rows rise.0, leaf_rises D rows rise.1)
  where
    all_leaf : (others : List TableRow) → AllByRecursion (λ (other : TableRow). row.id <ℤ other.id) others → AllByRecursion (λ (r : Row D). row.id <ℤ r.id) (map leaf_row others)
    all_leaf [] above = tt
    all_leaf (other ∷ others) above = (above.0, all_leaf others above.1)

-- the ids stay
pub leaf_ids : (D : ℕ) (rows : List TableRow) → map (λ (r : Row D). r.id) (map leaf_row rows) ≡ map (λ (row : TableRow). row.id) rows
leaf_ids D [] = refl
leaf_ids D (row ∷ rows) = ap (λ ids. row.id ∷ ids) (leaf_ids D rows)

pub ids_rise : (rows : List TableRow) → Rises (λ (row : TableRow). row.id) rows → Rises (λ (id : ℤ). id) (map (λ (row : TableRow). row.id) rows)
ids_rise [] rise = tt
ids_rise (row ∷ rows) rise = (all_ids rows rise.0, ids_rise rows rise.1)
  where
    all_ids : (others : List TableRow) → AllByRecursion (λ (other : TableRow). row.id <ℤ other.id) others → AllByRecursion (λ (id : ℤ). row.id <ℤ id) (map (λ (other : TableRow). other.id) others)
    all_ids [] above = tt
    all_ids (other ∷ others) above = (above.0, all_ids others above.1)

module _ {D : ℕ} where
  pub same_row : Row D → Row D → Bool
  same_row r q = int_eq r.id q.id && same_sides r.rect q.rect

  pub row_itself : (r : Row D) → same_row r r ≡ true
  unfolding same_row
  row_itself r = and_from (int_eq r.id r.id) (same_sides r.rect r.rect) (eq_same r.id) ((sides-Decides r.rect r.rect).1 refl)

  pub row_same : (r q : Row D) → same_row r q ≡ true → r ≡ q
  unfolding same_row
  row_same r q e =
      let parts = both (int_eq r.id q.id) (same_sides r.rect q.rect) e in
      let with_id : ℤ → Row D = λ z. record { id = z; rect = r.rect } in
      let with_rect : List Interval → Row D = λ b. record { id = q.id; rect = b } in
      ap with_id (eq_from r.id q.id parts.0) ∙ ap with_rect ((sides-Decides r.rect q.rect).0 parts.1)

  -- ---- the rows of a table and those of its tree

  -- the table's row of that id passes, and has that box
  passes_here : (TableRow → Bool) → List TableRow → Row D → Bool
  passes_here p rows r = option_map_or (λ row. p row && same_sides row.box r.rect) (row_at rows r.id) false

  module _ (rows : List TableRow) (tree : ShadowLists D) (rising : AreRising rows) (is : IsTreeOf rows tree) where
    rise : Rises (λ (row : TableRow). row.id) rows
    rise = rises (λ (row : TableRow). row.id) rows rising

    row_found : (row : TableRow) → Contains rows row → row_at rows row.id ≡ Some row
    row_found row there = at_own_key (λ (r : TableRow). r.id) rows row rise there

    in_table : (r : Row D) → Contains (rows_of tree) r → (row : TableRow) × Contains rows row × (leaf_row row ≡ r)
    in_table r there = contains-mapped leaf_row rows r (counted_in_both (λ (q : Row D). q.id) same_row row_itself row_same (rows_of tree) (map leaf_row rows) is.each r there)

    -- the box of a row is a box
    pub row_is_box : HasBoxes tree → (row : TableRow) → Contains rows row → IsBox D row.box
    row_is_box boxes row there =
        let in_tree = counted_in_both (λ (q : Row D). q.id) same_row row_itself row_same (map leaf_row rows) (rows_of tree) (λ test. sym (is.each test)) (leaf_row row)
        (contains-map leaf_row rows row there) in
        let cell = contains-mapped row_in (leaf_cells tree.nodes) (leaf_row row) in_tree in
        let node = flat_from (λ (n : NodeRow D). cond (is_leaf n) n.cells []) tree.nodes cell.0 cell.1 in
        let within = in_node node.0 cell.0 node.2 in
        let box = All_contained (λ (c : RawCell D). IsBox D (box_in c)) node.0.cells cell.0
        (All_contained (λ (m : NodeRow D). All (λ (c : RawCell D). IsBox D (box_in c)) m.cells) tree.nodes node.0 boxes node.1) within in
        subst (IsBox D) (ap (λ (r : Row D). r.rect) cell.2) box
      where
        in_node : (n : NodeRow D) (c : RawCell D) → Contains (cond (is_leaf n) n.cells []) c → Contains n.cells c
        in_node n c h = elim (cases_Bool (is_leaf n)) [
          | inl e ↦ subst (λ (b : Bool). Contains (cond b n.cells []) c) e h
          | inr e ↦ absurd (contains-none c (subst (λ (b : Bool). Contains (cond b n.cells []) c) e h))
        ]

    -- ---- by a window

    module _ (window : List Interval) (found : List (Row D)) (visited : ℕ) (finds : FindsIn tree window found visited) where
      stands : (r : Row D) → Contains found r → Stands rows r
      stands r there =
          let some = count-some (same_row r) found there.0 r there.1 (ap (same_row r) there.2 ∙ row_itself r) in
          let admitted = All_contained (λ (q : Row D). Admits window q.rect) found r finds.admitted there in
          let each = finds.each (same_row r) (λ q e. subst (λ (z : Row D). Admits window z.rect) (row_same r q e) admitted) in
          let listed = counted-contained (same_row r) (rows_of tree) (omega (arith, some, each)) in
          let row = in_table r (subst (Contains (rows_of tree)) (sym (row_same r listed.0 listed.2)) listed.1) in
          ap (λ (z : ℤ). option_map leaf_row (row_at rows z)) (sym (ap (λ (q : Row D). q.id) row.2)) ∙ ap (option_map leaf_row) (row_found row.0 row.1) ∙ ap Some row.2

      -- each row that is found stands in the table
      pub all_stand : All (Stands rows) found
      all_stand = λ k d h. stands (get_or found k d) (contains_at k d h)
        where
          contains_at : (k : ℕ) (d : Row D) → k < length found → Contains found (get_or found k d)
          contains_at k d h = (k, h, get_or_default found k (get_or found k d) d h)

      module _ (p : TableRow → Bool) (keeps : (row : TableRow) → Contains rows row → p row ≡ true → Admits window row.box) where
        at_row : (r : Row D) (row : TableRow) → row_at rows r.id ≡ Some row → leaf_row row ≡ r → passes p rows r ≡ passes_here p rows r
        unfolding passes_here
        at_row r row e same =
            let here : passes p rows r ≡ p row = ap (λ o. option_map_or p o false) e in
            let there : passes_here p rows r ≡ (p row && same_sides row.box r.rect) = ap (λ o. option_map_or (λ (z : TableRow). p z && same_sides z.box r.rect) o false) e in
            let box : same_sides row.box r.rect ≡ true = (sides-Decides row.box r.rect).1 (ap (λ (q : Row D). q.rect) same) in
            here ∙ sym (there ∙ ap (λ b. p row && b) box ∙ and_true (p row))
          where
            and_true : (b : Bool) → (b && true) ≡ b
            and_true true = refl
            and_true false = refl

        found_alike : (r : Row D) → Contains found r → passes p rows r ≡ passes_here p rows r
        found_alike r there = by (row_at rows r.id) refl
          where
            by : (o : Option TableRow) → row_at rows r.id ≡ o → passes p rows r ≡ passes_here p rows r
            by None e = let wrong : None ≡ Some r = sym (ap (option_map leaf_row) e) ∙ stands r there in absurd (let none : ⊥ = cc in none)
            by (Some row) e = let same : Some (leaf_row row) ≡ Some r = sym (ap (option_map leaf_row) e) ∙ stands r there in at_row r row e (let z : leaf_row row ≡ r = cc in z)

        row_alike : (row : TableRow) → Contains rows row → passes_here p rows (leaf_row row) ≡ p row
        row_alike row there = sym (at_row (leaf_row row) row (row_found row there) refl) ∙ ap (λ o. option_map_or p o false) (row_found row there)

        passing_admitted : (r : Row D) → passes_here p rows r ≡ true → Admits window r.rect
        unfolding passes_here
        passing_admitted r e = by (row_at rows r.id) refl
          where
            by : (o : Option TableRow) → row_at rows r.id ≡ o → Admits window r.rect
            by None at = absurd (true≢false (sym e ∙ ap (λ o. option_map_or (λ (z : TableRow). p z && same_sides z.box r.rect) o false) at))
            by (Some row) at =
                let parts = both (p row) (same_sides row.box r.rect) (sym (ap (λ o. option_map_or (λ (z : TableRow). p z && same_sides z.box r.rect) o false) at) ∙ e) in
                let there = found_in (λ (z : TableRow). int_eq r.id z.id) rows row at in
                subst (Admits window) ((sides-Decides row.box r.rect).0 parts.1) (keeps row there.0 parts.0)

        -- what passes is picked
        pub counts_kept : (test : Row D → Bool) → count_by test (filter (passes p rows) found) ≡ count_by test (map leaf_row (filter p rows))
        counts_kept test =
            count_kept (passes p rows) test found
            ∙ count_alike (λ r. passes p rows r && test r) (λ r. passes_here p rows r && test r) found (λ r h. ap (λ b. b && test r) (found_alike r h))
            ∙ finds.each (λ r. passes_here p rows r && test r) (λ r e. passing_admitted r (both (passes_here p rows r) (test r) e).0)
            ∙ is.each (λ r. passes_here p rows r && test r)
            ∙ count-mapped (λ r. passes_here p rows r && test r) leaf_row (λ row. passes_here p rows (leaf_row row) && test (leaf_row row)) rows (λ k d h. refl)
            ∙ count_alike (λ row. passes_here p rows (leaf_row row) && test (leaf_row row)) (λ row. p row && test (leaf_row row)) rows (λ row h. ap (λ b. b && test (leaf_row row)) (row_alike row h))
            ∙ sym (count_kept p (λ row. test (leaf_row row)) rows)
            ∙ sym (count-mapped test leaf_row (λ row. test (leaf_row row)) (filter p rows) (λ k d h. refl))

    -- ---- rows that are picked, in any order

    module _ (condition : Placed) (kept : List (Row D)) (picked : ArePicked condition rows kept) where
      pass_rise : Rises (λ (row : TableRow). row.id) (filter (admits condition) rows)
      pass_rise = rises-filter (λ (row : TableRow). row.id) (admits condition) rows rise

      -- sorted by id they are the table's rows that pass
      pub sorted_picked : (sorted : List (Row D)) → IsPermutation kept sorted → IsSortedByKey (λ (r : Row D). r.id) int_cmp sorted → sorted ≡ picked_rows condition rows
      sorted_picked sorted moved in_order =
          same_counts (λ (r : Row D). r.id) same_row row_itself row_same sorted (picked_rows condition rows) (sorted_climbs (λ (r : Row D). r.id) sorted in_order)
          (leaf_rises D (filter (admits condition) rows) pass_rise)
          (λ test. count_permuted test kept sorted moved ∙ picked test)

      -- and so are their ids
      pub ids_picked : (ids : List ℤ) → IsPermutation (map (λ (r : Row D). r.id) kept) ids → IsSortedByKey (λ (id : ℤ). id) int_cmp ids → ids ≡ picked_ids condition rows
      ids_picked ids moved in_order =
          same_counts (λ (id : ℤ). id) int_eq eq_same eq_from ids (picked_ids condition rows) (sorted_climbs (λ (id : ℤ). id) ids in_order)
          (ids_rise (filter (admits condition) rows) pass_rise)
          (λ test. count_permuted test (map (λ (r : Row D). r.id) kept) ids moved
          ∙ count-mapped test (λ (r : Row D). r.id) (λ (r : Row D). test r.id) kept (λ k d h. refl)
          ∙ picked (λ (r : Row D). test r.id)
          ∙ sym (count-mapped test (λ (r : Row D). r.id) (λ (r : Row D). test r.id) (picked_rows condition rows) (λ k d h. refl))
          ∙ ap (count_by test) (leaf_ids D (filter (admits condition) rows)))

    -- the window of the condition loses no row of which it holds
    pub window_loses_none : HasBoxes tree → (filter : Placed) (window : List Interval) → IsWindowAt D filter window → (row : TableRow) → Contains rows row →
        admits filter row ≡ true → Admits window row.box
    window_loses_none boxes filter window at row there holds = window-keeps D filter window row at (row_is_box boxes row there) holds
