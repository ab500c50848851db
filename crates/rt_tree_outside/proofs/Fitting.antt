-- Cells above the leaves fit their children, and rows have their entries.
use Rattle.std.proofs.Common.{◌≡◌, ℕ, zero, suc, ◌<◌, Bool, true, false, not, ◌&&◌, ◌||◌, cond, ℤ, pos, List, [], ◌∷◌, length, map, get_or, Contains, Option, Some, None, IsSome, nat_eq, eq-eqb, arith, refl, ap, sym, ◌∙◌, subst, inl, inr}
use Rattle.std.specs.Prelude.{int_le}
use Rattle.std.specs.List.{All, count_by, enumerate_from, list_all, list_any}
use Rattle.std.specs.Option.{option_map_or}
use Rattle.std.specs.Ordering.{int_eq}
use Rattle.std.proofs.lemmas.Bool.{cases_eq, cases_lt, and_from, or_left, or_right}
use Rattle.std.proofs.lemmas.Bool.Decides.{Decides-int_eq}
use Rattle.std.proofs.lemmas.Cmp.{int_eq_equiv}
use Rattle.std.proofs.lemmas.Map.Views.{hash_map_contains_key_iff}
use Rattle.std.proofs.lemmas.Option.{same_Some, none-some}
use Rattle.std.proofs.lemmas.List.{length-map}
use Rattle.std.proofs.lemmas.List.Elements.{All-weaker, All-contains_itself}
use Rattle.indexmap.specs.IndexMap.{get as leaf_of, keys as ids_of}
use Rattle.rt_box.specs.declared.interval.Interval.{Interval}
use Rattle.rt_box.specs.Rect.{IsBox, Holds, los, his}
use Rattle.rt_check.specs.declared.node.NodeRow.{NodeRow}
use Rattle.rt_check.specs.declared.node.RawCell.{RawCell}
use Rattle.rt_check.specs.declared.node.RowEntry.{RowEntry}
use Rattle.rt_check.specs.declared.problem.Problem.{Problem}
use Rattle.rt_check.specs.declared.problem.Condition.TheVariants.{HasCell}
use Rattle.rt_check.specs.Conditions.{is_leaf, lies_in, holds_child, is_reached, is_hull, fits_child, has_entry, has_cell, entry_of, times_named, leaf_cells, coordinate, row_problems}
use Rattle.rt_box.specs.Hull.{hull}
use Rattle.rt_tree_node.specs.declared.arena.Arena.{Arena}
use Rattle.rt_tree_node.specs.declared.cell.Cell.{Cell}
use Rattle.rt_tree_node.specs.Places.{key_of, rects, times_listed, cells_at, leaf_cells_at, level_at, hull_at, pending_rows}
use Rattle.rt_tree_node.specs.Sound.{NamesChild}
use Rattle.rt_tree_node.proofs.Counts.{count-some}
use Rattle.rt_tree_node.proofs.Places.{leaf-at_leaf, leaf-at_inner}
use Rattle.rt_tree_walk.specs.Search.{times}
use Rattle.rt_tree_outside.specs.Outside.{cell_row, row_entry, rising}
use Rattle.rt_tree_walk.proofs.Totals.{times-one, times-other}
use Rattle.rt_tree_walk.proofs.Reaching.{hull-contained, boxes-long, counted-contained}
use Rattle.rt_tree_walk.proofs.Progress.{IsSettled, settled-linked}
use Rattle.rt_tree_walk.proofs.Listed.{HasNode}
use Rattle.rt_tree_outside.proofs.Numbered.{leaf-node}
use Rattle.rt_tree_walk.proofs.Ints.{int_le-from}
use Rattle.rt_tree_outside.proofs.Sides.{Holds-lo, Holds-hi, hull-lo, hull-hi}
use Rattle.rt_tree_outside.proofs.Rising.{rising-count}
use Rattle.rt_tree_walk.proofs.Judging.{All-mapped, All-counted, find-mapped, count-flat, count-mapped, sum-times}
use Rattle.rt_tree_outside.proofs.Failing.{failing-none, each_axis-from, list_all-from}
use Rattle.rt_tree_outside.proofs.Judged.{IsNumbering, row, lists, looked-up, row-leaf, row-inner, row-cells}

contained-map : {X Y : Type 0} (f : X → Y) (xs : List X) (y : Y) → Contains (map f xs) y → (x : X) × Contains xs x × (f x ≡ y)
contained-map f [] y h = absurd (omega (arith, h.1))
contained-map f (x ∷ xs) y (zero, h, e) = (x, (0, omega arith, refl), e)
contained-map f (x ∷ xs) y (suc k, h, e) =
    let r = contained-map f xs y (k, omega arith, e) in
    (r.0, (suc r.1.0, (let q = r.1.1 in omega arith), r.1.2), r.2)

any-mapped : {X Y : Type 0} (test : Y → Bool) (f : X → Y) (xs : List X) (x : X) → Contains xs x → test (f x) ≡ true → list_any test (map f xs) ≡ true
any-mapped test f [] x h e = absurd (omega (arith, h.1))
any-mapped test f (y ∷ xs) x (zero, h, is) e = or_left (test (f y)) (list_any test (map f xs)) (ap (λ z. test (f z)) is ∙ e)
any-mapped test f (y ∷ xs) x (suc k, h, is) e = or_right (test (f y)) (list_any test (map f xs)) (any-mapped test f xs x (k, omega arith, is) e)

-- the rising list has the same numbers
counted-there : (xs : List ℤ) (x : ℤ) → Contains xs x → 0 < count_by (int_eq x) xs
counted-there xs x h = count-some (int_eq x) xs h.0 x h.1 ((Decides-int_eq x (get_or xs h.0 x)).1 (sym h.2))

found-there : (xs : List ℤ) (x : ℤ) → 0 < count_by (int_eq x) xs → Contains xs x
found-there xs x some = let r = counted-contained (int_eq x) xs some in subst (Contains xs) (sym ((Decides-int_eq x r.0).0 r.2)) r.1

rising-has : (xs : List ℤ) (x : ℤ) → Contains xs x → Contains (rising xs) x
rising-has xs x h = found-there (rising xs) x (omega (arith, counted-there xs x h, rising-count (int_eq x) xs))

rising-only : (xs : List ℤ) (x : ℤ) → Contains (rising xs) x → Contains xs x
rising-only xs x h = found-there xs x (omega (arith, counted-there (rising xs) x h, rising-count (int_eq x) xs))

module _ {D : ℕ} (number : ℕ → ℤ) where
  lies-from : (l m : ℕ) (inner outer : Cell D) → Holds outer.rect inner.rect → lies_in (cell_row number l inner) (cell_row number m outer) ≡ true
  lies-from l m inner outer h =
      each_axis-from (λ axis. int_le (coordinate (los outer.rect) axis) (coordinate (los inner.rect) axis) && int_le (coordinate (his inner.rect) axis) (coordinate (his outer.rect) axis)) D
      (λ axis q. and_from (int_le (coordinate (los outer.rect) axis) (coordinate (los inner.rect) axis)) (int_le (coordinate (his inner.rect) axis) (coordinate (his outer.rect) axis))
      (int_le-from (coordinate (los outer.rect) axis) (coordinate (los inner.rect) axis) (Holds-lo outer.rect inner.rect h axis))
      (int_le-from (coordinate (his inner.rect) axis) (coordinate (his outer.rect) axis) (Holds-hi outer.rect inner.rect h axis)))

  all-lie : (l m : ℕ) (cells : List (Cell D)) (outer : Cell D) → ((x : Cell D) → Contains cells x → Holds outer.rect x.rect) →
      list_all (λ x. lies_in x (cell_row number m outer)) (map (cell_row number l) cells) ≡ true
  all-lie l m cells outer h =
      list_all-from (λ x. lies_in x (cell_row number m outer)) (map (cell_row number l) cells)
      (All-mapped (λ x. lies_in x (cell_row number m outer) ≡ true) (cell_row number l) cells
      (All-weaker (Contains cells) (λ x. lies_in (cell_row number l x) (cell_row number m outer) ≡ true) (λ x c. lies-from l m x outer (h x c)) cells (All-contains_itself cells)))

  reached-from : (l m : ℕ) (cells : List (Cell D)) (outer : Cell D) → 0 < length cells → All (λ c. IsBox D c.rect) cells → outer.rect ≡ hull (rects cells) →
      is_reached (cell_row number m outer) (map (cell_row number l) cells) ≡ true
  reached-from l m cells outer some boxes e =
      each_axis-from (λ axis.
      list_any (λ x. int_eq (coordinate x.lo axis) (coordinate (los outer.rect) axis)) (map (cell_row number l) cells)
      && list_any (λ x. int_eq (coordinate x.hi axis) (coordinate (his outer.rect) axis)) (map (cell_row number l) cells)) D
      (λ axis q. and_from (list_any (λ x. int_eq (coordinate x.lo axis) (coordinate (los outer.rect) axis)) (map (cell_row number l) cells))
      (list_any (λ x. int_eq (coordinate x.hi axis) (coordinate (his outer.rect) axis)) (map (cell_row number l) cells)) (low axis) (high axis))
    where
      many : 0 < length (rects cells)
      many = let r = length-map cells (λ (c : Cell D). c.rect) in omega (arith, r, some)

      low : (axis : ℕ) → list_any (λ x. int_eq (coordinate x.lo axis) (coordinate (los outer.rect) axis)) (map (cell_row number l) cells) ≡ true
      low axis =
          let h = hull-lo D axis (rects cells) many (boxes-long cells boxes) in
          let x = contained-map (λ (c : Cell D). c.rect) cells h.0 h.1 in
          any-mapped (λ (r : RawCell D). int_eq (coordinate r.lo axis) (coordinate (los outer.rect) axis)) (cell_row number l) cells x.0 x.1
          ((Decides-int_eq (coordinate (los x.0.rect) axis) (coordinate (los outer.rect) axis)).1
          (ap (λ b. coordinate (los b) axis) x.2 ∙ h.2 ∙ ap (λ b. coordinate (los b) axis) (sym e)))

      high : (axis : ℕ) → list_any (λ x. int_eq (coordinate x.hi axis) (coordinate (his outer.rect) axis)) (map (cell_row number l) cells) ≡ true
      high axis =
          let h = hull-hi D axis (rects cells) many (boxes-long cells boxes) in
          let x = contained-map (λ (c : Cell D). c.rect) cells h.0 h.1 in
          any-mapped (λ (r : RawCell D). int_eq (coordinate r.hi axis) (coordinate (his outer.rect) axis)) (cell_row number l) cells x.0 x.1
          ((Decides-int_eq (coordinate (his x.0.rect) axis) (coordinate (his outer.rect) axis)).1
          (ap (λ b. coordinate (his b) axis) x.2 ∙ h.2 ∙ ap (λ b. coordinate (his b) axis) (sym e)))

module _ {D : ℕ} (t : Arena D) (s : IsSettled t) (keys : List ℕ) (number : ℕ → ℤ) (is : IsNumbering t s keys number) where
  -- ---- C5 and C6
  -- a cell above the leaves, its child, and its box
  record IsParentOf (k l : ℕ) (c : Cell D) : Type 0 where
    names : NamesChild t.nodes l k c
    rect_is : c.rect ≡ hull_at t.nodes (key_of c)

  parents : (k l : ℕ) → level_at t.nodes k ≡ Some (suc l) → All (IsParentOf k l) (cells_at t.nodes k)
  parents k l e = λ i d h. record {
    names = (settled-linked t s).children k l e i d h;
    rect_is = s.whole.fitted.hulls k l e i d h (none-some (key_of (get_or (cells_at t.nodes k) i d)));
  }

  held-by : (c : Cell D) → c.rect ≡ hull_at t.nodes (key_of c) → (x : Cell D) → Contains (cells_at t.nodes (key_of c)) x → Holds c.rect x.rect
  held-by c e x h = subst (λ (b : List Interval). Holds b x.rect) (sym e) (hull-contained t s.whole (key_of c) x h)

  child-held : (k l : ℕ) (c : Cell D) → IsParentOf k l c → holds_child (lists t s keys number is) (cell_row number (suc l) c) ≡ true
  child-held k l c p =
      let j = key_of c in
      ap (λ o. option_map_or (λ (child : NodeRow D). list_all (λ x. lies_in x (cell_row number (suc l) c)) child.cells) o true) (looked-up t s keys number is j l p.names.names.level_is)
      ∙ ap (λ xs. list_all (λ x. lies_in x (cell_row number (suc l) c)) xs) (row-cells t s keys number is j l p.names.names.level_is)
      ∙ all-lie number l (suc l) (cells_at t.nodes j) c (held-by c p.rect_is)

  pub children-held : (k l : ℕ) → level_at t.nodes k ≡ Some l → All (λ c. (is_leaf (row t s keys number is k) || holds_child (lists t s keys number is) (cell_row number l c)) ≡ true) (cells_at t.nodes k)
  children-held k zero e = λ i d h. or_left (is_leaf (row t s keys number is k)) (holds_child (lists t s keys number is) (cell_row number 0 (get_or (cells_at t.nodes k) i d))) (row-leaf t s keys number is k e)
  children-held k (suc l) e = All-weaker (IsParentOf k l) (λ c. (is_leaf (row t s keys number is k) || holds_child (lists t s keys number is) (cell_row number (suc l) c)) ≡ true)
      (λ c p. or_right (is_leaf (row t s keys number is k)) (holds_child (lists t s keys number is) (cell_row number (suc l) c)) (child-held k l c p)) (cells_at t.nodes k) (parents k l e)

  fits-at : (l m : ℕ) (cells : List (Cell D)) (c : Cell D) → All (λ x. IsBox D x.rect) cells → c.rect ≡ hull (rects cells) → ((x : Cell D) → Contains cells x → Holds c.rect x.rect) →
      (nat_eq (length (map (cell_row number l) cells)) 0 || is_hull (cell_row number m c) (map (cell_row number l) cells)) ≡ true
  fits-at l m cells c boxes e h = elim (cases_lt 0 (length cells)) [
    | inl some ↦
        or_right (nat_eq (length (map (cell_row number l) cells)) 0) (is_hull (cell_row number m c) (map (cell_row number l) cells))
        (and_from (list_all (λ x. lies_in x (cell_row number m c)) (map (cell_row number l) cells)) (is_reached (cell_row number m c) (map (cell_row number l) cells))
        (all-lie number l m cells c h) (reached-from number l m cells c some boxes e))
    | inr none ↦
        or_left (nat_eq (length (map (cell_row number l) cells)) 0) (is_hull (cell_row number m c) (map (cell_row number l) cells))
        (eq-eqb (length (map (cell_row number l) cells)) 0 (omega (arith, none, length-map cells (cell_row number l))))
  ]

  child-fits : (k l : ℕ) (c : Cell D) → IsParentOf k l c → fits_child (lists t s keys number is) (cell_row number (suc l) c) ≡ true
  child-fits k l c p =
      let j = key_of c in
      ap (λ o. option_map_or (λ (child : NodeRow D). nat_eq (length child.cells) 0 || is_hull (cell_row number (suc l) c) child.cells) o true) (looked-up t s keys number is j l p.names.names.level_is)
      ∙ ap (λ xs. nat_eq (length xs) 0 || is_hull (cell_row number (suc l) c) xs) (row-cells t s keys number is j l p.names.names.level_is)
      ∙ fits-at l (suc l) (cells_at t.nodes j) c (s.whole.fitted.boxes j) p.rect_is (held-by c p.rect_is)

  pub children-fit : (k l : ℕ) → level_at t.nodes k ≡ Some l → All (λ c. (is_leaf (row t s keys number is k) || fits_child (lists t s keys number is) (cell_row number l c)) ≡ true) (cells_at t.nodes k)
  children-fit k zero e = λ i d h. or_left (is_leaf (row t s keys number is k)) (fits_child (lists t s keys number is) (cell_row number 0 (get_or (cells_at t.nodes k) i d))) (row-leaf t s keys number is k e)
  children-fit k (suc l) e = All-weaker (IsParentOf k l) (λ c. (is_leaf (row t s keys number is k) || fits_child (lists t s keys number is) (cell_row number (suc l) c)) ≡ true)
      (λ c p. or_right (is_leaf (row t s keys number is k)) (fits_child (lists t s keys number is) (cell_row number (suc l) c)) (child-fits k l c p)) (cells_at t.nodes k) (parents k l e)

  -- ---- C8
  ids : List ℤ
  ids = ids_of t.leaves

  leaf : ℤ → Option ℕ
  leaf = leaf_of int_eq t.leaves

  entry-found : (id : ℤ) → Contains (rising (ids_of t.leaves)) id →
      entry_of (map (row_entry number (leaf_of int_eq t.leaves)) (rising (ids_of t.leaves))) id ≡ Some (row_entry number (leaf_of int_eq t.leaves) id)
  entry-found id h = find-mapped (row_entry number (leaf_of int_eq t.leaves)) (λ (r : RowEntry). r.id) id (λ x e. sym e) (rising (ids_of t.leaves)) h

  id-listed : (id : ℤ) (k : ℕ) → leaf_of int_eq t.leaves id ≡ Some k → Contains (rising (ids_of t.leaves)) id
  id-listed id k e =
      rising-has (ids_of t.leaves) id ((hash_map_contains_key_iff int_eq_equiv (λ x y q. (Decides-int_eq x y).0 q) t.leaves id).0 (subst IsSome (sym e) refl))

  pub rows-entered : (k l : ℕ) → level_at t.nodes k ≡ Some l → All (λ c. (not (is_leaf (row t s keys number is k)) || has_entry (lists t s keys number is) (row t s keys number is k) (cell_row number l c)) ≡ true) (cells_at t.nodes k)
  rows-entered k (suc l) e = λ i d h. or_left (not (is_leaf (row t s keys number is k)))
      (has_entry (lists t s keys number is) (row t s keys number is k) (cell_row number (suc l) (get_or (cells_at t.nodes k) i d))) (ap not (row-inner t s keys number is k l e))
  rows-entered k zero e = λ i d h.
      let c = get_or (cells_at t.nodes k) i d in
      let some : 0 < times_listed c.number (cells_at t.nodes k) = count-some (λ (x : Cell D). int_eq c.number x.number) (cells_at t.nodes k) i d h ((Decides-int_eq c.number c.number).1 refl) in
      let same = ap (times_listed c.number) (leaf-at_leaf t.nodes k e) in
      let home = s.whole.homes.home k c.number (omega (arith, some, same)) in
      or_right (not (is_leaf (row t s keys number is k))) (has_entry (lists t s keys number is) (row t s keys number is k) (cell_row number 0 c))
      (ap (λ o. option_map_or (λ (r : RowEntry). int_eq r.leaf (number k)) o false) (entry-found c.number (id-listed c.number k home))
      ∙ ap (λ o. int_eq (option_map_or number o (pos 0)) (number k)) home
      ∙ (Decides-int_eq (number k) (number k)).1 refl)

  -- ---- C9
  listed-part : (id : ℤ) (k : ℕ) → leaf_of int_eq t.leaves id ≡ Some k → (j : ℕ) → times_listed id (leaf_cells_at t.nodes j) ≡ times k (j ∷ [])
  listed-part id k e j = elim (cases_eq j k) [
    | inl q ↦
        let h = s.whole.homes.there k id e in
        let none = ap (λ ws. times_listed id (pending_rows ws)) s.none in
        let same = ap (λ i. times_listed id (leaf_cells_at t.nodes i)) q in
        omega (arith, h, none, same, times-one k j q)
    | inr ne ↦ elim (cases_lt 0 (times_listed id (leaf_cells_at t.nodes j))) [
      | inl some ↦ absurd (ne (same_Some j k (sym (s.whole.homes.home j id some) ∙ e)))
      | inr none ↦ omega (arith, none, times-other k j ne)
    ]
  ]

  leaf-part : (id : ℤ) (j : ℕ) → HasNode t s j →
      count_by (λ c. int_eq id c.number) (cond (is_leaf (row t s keys number is j)) (row t s keys number is j).cells []) ≡ times_listed id (leaf_cells_at t.nodes j)
  leaf-part id j (zero, e) =
      ap (λ b. count_by (λ c. int_eq id c.number) (cond b (row t s keys number is j).cells [])) (row-leaf t s keys number is j e)
      ∙ ap (count_by (λ c. int_eq id c.number)) (row-cells t s keys number is j 0 e)
      ∙ count-mapped (λ (c : RawCell D). int_eq id c.number) (cell_row number 0) (λ (c : Cell D). int_eq id c.number) (cells_at t.nodes j) (λ i d h. refl)
      ∙ ap (times_listed id) (sym (leaf-at_leaf t.nodes j e))
  leaf-part id j (suc l, e) =
      ap (λ b. count_by (λ c. int_eq id c.number) (cond b (row t s keys number is j).cells [])) (row-inner t s keys number is j l e)
      ∙ ap (times_listed id) (sym (leaf-at_inner t.nodes j l e))

  entry-once : (id : ℤ) (k l : ℕ) → leaf_of int_eq t.leaves id ≡ Some k → level_at t.nodes k ≡ Some l → times_named id (leaf_cells (map (row t s keys number is) keys)) ≡ 1
  entry-once id k l e at =
      count-flat (λ (c : RawCell D). int_eq id c.number) (λ (n : NodeRow D). cond (is_leaf n) n.cells []) (row t s keys number is) keys
      ∙ sum-times k (λ j. count_by (λ c. int_eq id c.number) (cond (is_leaf (row t s keys number is j)) (row t s keys number is j).cells [])) keys
      (All-weaker (HasNode t s) (λ j. count_by (λ c. int_eq id c.number) (cond (is_leaf (row t s keys number is j)) (row t s keys number is j).cells []) ≡ times k (j ∷ []))
      (λ j n. leaf-part id j n ∙ listed-part id k e j) keys is.there)
      ∙ is.once k l at

  row-celled : (id : ℤ) → Contains (rising (ids_of t.leaves)) id → has_cell (lists t s keys number is) (row_entry number (leaf_of int_eq t.leaves) id) ≡ true
  row-celled id h =
      let there = (hash_map_contains_key_iff int_eq_equiv (λ x y q. (Decides-int_eq x y).0 q) t.leaves id).1 (rising-only (ids_of t.leaves) id h) in
      by (leaf_of int_eq t.leaves id) refl there
    where
      by : (o : Option ℕ) → leaf_of int_eq t.leaves id ≡ o → IsSome o → has_cell (lists t s keys number is) (row_entry number (leaf_of int_eq t.leaves) id) ≡ true
      by None e q = cc
      by (Some k) e q =
          let node = leaf-node t s id k e in
          eq-eqb (times_named id (leaf_cells (map (row t s keys number is) keys))) 1 (entry-once id k node.0 e node.1)

  pub rows-celled : row_problems HasCell (has_cell (lists t s keys number is)) (map (row_entry number (leaf_of int_eq t.leaves)) (rising (ids_of t.leaves))) ≡ []
  rows-celled =
      let rows : List RowEntry = map (row_entry number (leaf_of int_eq t.leaves)) (rising (ids_of t.leaves)) in
      let entry : ℕ × RowEntry → Problem = λ r. record { condition = HasCell; node = r.1.leaf; position = r.0 } in
      failing-none (λ (r : ℕ × RowEntry). has_cell (lists t s keys number is) r.1) entry (enumerate_from 1 rows)
      (All-counted (λ r. has_cell (lists t s keys number is) r ≡ true) 1 rows
      (All-mapped (λ r. has_cell (lists t s keys number is) r ≡ true) (row_entry number (leaf_of int_eq t.leaves)) (rising (ids_of t.leaves))
      (All-weaker (Contains (rising (ids_of t.leaves))) (λ id. has_cell (lists t s keys number is) (row_entry number (leaf_of int_eq t.leaves) id) ≡ true) row-celled
      (rising (ids_of t.leaves)) (All-contains_itself (rising (ids_of t.leaves))))))
