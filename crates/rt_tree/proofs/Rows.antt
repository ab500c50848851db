-- The rows of a tree from outside are those of its leaves.
use Rattle.std.proofs.Common.{◌≡◌, ℕ, ◌+◌, ◌<◌, ◌≤◌, Bool, cond, ℤ, List, [], ◌∷◌, length, Contains, Option, Some, None, nat_eq, arith, refl, ap, sym, ◌∙◌, subst}
use Rattle.std.proofs.Math.Path.{fun_ext}
use Rattle.std.specs.Prelude.{is_some}
use Rattle.std.specs.List.{sum_by, count_by}
use Rattle.std.specs.Option.{option_map}
use Rattle.std.specs.Ordering.{int_eq}
use Rattle.std.proofs.lemmas.Bool.Decides.{Decides-int_eq}
use Rattle.std.proofs.lemmas.Option.{same_Some, none-some}
use Rattle.std.proofs.lemmas.List.{get_or_past}
use Rattle.std.proofs.lemmas.List.Sums.{count_by-le-length}
use Rattle.slab.specs.Slab.{get}
use Rattle.indexmap.specs.IndexMap.{get as leaf_of}
use Rattle.rt_box.specs.declared.interval.Interval.{Interval}
use Rattle.rt_box.specs.Rect.{los, his}
use Rattle.rt_check.specs.declared.node.NodeRow.{NodeRow}
use Rattle.rt_check.specs.declared.node.RawCell.{RawCell}
use Rattle.rt_check.specs.Conditions.{is_leaf, leaf_cells}
use Rattle.rt_tree_node.specs.declared.arena.Arena.{Arena}
use Rattle.rt_tree_node.specs.declared.cell.Cell.{Cell}
use Rattle.rt_tree_node.specs.Node.{NodeCells}
use Rattle.rt_tree_node.specs.Places.{times_listed, pending_rows, leaf_cells_of, leaf_cells_at, cells_at, level_at, count_rows}
use Rattle.rt_tree_node.proofs.Places.{leaf-at_leaf}
use Rattle.rt_tree_walk.specs.declared.searching.Row.{Row}
use Rattle.rt_tree_walk.specs.Search.{times, row_of}
use Rattle.rt_tree_outside.specs.LeafRows.{row_cell}
use Rattle.rt_tree_walk.specs.Preorder.{tree_keys, number_in}
use Rattle.rt_tree_outside.specs.Outside.{cell_row, outside}
use Rattle.rt_tree_node.proofs.Sums.{upto-list}
use Rattle.rt_tree_walk.proofs.Totals.{sum-listed, times-one}
use Rattle.rt_tree_walk.proofs.Reaching.{leaf-level, counted-contained}
use Rattle.rt_tree_walk.proofs.Judging.{count-mapped}
use Rattle.rt_tree_walk.proofs.Progress.{IsSettled}
use Rattle.rt_tree_walk.proofs.Listed.{listed-contained}
use Rattle.rt_tree_outside.proofs.Judged.{row, row-cells, row-leaf}
use Rattle.rt_tree_outside.proofs.Flawless.{numbering}
use Rattle.rt_tree_outside.proofs.Rows.{outside-rows}
use Rattle.rt_tree.specs.Lists.{intervals, row_in, rows_of, box_of}
use Rattle.rt_tree.proofs.Members.{contains-map, contains-flat, find-one, find-nothing}

pub intervals-back : (b : List Interval) → intervals (los b) (his b) ≡ b
intervals-back [] = refl
intervals-back (i ∷ b) = ap (λ bs. i ∷ bs) (intervals-back b)

module _ {D : ℕ} where
  pub row-back : (c : Cell D) → row_in (row_cell c) ≡ row_of c
  row-back c = let with_box : List Interval → Row D = λ b. record { id = c.number; rect = b } in ap with_box (intervals-back c.rect)

  module _ (t : Arena D) (s : IsSettled t) where
    pub rows-counted : (test : Row D → Bool) → count_by test (rows_of (outside t)) ≡ count_rows (λ c. test (row_of c)) t.nodes t.pending.items
    rows-counted test =
        count-mapped test row_in (λ c. test (row_in c)) (leaf_cells (outside t).nodes) (λ i d h. refl)
        ∙ outside-rows t s (λ c. test (row_in c))
        ∙ ap (λ (f : Cell D → Bool). count_rows f t.nodes t.pending.items) (fun_ext (λ c. ap test (row-back c)))

    module _ (id : ℤ) where
      has : Row D → Bool
      has r = int_eq id r.id

      listed : Option (NodeCells D) → ℕ
      listed place = times_listed id (leaf_cells_of place)

      -- where the keys are listed whose leaves have the id, each once
      total : (keys : List ℕ) → ((k : ℕ) → times k keys ≤ 1) → ((k : ℕ) → 0 < listed (get t.nodes k) → 0 < times k keys) →
          count_by has (rows_of (outside t)) ≡ sum_by (λ k. listed (get t.nodes k)) keys
      unfolding has listed
      total keys once all =
          let past : (k : ℕ) → length t.nodes.slots ≤ k → listed (get t.nodes k) ≡ 0 = λ k h. ap listed (get_or_past t.nodes.slots k None h) in
          let a = sum-listed (λ k. listed (get t.nodes k)) (length t.nodes.slots) keys past once all in
          let b = upto-list listed t.nodes.slots None in
          let w = ap (λ ws. count_rows (λ c. int_eq id c.number) t.nodes ws) s.none in
          omega (arith, rows-counted has, a, b, w)

      none-have : leaf_of int_eq t.leaves id ≡ None → count_by has (rows_of (outside t)) ≡ 0
      unfolding has listed
      none-have none = total [] (λ k. omega arith) (λ k some. absurd (none-some k (sym none ∙ s.whole.homes.home k id some)))

      pub box-none : leaf_of int_eq t.leaves id ≡ None → box_of (outside t) id ≡ None
      unfolding has
      box-none none = ap (option_map (λ (r : Row D). r.rect)) (find-nothing has (rows_of (outside t)) (none-have none))

      module _ (k : ℕ) (leaf : leaf_of int_eq t.leaves id ≡ Some k) where
        here : times_listed id (leaf_cells_at t.nodes k) ≡ 1
        here =
            let h = s.whole.homes.there k id leaf in
            let w = ap (λ ws. times_listed id (leaf_cells_at t.nodes k) + times_listed id (pending_rows ws)) s.none in
            omega (arith, h, w)

        once : count_by has (rows_of (outside t)) ≡ 1
        unfolding has listed
        once =
            let a = total (k ∷ []) (λ j. omega (arith, count_by-le-length (λ x. nat_eq x j) (k ∷ []))) (λ j some. omega (arith, times-one j k (same_Some k j (sym leaf ∙ s.whole.homes.home j id some)))) in
            omega (arith, a, here)

        pub leaf-is : level_at t.nodes k ≡ Some 0
        leaf-is = let h = counted-contained (λ (c : Cell D). int_eq id c.number) (leaf_cells_at t.nodes k) (omega (arith, here)) in (leaf-level t.nodes k (let g = h.1.1 in omega arith)).0

        pub box-there : (c : Cell D) → Contains (cells_at t.nodes k) c → c.number ≡ id → box_of (outside t) id ≡ Some c.rect
        unfolding has listed
        box-there c there same =
            let keys = tree_keys t in
            let number = number_in keys in
            let is = numbering t s in
            let node : ℕ → NodeRow D = row t s keys number is in
            let in_cells : Contains (node k).cells (row_cell c) =
            subst (λ (cs : List (RawCell D)). Contains cs (row_cell c)) (sym (row-cells t s keys number is k 0 leaf-is)) (contains-map (cell_row number 0) (cells_at t.nodes k) c there) in
            let in_leaf : Contains (cond (is_leaf (node k)) (node k).cells []) (row_cell c) =
            subst (λ (b : Bool). Contains (cond b (node k).cells []) (row_cell c)) (sym (row-leaf t s keys number is k leaf-is)) in_cells in
            let in_leaves : Contains (leaf_cells (outside t).nodes) (row_cell c) =
            contains-flat (λ (n : NodeRow D). cond (is_leaf n) n.cells []) (outside t).nodes (node k) (row_cell c) (contains-map node keys k (listed-contained t s k 0 leaf-is)) in_leaf in
            let found = find-one has (rows_of (outside t)) (row_in (row_cell c)) (contains-map row_in (leaf_cells (outside t).nodes) (row_cell c) in_leaves)
            ((Decides-int_eq id c.number).1 (sym same)) (omega (arith, once)) in
            ap (option_map (λ (r : Row D). r.rect)) found ∙ ap (λ (r : Row D). Some r.rect) (row-back c)

        pub box-some : (c : Cell D) × (box_of (outside t) id ≡ Some c.rect)
        box-some =
            let h = counted-contained (λ (c : Cell D). int_eq id c.number) (leaf_cells_at t.nodes k) (omega (arith, here)) in
            let in_leaf = subst (λ (cs : List (Cell D)). Contains cs h.0) (leaf-at_leaf t.nodes k leaf-is) h.1 in
            (h.0, box-there h.0 in_leaf (sym ((Decides-int_eq id h.0.number).0 h.2)))

      -- of the rows at most one has the id
      pub few-have : count_by (λ (r : Row D). int_eq id r.id) (rows_of (outside t)) ≤ 1
      unfolding has
      few-have = by (leaf_of int_eq t.leaves id) refl
        where
          by : (o : Option ℕ) → leaf_of int_eq t.leaves id ≡ o → count_by has (rows_of (outside t)) ≤ 1
          by None e = omega (arith, none-have e)
          by (Some k) e = omega (arith, once k e)

      -- a row has a box where the map has its leaf
      pub has-row : is_some (box_of (outside t) id) ≡ is_some (leaf_of int_eq t.leaves id)
      has-row = by (leaf_of int_eq t.leaves id) refl
        where
          by : (o : Option ℕ) → leaf_of int_eq t.leaves id ≡ o → is_some (box_of (outside t) id) ≡ is_some o
          by None e = ap is_some (box-none e)
          by (Some k) e = ap is_some (box-some k e).1
