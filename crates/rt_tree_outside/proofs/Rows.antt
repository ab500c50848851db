-- The rows of a tree from outside.
use Rattle.std.proofs.Common.{◌≡◌, ◌≢◌, ℕ, zero, suc, ◌<◌, ◌≤◌, Bool, false, cond, ℤ, ◌<ℤ◌, ◌≤ℤ◌, pos, List, [], ◌∷◌, length, map, get_or, Option, None, arith, refl, ap, sym, ◌∙◌, subst, inl, inr}
use Rattle.std.specs.List.{All, sum_by, count_by, IsDistinct}
use Rattle.std.specs.Ordering.{int_eq}
use Rattle.std.proofs.lemmas.Bool.{cases_Bool, cases_lt, true≢false}
use Rattle.std.proofs.lemmas.Bool.Decides.{Decides-int_eq}
use Rattle.std.proofs.lemmas.Int.{ints}
use Rattle.std.proofs.lemmas.List.{get_or-map, length-map, get_or_past}
use Rattle.std.proofs.lemmas.List.Elements.{All-head, All-tail, All-weaker, All-from_recursion}
use Rattle.std.proofs.lemmas.List.Sums.{sum_by-cons, count_by-le-length}
use Rattle.slab.specs.Slab.{get}
use Rattle.indexmap.specs.IndexMap.{get as leaf_of, keys as ids_of, IsUnique}
use Rattle.rt_check.specs.declared.node.NodeRow.{NodeRow}
use Rattle.rt_check.specs.declared.node.RawCell.{RawCell}
use Rattle.rt_check.specs.declared.node.RowEntry.{RowEntry}
use Rattle.rt_check.specs.Conditions.{is_leaf, leaf_cells}
use Rattle.rt_tree_node.specs.declared.arena.Arena.{Arena}
use Rattle.rt_tree_node.specs.declared.cell.Cell.{Cell}
use Rattle.rt_tree_node.specs.Node.{NodeCells}
use Rattle.rt_tree_node.specs.Places.{cells_at, leaf_cells_of, leaf_cells_at, count_rows}
use Rattle.rt_tree_node.proofs.Counts.{count-cons, count-zero, count-some}
use Rattle.rt_tree_node.proofs.Places.{leaf-at_leaf, leaf-at_inner}
use Rattle.rt_tree_walk.specs.Search.{times}
use Rattle.rt_tree_walk.specs.Preorder.{tree_keys, number_in}
use Rattle.rt_tree_outside.specs.Outside.{cell_row, row_entry, rising, outside}
use Rattle.rt_tree_outside.specs.InOrder.{AreByRisingId}
use Rattle.rt_tree_outside.specs.LeafRows.{row_cell, HasRows}
use Rattle.rt_tree_node.proofs.Sums.{upto-list}
use Rattle.rt_tree_walk.proofs.Totals.{sum-listed}
use Rattle.rt_tree_walk.proofs.Reaching.{leaf-level, All_contained}
use Rattle.rt_tree_walk.proofs.Progress.{IsSettled}
use Rattle.rt_tree_outside.proofs.Rising.{Rises, rising-rises, rising-count}
use Rattle.rt_tree_walk.proofs.Listed.{HasNode, listed-there, listed-once, contained-from_times}
use Rattle.rt_tree_walk.proofs.Judging.{count-flat, count-mapped}
use Rattle.rt_tree_outside.proofs.Judged.{row, row-leaf, row-inner, row-cells}
use Rattle.rt_tree_outside.proofs.Flawless.{numbering}

-- ---- rising ids
distinct-once : (xs : List ℤ) → IsDistinct int_eq xs → (z : ℤ) → count_by (int_eq z) xs ≤ 1
unfolding IsDistinct
distinct-once [] h z = omega arith
distinct-once (x ∷ xs) h z = elim (cases_Bool (int_eq z x)) [
  | inl e ↦
      let same : z ≡ x = (Decides-int_eq z x).0 e in
      let none = count-zero (int_eq x) xs (All-from_recursion (λ y. int_eq x y ≡ false) xs h.0) in
      let here : ◌≡◌ {A = ℕ} (cond (int_eq z x) 1 0) 1 = ap (λ b. cond b 1 0) e in
      omega (arith, count-cons (int_eq z) x xs, here, none, ap (λ w. count_by (int_eq w) xs) same)
  | inr e ↦
      let here : ◌≡◌ {A = ℕ} (cond (int_eq z x) 1 0) 0 = ap (λ b. cond b 1 0) e in
      omega (arith, count-cons (int_eq z) x xs, here, distinct-once xs h.1 z)
]

strictly : (xs : List ℤ) → Rises xs → ((z : ℤ) → count_by (int_eq z) xs ≤ 1) → (i j : ℕ) (d : ℤ) → i < j → j < length xs → get_or xs i d <ℤ get_or xs j d
strictly [] up once i j d h g = absurd (omega arith)
strictly (x ∷ xs) up once i zero d h g = absurd (omega arith)
strictly (x ∷ xs) up once zero (suc j) d h g =
    let y = get_or xs j d in
    let le : x ≤ℤ y = up.0 j d (omega arith) in
    elim (cases_Bool (int_eq x y)) [
      | inl e ↦
          let more = count-some (int_eq x) xs j d (omega arith) e in
          let here : ◌≡◌ {A = ℕ} (cond (int_eq x x) 1 0) 1 = ap (λ b. cond b 1 0) ((Decides-int_eq x x).1 refl) in
          absurd (omega (arith, more, here, count-cons (int_eq x) x xs, once x))
      | inr e ↦
          let ne : x ≢ y = λ q. true≢false (sym ((Decides-int_eq x y).1 q) ∙ e) in
          below x y le ne
    ]
  where
    below : (x y : ℤ) → x ≤ℤ y → x ≢ y → x <ℤ y
    below x y le ne = omega (arith, ints, le, ne)
strictly (x ∷ xs) up once (suc i) (suc j) d h g =
    strictly xs up.1 (λ z. omega (arith, once z, count-cons (int_eq z) x xs)) i j d (omega arith) (omega arith)

module _ {D : ℕ} where
  pub entries-rise : (t : Arena D) → IsUnique int_eq t.leaves → AreByRisingId (outside t).rows
  entries-rise t unique = λ i j d h g.
      let ids = rising (ids_of t.leaves) in
      let entry = row_entry (number_in (tree_keys t)) (leaf_of int_eq t.leaves) in
      let long : length (map entry ids) ≡ length ids = length-map ids entry in
      let once : (z : ℤ) → count_by (int_eq z) ids ≤ 1 = λ z. omega (arith, rising-count (int_eq z) (ids_of t.leaves), distinct-once (ids_of t.leaves) unique z) in
      let low = ap (λ (r : RowEntry). r.id) (get_or-map entry ids i (pos 0) d (omega (arith, h, g, long))) in
      let high = ap (λ (r : RowEntry). r.id) (get_or-map entry ids j (pos 0) d (omega (arith, g, long))) in
      let less = strictly ids (rising-rises (ids_of t.leaves)) once i j (pos 0) h (omega (arith, g, long)) in
      subst (λ (z : ℤ). z <ℤ (get_or (map entry ids) j d).id) (sym low) (subst (λ (z : ℤ). get_or ids i (pos 0) <ℤ z) (sym high) less)

sum-agree : (f g : ℕ → ℕ) (ks : List ℕ) → All (λ k. f k ≡ g k) ks → sum_by f ks ≡ sum_by g ks
sum-agree f g [] all = refl
sum-agree f g (k ∷ ks) all =
    omega (arith, sum_by-cons f k ks, sum_by-cons g k ks, All-head (λ j. f j ≡ g j) k ks all, sum-agree f g ks (All-tail (λ j. f j ≡ g j) k ks all))

module _ {D : ℕ} (t : Arena D) (s : IsSettled t) (test : RawCell D → Bool) where
  abbrev numbers : ℕ → ℤ
  numbers = number_in (tree_keys t)

  abbrev nodes : ℕ → NodeRow D
  nodes = row t s (tree_keys t) numbers (numbering t s)

  measure : Option (NodeCells D) → ℕ
  measure place = count_by (λ c. test (row_cell c)) (leaf_cells_of place)

  part : (j : ℕ) → HasNode t s j → count_by test (cond (is_leaf (nodes j)) (nodes j).cells []) ≡ measure (get t.nodes j)
  unfolding measure
  part j (zero, e) =
      ap (λ b. count_by test (cond b (nodes j).cells [])) (row-leaf t s (tree_keys t) numbers (numbering t s) j e)
      ∙ ap (count_by test) (row-cells t s (tree_keys t) numbers (numbering t s) j 0 e)
      ∙ count-mapped test (cell_row numbers 0) (λ (c : Cell D). test (row_cell c)) (cells_at t.nodes j) (λ i d h. refl)
      ∙ ap (count_by (λ (c : Cell D). test (row_cell c))) (sym (leaf-at_leaf t.nodes j e))
  part j (suc l, e) =
      ap (λ b. count_by test (cond b (nodes j).cells [])) (row-inner t s (tree_keys t) numbers (numbering t s) j l e)
      ∙ ap (count_by (λ (c : Cell D). test (row_cell c))) (sym (leaf-at_inner t.nodes j l e))

  some-listed : (k : ℕ) → 0 < measure (get t.nodes k) → 0 < times k (tree_keys t)
  unfolding measure
  some-listed k some = elim (cases_lt 0 (length (leaf_cells_at t.nodes k))) [
    | inl h ↦ let leaf = leaf-level t.nodes k h in omega (arith, listed-once t s k 0 leaf.0)
    | inr none ↦ absurd (omega (arith, some, none, count_by-le-length (λ (c : Cell D). test (row_cell c)) (leaf_cells_at t.nodes k)))
  ]

  once-all : (k : ℕ) → times k (tree_keys t) ≤ 1
  once-all k = elim (cases_lt 0 (times k (tree_keys t))) [
    | inl h ↦
        let there = contained-from_times k (tree_keys t) h in
        let node = All_contained (HasNode t s) (tree_keys t) k (listed-there t s) there in
        omega (arith, listed-once t s k node.0 node.1)
    | inr none ↦ omega (arith, none)
  ]

  pub rows-counted : count_by test (leaf_cells (map nodes (tree_keys t))) ≡ count_rows (λ c. test (row_cell c)) t.nodes t.pending.items
  unfolding measure
  rows-counted =
      let f : ℕ → ℕ = λ k. measure (get t.nodes k) in
      let a = count-flat test (λ (n : NodeRow D). cond (is_leaf n) n.cells []) nodes (tree_keys t) in
      let b = sum-agree (λ j. count_by test (cond (is_leaf (nodes j)) (nodes j).cells [])) f (tree_keys t)
      (All-weaker (HasNode t s) (λ j. count_by test (cond (is_leaf (nodes j)) (nodes j).cells []) ≡ measure (get t.nodes j)) part (tree_keys t) (listed-there t s)) in
      let past : (k : ℕ) → length t.nodes.slots ≤ k → f k ≡ 0 = λ k h. ap measure (get_or_past t.nodes.slots k None h) in
      let c = sum-listed f (length t.nodes.slots) (tree_keys t) past once-all some-listed in
      let d = upto-list measure t.nodes.slots None in
      let w = ap (λ ws. count_rows (λ c. test (row_cell c)) t.nodes ws) s.none in
      omega (arith, a, b, c, d, w)

module _ {D : ℕ} where
  pub outside-rows : (t : Arena D) → IsSettled t → HasRows (outside t) t
  outside-rows t s = λ test. rows-counted t s test
