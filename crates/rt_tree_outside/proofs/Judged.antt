-- The shadow of a settled tree has no problem. Its keys and their numbers stand here as variables.
use Rattle.std.proofs.Common.{◌≡◌, ◌≢◌, ℕ, zero, suc, ◌+◌, ◌≤◌, Bool, true, false, ◌&&◌, ◌||◌, cond, ℤ, pos, List, [], ◌∷◌, length, map, get_or, Some, unwrap_or, is_none, nat_eq, eq-eqb, ne_eqb, arith, refl, ap, sym, ◌∙◌, subst, inl, inr}
use Rattle.std.specs.Prelude.{nat_le, int_le}
use Rattle.std.specs.List.{All, count_by, enumerate_from}
use Rattle.std.specs.Option.{option_map, option_map_or, option_eq}
use Rattle.std.specs.Ordering.{int_eq}
use Rattle.std.proofs.lemmas.Bool.{cases_eq, cases_Bool, and_from, or_left, or_right, le-leb}
use Rattle.std.proofs.lemmas.Bool.Decides.{Decides-int_eq}
use Rattle.std.proofs.lemmas.Option.{same_Some, none-some}
use Rattle.std.proofs.lemmas.List.{length-map}
use Rattle.std.proofs.lemmas.List.Elements.{All-weaker}
use Rattle.slab.specs.Slab.{get}
use Rattle.indexmap.specs.IndexMap.{get as leaf_of, keys as ids_of}
use Rattle.rt_box.specs.Capacity.{least_fill}
use Rattle.rt_box.specs.Rect.{IsBox, los, his}
use Rattle.rt_check.specs.declared.node.NodeRow.{NodeRow}
use Rattle.rt_check.specs.declared.node.RawCell.{RawCell}
use Rattle.rt_check.specs.declared.problem.Condition.{Condition}
use Rattle.rt_check.specs.Shadow.{ShadowLists}
use Rattle.rt_check.specs.Conditions.{is_leaf, is_root, node_of, has_root, has_place, is_below, times_named, inner_cells, names_child, is_ordered, coordinate, least_cells, is_filled, cell_problems, cell_problems_of}
use Rattle.rt_tree_node.specs.declared.arena.Arena.{Arena}
use Rattle.rt_tree_node.specs.declared.cell.Cell.{Cell}
use Rattle.rt_tree_node.specs.Places.{key_of, cells_at, level_at, parent_at}
use Rattle.rt_tree_node.specs.Sound.{IsLinked, NamesChild}
use Rattle.rt_tree_node.specs.Whole.{IsBranched}
use Rattle.rt_tree_walk.specs.Search.{times}
use Rattle.rt_tree_outside.specs.Outside.{cell_row, node_row, row_entry, rising}
use Rattle.rt_tree_walk.proofs.Totals.{times-other}
use Rattle.rt_tree_walk.proofs.Reaching.{named-by}
use Rattle.rt_tree_walk.proofs.Progress.{IsSettled, settled-linked}
use Rattle.rt_tree_walk.proofs.Listed.{HasNode, named-here, contained-from_times}
use Rattle.rt_tree_walk.proofs.Ints.{int_le-from}
use Rattle.rt_tree_outside.proofs.Sides.{box-ordered}
use Rattle.rt_tree_walk.proofs.Judging.{All-mapped, All-counted, flat-none, find-mapped, count-flat, count-mapped, sum-times}
use Rattle.rt_tree_outside.proofs.Failing.{failing-none, each_axis-from}

module _ {D : ℕ} (t : Arena D) (s : IsSettled t) where
  -- the keys of the nodes, each once, and numbers that tell them apart
  pub record IsNumbering (keys : List ℕ) (number : ℕ → ℤ) : Type 0 where
    pub there : All (HasNode t s) keys
    pub once : (k l : ℕ) → level_at t.nodes k ≡ Some l → times k keys ≡ 1
    pub apart : (k j : ℕ) → HasNode t s k → number k ≡ number j → j ≡ k
    pub first : number t.root ≡ pos 1

  module _ (keys : List ℕ) (number : ℕ → ℤ) (is : IsNumbering keys number) where
    abbrev pub row : ℕ → NodeRow D
    row k = node_row number k (get t.nodes k)

    abbrev pub lists : ShadowLists D
    lists = record { capacity = t.capacity; root = pos 1; nodes = map row keys; rows = map (row_entry number (leaf_of int_eq t.leaves)) (rising (ids_of t.leaves)) }

    linked : IsLinked t.nodes t.root t.level []
    linked = settled-linked t s

    -- what holds of each node's row holds of all
    pub rows-all : (P : NodeRow D → Type 0) → ((k l : ℕ) → level_at t.nodes k ≡ Some l → P (row k)) → All P (map row keys)
    rows-all P h = All-mapped P row keys (All-weaker (HasNode t s) (λ k. P (row k)) (λ k n. h k n.0 n.1) keys is.there)

    pub row-level : (k l : ℕ) → level_at t.nodes k ≡ Some l → (row k).level ≡ l
    row-level k l e = ap (λ o. unwrap_or o 0) e

    pub row-cells : (k l : ℕ) → level_at t.nodes k ≡ Some l → (row k).cells ≡ map (cell_row number l) (cells_at t.nodes k)
    row-cells k l e = ap (λ o. map (cell_row number (unwrap_or o 0)) (cells_at t.nodes k)) e

    pub row-leaf : (k : ℕ) → level_at t.nodes k ≡ Some 0 → is_leaf (row k) ≡ true
    row-leaf k e = ap (λ o. nat_eq (unwrap_or o 0) 0) e

    pub row-inner : (k l : ℕ) → level_at t.nodes k ≡ Some (suc l) → is_leaf (row k) ≡ false
    row-inner k l e = ap (λ o. nat_eq (unwrap_or o 0) 0) e ∙ ne_eqb (suc l) 0 (omega arith)

    -- the node of a number
    pub looked-up : (k l : ℕ) → level_at t.nodes k ≡ Some l → node_of (map row keys) (number k) ≡ Some (row k)
    looked-up k l e =
        find-mapped row (λ (n : NodeRow D). n.number) k (λ j same. is.apart k j (l, e) same) keys
        (contained-from_times k keys (omega (arith, is.once k l e)))

    root-up : node_of (map row keys) (pos 1) ≡ Some (row t.root)
    root-up = ap (node_of (map row keys)) (sym is.first) ∙ looked-up t.root t.level linked.root_level

    -- ---- C1
    pub rooted : has_root lists ≡ true
    rooted =
        ap (λ o. option_map_or (λ (r : NodeRow D). is_none r.parent) o false) root-up
        ∙ ap (λ o. is_none (option_map number o)) linked.root_parent

    root-is : is_root lists (row t.root) ≡ true
    root-is = (Decides-int_eq (number t.root) (pos 1)).1 is.first

    root-only : (k l : ℕ) → level_at t.nodes k ≡ Some l → k ≢ t.root → is_root lists (row k) ≡ false
    root-only k l e ne = elim (cases_Bool (int_eq (number k) (pos 1))) [
      | inl h ↦ absurd (ne (sym (is.apart k t.root (l, e) ((Decides-int_eq (number k) (pos 1)).0 h ∙ sym is.first))))
      | inr h ↦ h
    ]

    -- ---- C2
    below-is : (k l p : ℕ) → level_at t.nodes k ≡ Some l → parent_at t.nodes k ≡ Some p → level_at t.nodes p ≡ Some (suc l) → is_below lists (row k) (row k).parent ≡ true
    below-is k l p e up high =
        ap (λ o. is_below lists (row k) (option_map number o)) up
        ∙ ap (λ o. option_map_or (λ (q : NodeRow D). nat_eq q.level ((row k).level + 1)) o false) (looked-up p (suc l) high)
        ∙ eq-eqb (row p).level ((row k).level + 1) (omega (arith, row-level p (suc l) high, row-level k l e))

    named-part : (k l p : ℕ) → level_at t.nodes k ≡ Some l → k ≢ t.root → parent_at t.nodes k ≡ Some p → level_at t.nodes p ≡ Some (suc l) →
        (j : ℕ) → HasNode t s j → count_by (λ c. int_eq (number k) c.number) (cond (is_leaf (row j)) [] (row j).cells) ≡ times p (j ∷ [])
    named-part k l p e ne up high j (zero, at) =
        let none : count_by (λ c. int_eq (number k) c.number) (cond (is_leaf (row j)) [] (row j).cells) ≡ 0 =
        ap (λ b. count_by (λ c. int_eq (number k) c.number) (cond b [] (row j).cells)) (row-leaf j at) in
        let other : j ≢ p = λ q. let c : 0 ≡ suc l = same_Some 0 (suc l) (sym at ∙ ap (level_at t.nodes) q ∙ high) in absurd (omega arith) in
        omega (arith, none, times-other p j other)
    named-part k l p e ne up high j (suc m, at) =
        let some : count_by (λ c. int_eq (number k) c.number) (cond (is_leaf (row j)) [] (row j).cells) ≡ count_by (λ c. int_eq (number k) c.number) (map (cell_row number (suc m)) (cells_at t.nodes j)) =
        ap (λ b. count_by (λ c. int_eq (number k) c.number) (cond b [] (row j).cells)) (row-inner j m at)
        ∙ ap (count_by (λ c. int_eq (number k) c.number)) (row-cells j (suc m) at) in
        let counted = count-mapped (λ (c : RawCell D). int_eq (number k) c.number) (cell_row number (suc m)) (λ (c : Cell D). nat_eq (key_of c) k) (cells_at t.nodes j)
        (λ i d h. same-test (get_or (cells_at t.nodes j) i d)) in
        omega (arith, some, counted, named-here t s k p l e ne up high j m at)
      where
        same-test : (c : Cell D) → int_eq (number k) (number (key_of c)) ≡ nat_eq (key_of c) k
        same-test c = elim (cases_eq (key_of c) k) [
          | inl q ↦ (Decides-int_eq (number k) (number (key_of c))).1 (ap number (sym q)) ∙ sym (eq-eqb (key_of c) k q)
          | inr ne ↦ elim (cases_Bool (int_eq (number k) (number (key_of c)))) [
            | inl h ↦ absurd (ne (is.apart k (key_of c) (l, e) ((Decides-int_eq (number k) (number (key_of c))).0 h)))
            | inr h ↦ h ∙ sym (ne_eqb (key_of c) k ne)
          ]
        ]

    named-once : (k l p : ℕ) → level_at t.nodes k ≡ Some l → k ≢ t.root → parent_at t.nodes k ≡ Some p → level_at t.nodes p ≡ Some (suc l) →
        times_named (number k) (inner_cells (map row keys)) ≡ 1
    named-once k l p e ne up high =
        count-flat (λ (c : RawCell D). int_eq (number k) c.number) (λ (n : NodeRow D). cond (is_leaf n) [] n.cells) row keys
        ∙ sum-times p (λ j. count_by (λ c. int_eq (number k) c.number) (cond (is_leaf (row j)) [] (row j).cells)) keys
        (All-weaker (HasNode t s) (λ j. count_by (λ c. int_eq (number k) c.number) (cond (is_leaf (row j)) [] (row j).cells) ≡ times p (j ∷ [])) (named-part k l p e ne up high) keys is.there)
        ∙ is.once p (suc l) high

    pub placed : (k l : ℕ) → level_at t.nodes k ≡ Some l → has_place lists (row k) ≡ true
    placed k l e = elim (cases_eq k t.root) [
      | inl q ↦ or_left (is_root lists (row k)) (is_below lists (row k) (row k).parent && nat_eq (times_named (number k) (inner_cells (map row keys))) 1)
          (ap (λ j. is_root lists (row j)) q ∙ root-is)
      | inr ne ↦
          let p = named-by t.nodes t.root t.level linked k l e ne in
          or_right (is_root lists (row k)) (is_below lists (row k) (row k).parent && nat_eq (times_named (number k) (inner_cells (map row keys))) 1)
          (and_from (is_below lists (row k) (row k).parent) (nat_eq (times_named (number k) (inner_cells (map row keys))) 1)
          (below-is k l p.0 e p.2.parent_is p.2.level_is) (eq-eqb (times_named (number k) (inner_cells (map row keys))) 1 (named-once k l p.0 e ne p.2.parent_is p.2.level_is)))
    ]

    -- ---- cells
    pub cells-none : (condition : Condition) (test : NodeRow D → RawCell D → Bool) →
        ((k l : ℕ) → level_at t.nodes k ≡ Some l → All (λ c. test (row k) (cell_row number l c) ≡ true) (cells_at t.nodes k)) →
        cell_problems condition test (map row keys) ≡ []
    cells-none condition test h =
        flat-none (cell_problems_of condition test) (map row keys) (rows-all (λ n. cell_problems_of condition test n ≡ []) (λ k l e.
        failing-none (λ (c : ℕ × RawCell D). test (row k) c.1) (λ (c : ℕ × RawCell D). record { condition = condition; node = number k; position = c.0 }) (enumerate_from 1 (row k).cells)
        (All-counted (λ c. test (row k) c ≡ true) 1 (row k).cells
        (subst (λ (cs : List (RawCell D)). All (λ c. test (row k) c ≡ true) cs) (sym (row-cells k l e))
        (All-mapped (λ c. test (row k) c ≡ true) (cell_row number l) (cells_at t.nodes k) (h k l e))))))

    -- ---- C3
    pub child-named : (k l : ℕ) → level_at t.nodes k ≡ Some l → All (λ c. (is_leaf (row k) || names_child lists (row k) (cell_row number l c)) ≡ true) (cells_at t.nodes k)
    child-named k zero e = λ i d h. or_left (is_leaf (row k)) (names_child lists (row k) (cell_row number 0 (get_or (cells_at t.nodes k) i d))) (row-leaf k e)
    child-named k (suc l) e = All-weaker (NamesChild t.nodes l k) (λ c. (is_leaf (row k) || names_child lists (row k) (cell_row number (suc l) c)) ≡ true)
        (λ c names. or_right (is_leaf (row k)) (names_child lists (row k) (cell_row number (suc l) c))
        (ap (λ o. option_map_or (λ (child : NodeRow D). option_eq int_eq child.parent (Some (number k))) o false) (looked-up (key_of c) l names.names.level_is)
        ∙ ap (λ o. option_eq int_eq (option_map number o) (Some (number k))) names.parent_is
        ∙ (Decides-int_eq (number k) (number k)).1 refl)) (cells_at t.nodes k) (linked.children k l e)

    -- ---- C4
    pub cells-ordered : (k l : ℕ) → level_at t.nodes k ≡ Some l → All (λ c. is_ordered (cell_row number l c) ≡ true) (cells_at t.nodes k)
    cells-ordered k l e = All-weaker (λ c. IsBox D c.rect) (λ c. is_ordered (cell_row number l c) ≡ true)
        (λ c box. each_axis-from (λ axis. int_le (coordinate (los c.rect) axis) (coordinate (his c.rect) axis)) D
        (λ axis h. int_le-from (coordinate (los c.rect) axis) (coordinate (his c.rect) axis) (box-ordered c.rect box.ordered axis))) (cells_at t.nodes k) (s.whole.fitted.boxes k)

    -- ---- C7
    row-length : (k l : ℕ) → level_at t.nodes k ≡ Some l → length (row k).cells ≡ length (cells_at t.nodes k)
    row-length k l e = length-map (cells_at t.nodes k) (cell_row number (unwrap_or (level_at t.nodes k) 0))

    least-at : IsBranched t → (k l : ℕ) → level_at t.nodes k ≡ Some l → least_cells lists (row k) ≤ length (cells_at t.nodes k)
    least-at branched k l e = elim (cases_eq k t.root) [
      | inl q ↦ by l e q
      | inr ne ↦
          let low : least_cells lists (row k) ≡ least_fill t.capacity = ap (λ b. cond b (cond (is_leaf (row k)) 0 2) (least_fill t.capacity)) (root-only k l e ne) in
          let least = s.whole.fitted.least k l e ne (none-some k) in
          omega (arith, low, least)
    ]
      where
        by : (m : ℕ) → level_at t.nodes k ≡ Some m → k ≡ t.root → least_cells lists (row k) ≤ length (cells_at t.nodes k)
        by zero f q =
            let low : least_cells lists (row k) ≡ 0 =
            ap (λ b. cond b (cond (is_leaf (row k)) 0 2) (least_fill t.capacity)) (ap (λ j. is_root lists (row j)) q ∙ root-is)
            ∙ ap (λ b. cond b 0 2) (row-leaf k f) in
            omega (arith, low)
        by (suc m) f q =
            let low : least_cells lists (row k) ≡ 2 =
            ap (λ b. cond b (cond (is_leaf (row k)) 0 2) (least_fill t.capacity)) (ap (λ j. is_root lists (row j)) q ∙ root-is)
            ∙ ap (λ b. cond b 0 2) (row-inner k m f) in
            let high : suc m ≡ t.level = same_Some (suc m) t.level (sym f ∙ ap (level_at t.nodes) q ∙ linked.root_level) in
            let two = branched (omega (arith, high)) in
            let here = ap (λ j. length (cells_at t.nodes j)) q in
            omega (arith, low, two, here)

    pub filled : IsBranched t → (k l : ℕ) → level_at t.nodes k ≡ Some l → is_filled lists (row k) ≡ true
    filled branched k l e =
        let most = s.whole.fitted.most k l e (none-some k) in
        let least = least-at branched k l e in
        and_from (nat_le (length (row k).cells) t.capacity) (nat_le (least_cells lists (row k)) (length (row k).cells))
        (le-leb (length (row k).cells) t.capacity (omega (arith, most, row-length k l e)))
        (le-leb (least_cells lists (row k)) (length (row k).cells) (omega (arith, least, row-length k l e)))
