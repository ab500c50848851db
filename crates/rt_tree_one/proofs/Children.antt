-- What the conditions say of the node at a place of a shadow in preorder, and of the children that its cells name.
use Rattle.std.proofs.Common.{◌≡◌, inl, inr, ℕ, zero, suc, ◌+◌, ◌*◌, ◌/◌, ◌<◌, ◌≤◌, ℤ, pos, Bool, true, false, not, ◌&&◌, ◌||◌, cond, List, [], ◌∷◌, ◌++◌, length, Option, Some, None, is_none, ◌==◌, ne_eqb, eqb-true, refl, sym, ap, ◌∙◌, subst, arith}
use Rattle.std.specs.Prelude.{if◌then◌else◌}
use Rattle.std.specs.Option.{option_map_or, option_eq}
use Rattle.std.specs.Ordering.{int_eq}
use Rattle.std.proofs.lemmas.Bool.{cases_Bool, cases_lt, and_parts}
use Rattle.std.proofs.lemmas.Bool.Decides.{Decides-int_eq}
use Rattle.rt_box.specs.Capacity.{IsCapacity}
use Rattle.rt_check.specs.declared.node.NodeRow.{NodeRow}
use Rattle.rt_check.specs.declared.node.RawCell.{RawCell}
use Rattle.rt_check.specs.declared.problem.Problem.{Problem}
use Rattle.rt_check.specs.declared.problem.Condition.{Condition}
use Rattle.rt_check.specs.declared.problem.Condition.TheVariants.{HasRoot, HasPlace, NamesChild, IsOrdered, HoldsChild, FitsChild, IsFilled, HasEntry, HasCell}
use Rattle.rt_check.specs.Shadow.{ShadowLists}
use Rattle.rt_check.specs.Conditions.{node_of, is_root, is_leaf, has_root, is_below, names_child, is_ordered, holds_child, fits_child, is_hull, is_filled, has_place, has_entry, has_cell, times_named, inner_cells, root_problems, node_problems, cell_problems, cell_problems_of, row_problems, IsSound}
use Rattle.rt_tree_node.proofs.Counts.{count-cons, count-append}
use Rattle.rt_tree_outside.specs.InOrder.{cells_of_number, IsPreorder, AreInOrder}
use Rattle.rt_tree_one.proofs.Entries.{append-none, Each, none-fail, same_int, of_nodes}
use Rattle.rt_tree_one.proofs.Filled.{none_fails, Fills, all_fill, below_root}
use Rattle.rt_tree_one.proofs.Standing.{At, at-is, at-within, at_once, each-at, each-from, found-at, at-finds}

some_from : {X : Type 0} (test : X → Bool) (o : Option X) → option_map_or test o false ≡ true → (x : X) × (o ≡ Some x) × (test x ≡ true)
some_from test None e = let none : ⊥ = cc in absurd none
some_from test (Some x) e = (x, refl, e)

no_parent : (p : Option ℤ) → is_none p ≡ true → p ≡ None
no_parent None e = refl
no_parent (Some z) e = let none : ⊥ = cc in absurd none

same_parent : (p : Option ℤ) (z : ℤ) → option_eq int_eq p (Some z) ≡ true → p ≡ Some z
same_parent None z e = let none : ⊥ = cc in absurd none
same_parent (Some y) z e = ap Some (same_int y z e)

no_problem : (b : Bool) (p : Problem) → (if b then [] else p ∷ []) ≡ [] → b ≡ true
no_problem true p e = refl
no_problem false p e = let none : ⊥ = cc in absurd none

above_leaves : (level : ℕ) → (level == 0) ≡ false → (l : ℕ) × (level ≡ suc l)
above_leaves zero e = let none : ⊥ = cc in absurd none
above_leaves (suc l) e = (l, refl)

same_pos : (k m : ℕ) → pos (k + 1) ≡ pos (m + 1) → k ≡ m
same_pos k m e = let same : k + 1 ≡ m + 1 = cc in omega (arith, same)

module _ {D : ℕ} where
  cells_pass : (condition : Condition) (test : NodeRow D → RawCell D → Bool) (nodes : List (NodeRow D)) → cell_problems condition test nodes ≡ [] →
      Each (λ n. Each (λ c. test n c ≡ true) n.cells) nodes
  cells_pass condition test [] e = tt
  cells_pass condition test (n ∷ ns) e =
      let parts = append-none (cell_problems_of condition test n) (cell_problems condition test ns) e in
      (none-fail (test n) (λ c. record { condition = condition; node = n.number; position = c.0 }) 1 n.cells parts.0, cells_pass condition test ns parts.1)

  -- ---- a node with a cell of that number, above the leaves
  pub record Names (nodes : List (NodeRow D)) (number : ℤ) : Type 0 where
    pub at : ℕ
    pub node : NodeRow D
    pub here : At nodes at node
    pub level : ℕ
    pub high : node.level ≡ suc level
    pub cell_at : ℕ
    pub cell : RawCell D
    pub among : At node.cells cell_at cell
    pub names : cell.number ≡ number

  counted_cell : (number : ℤ) (cells : List (RawCell D)) → 0 < times_named number cells → (j : ℕ) × (c : RawCell D) × At cells j c × (c.number ≡ number)
  counted_cell number [] some = absurd (omega arith)
  counted_cell number (c ∷ cs) some = elim (cases_Bool (int_eq number c.number)) [
    | inl same ↦ (0, c, refl, sym (same_int number c.number same))
    | inr differs ↦
        let none : ◌≡◌ {A = ℕ} (cond (int_eq number c.number) 1 0) 0 = ap (λ b. cond b 1 0) differs in
        let later = counted_cell number cs (omega (arith, none, some, count-cons (λ (x : RawCell D). int_eq number x.number) c cs)) in
        (suc later.0, later.1, later.2, later.3)
  ]

  later_names : (number : ℤ) (n : NodeRow D) (ns : List (NodeRow D)) → Names ns number → Names (n ∷ ns) number
  later_names number n ns h = record {
    at = suc h.at;
    node = h.node;
    here = h.here;
    level = h.level;
    high = h.high;
    cell_at = h.cell_at;
    cell = h.cell;
    among = h.among;
    names = h.names;
  }

  in_node : (number : ℤ) (n : NodeRow D) (ns : List (NodeRow D)) (b : Bool) → is_leaf n ≡ b → 0 < times_named number (cond b [] n.cells ++ inner_cells ns) →
      (0 < times_named number (inner_cells ns) → Names ns number) → Names (n ∷ ns) number
  in_node number n ns true is some later = later_names number n ns (later some)
  in_node number n ns false is some later = elim (cases_lt 0 (times_named number n.cells)) [
    | inl here ↦
        let found = counted_cell number n.cells here in
        let up = above_leaves n.level is in
        record {
          at = 0;
          node = n;
          here = refl;
          level = up.0;
          high = up.1;
          cell_at = found.0;
          cell = found.1;
          among = found.2;
          names = found.3;
        }
    | inr none ↦
        later_names number n ns (later (omega (arith, none, some, count-append (λ (x : RawCell D). int_eq number x.number) n.cells (inner_cells ns))))
  ]

  pub counted_names : (number : ℤ) (nodes : List (NodeRow D)) → 0 < times_named number (inner_cells nodes) → Names nodes number
  counted_names number [] some = absurd (omega arith)
  counted_names number (n ∷ ns) some = in_node number n ns (is_leaf n) refl some (counted_names number ns)

  module _ (s : ShadowLists D) where
    abbrev names_test : NodeRow D → RawCell D → Bool
    names_test n c = is_leaf n || names_child s n c

    abbrev fits_test : NodeRow D → RawCell D → Bool
    fits_test n c = is_leaf n || fits_child s c

    abbrev roots : List Problem
    roots = root_problems s

    abbrev places : List Problem
    places = node_problems HasPlace (has_place s) s.nodes

    abbrev named : List Problem
    named = cell_problems NamesChild names_test s.nodes

    abbrev ordered : List Problem
    ordered = cell_problems IsOrdered (λ n c. is_ordered c) s.nodes

    abbrev holding : List Problem
    holding = cell_problems HoldsChild (λ n c. is_leaf n || holds_child s c) s.nodes

    abbrev fitting : List Problem
    fitting = cell_problems FitsChild fits_test s.nodes

    none_of_nodes : IsSound s → (roots ≡ []) × (places ≡ []) × (named ≡ []) × (fitting ≡ [])
    none_of_nodes sound =
        let all = append-none (of_nodes s ++ cell_problems HasEntry (λ n c. not (is_leaf n) || has_entry s n c) s.nodes) (row_problems HasCell (has_cell s) s.rows) sound in
        let nodes = append-none (of_nodes s) (cell_problems HasEntry (λ n c. not (is_leaf n) || has_entry s n c) s.nodes) all.0 in
        let before_fill = append-none (roots ++ places ++ named ++ ordered ++ holding ++ fitting) (node_problems IsFilled (is_filled s) s.nodes) nodes.0 in
        let before_fit = append-none (roots ++ places ++ named ++ ordered ++ holding) fitting before_fill.0 in
        let before_hold = append-none (roots ++ places ++ named ++ ordered) holding before_fit.0 in
        let before_order = append-none (roots ++ places ++ named) ordered before_hold.0 in
        let before_name = append-none (roots ++ places) named before_order.0 in
        let before_place = append-none roots places before_name.0 in
        (before_place.0, before_place.1, before_name.1, before_fit.1)

    has_root_from : IsSound s → has_root s ≡ true
    has_root_from sound = no_problem (has_root s) (record { condition = HasRoot; node = s.root; position = 0 }) (none_of_nodes sound).0

    record IsFine (n : NodeRow D) : Type 0 where
      place : has_place s n ≡ true
      names : Each (λ c. names_test n c ≡ true) n.cells
      fits : Each (λ c. fits_test n c ≡ true) n.cells
      fills : Fills s n

    fine_at : IsSound s → (k : ℕ) (n : NodeRow D) → At s.nodes k n → IsFine n
    fine_at sound k n here =
        let none = none_of_nodes sound in
        record {
          place = each-at (λ x. has_place s x ≡ true) s.nodes k n
              (none_fails (has_place s) (λ x. record { condition = HasPlace; node = x.number; position = 0 }) s.nodes none.1) here;
          names = each-at (λ x. Each (λ c. names_test x c ≡ true) x.cells) s.nodes k n (cells_pass NamesChild names_test s.nodes none.2) here;
          fits = each-at (λ x. Each (λ c. fits_test x c ≡ true) x.cells) s.nodes k n (cells_pass FitsChild fits_test s.nodes none.3) here;
          fills = each-at (Fills s) s.nodes k n (all_fill s sound) here;
        }

    -- the cell names a child of the node at the place, which is on the level and has cells of which it is the hull
    pub record IsChild (k l : ℕ) (c : RawCell D) : Type 0 where
      pub at : ℕ
      pub node : NodeRow D
      pub here : At s.nodes at node
      pub number : c.number ≡ pos (at + 1)
      pub parent : node.parent ≡ Some (pos (k + 1))
      pub level : node.level ≡ l
      pub some : 0 < length node.cells
      pub hull : is_hull c node.cells ≡ true

    module _ (sound : IsSound s) (order : IsPreorder s) (capacity : IsCapacity s.capacity) where
      pub number-at : (k : ℕ) (n : NodeRow D) → At s.nodes k n → n.number ≡ pos (k + 1)
      number-at k n here = ap (λ (x : NodeRow D). x.number) (sym (at-is s.nodes k n n here)) ∙ order.numbered k n (at-within s.nodes k n here)

      listed-at : (z : ℤ) (n : NodeRow D) → node_of s.nodes z ≡ Some n → (k : ℕ) × At s.nodes k n × (z ≡ pos (k + 1))
      listed-at z n e =
          let there = found-at (λ (x : NodeRow D). int_eq z x.number) s.nodes n e in
          (there.0, there.1, same_int z n.number there.2 ∙ number-at there.0 n there.1)

      looked-up : (k : ℕ) (n : NodeRow D) → At s.nodes k n → (z : ℤ) → z ≡ pos (k + 1) → node_of s.nodes z ≡ Some n
      looked-up k n here z e =
          let found = at-finds (λ (x : NodeRow D). int_eq z x.number) s.nodes k n here ((Decides-int_eq z n.number).1 (e ∙ sym (number-at k n here))) in
          let there = listed-at z found.0 found.1 in
          let place : there.0 ≡ k = same_pos there.0 k (sym there.2 ∙ e) in
          found.1 ∙ ap Some (at_once s.nodes k found.0 n (subst (λ (i : ℕ). At s.nodes i found.0) place there.1) here)

      pub cells-at : (k : ℕ) (n : NodeRow D) → At s.nodes k n → (z : ℤ) → z ≡ pos (k + 1) → cells_of_number s.nodes z ≡ n.cells
      cells-at k n here z e = ap (λ (o : Option (NodeRow D)). option_map_or (λ (x : NodeRow D). x.cells) o []) (looked-up k n here z e)

      -- the root is first
      pub root-first : (n : NodeRow D) × At s.nodes 0 n × (n.parent ≡ None)
      root-first =
          let root = some_from (λ (x : NodeRow D). is_none x.parent) (node_of s.nodes s.root) (has_root_from sound) in
          let there = listed-at s.root root.0 root.1 in
          let place : there.0 ≡ 0 = same_pos there.0 0 (sym there.2 ∙ order.root_first) in
          (root.0, subst (λ (i : ℕ). At s.nodes i root.0) place there.1, no_parent root.0.parent root.2)

      -- and no other node is the root
      later_one : (k : ℕ) (n : NodeRow D) → At s.nodes k n → (k ≡ 0 → ⊥) → is_root s n ≡ false
      later_one k n here later = elim (cases_Bool (is_root s n)) [
        | inl is ↦
            let e : pos (k + 1) ≡ pos (0 + 1) = sym (number-at k n here) ∙ same_int n.number s.root is ∙ order.root_first in
            absurd (later (same_pos k 0 e))
        | inr other ↦ other
      ]

      has_parent : (k : ℕ) (n : NodeRow D) (z : ℤ) → At s.nodes k n → n.parent ≡ Some z → k ≡ 0 → ⊥
      has_parent k n z here up e =
          let same = at_once s.nodes 0 n root-first.0 (subst (λ (i : ℕ). At s.nodes i n) e here) root-first.1 in
          let none : ◌≡◌ {A = Option ℤ} None (Some z) = sym root-first.2 ∙ ap (λ (x : NodeRow D). x.parent) (sym same) ∙ up in
          cc

      placed : (k : ℕ) (n : NodeRow D) → At s.nodes k n → (k ≡ 0 → ⊥) → (is_below s n n.parent && (times_named n.number (inner_cells s.nodes) == 1)) ≡ true
      placed k n here later =
          subst (λ (b : Bool). (b || (is_below s n n.parent && (times_named n.number (inner_cells s.nodes) == 1))) ≡ true)
          (later_one k n here later) (fine_at sound k n here).place

      -- each node but the root is named by a cell of another
      pub named-by : (k : ℕ) (n : NodeRow D) → At s.nodes k n → (k ≡ 0 → ⊥) → Names s.nodes n.number
      named-by k n here later =
          let once : times_named n.number (inner_cells s.nodes) ≡ 1
          = eqb-true _ _ (and_parts (is_below s n n.parent) (times_named n.number (inner_cells s.nodes) == 1) (placed k n here later)).1 in
          counted_names n.number s.nodes (omega (arith, once))

      -- the listed parent is on the next level
      level_above : (k : ℕ) (n : NodeRow D) → At s.nodes k n → (child : NodeRow D) → is_below s child (Some n.number) ≡ true → n.level ≡ child.level + 1
      level_above k n here child below =
          eqb-true _ _ (subst (λ (o : Option (NodeRow D)). option_map_or (λ (p : NodeRow D). p.level == child.level + 1) o false ≡ true)
          (looked-up k n here n.number (number-at k n here)) below)

      child_of : (k l : ℕ) (n : NodeRow D) (c : RawCell D) → At s.nodes k n → n.level ≡ suc l → names_test n c ≡ true → fits_test n c ≡ true → IsChild k l c
      child_of k l n c here level names fits =
          let high : is_leaf n ≡ false = ap (λ (m : ℕ). m == 0) level ∙ ne_eqb (suc l) 0 (omega arith) in
          let named = some_from (λ (x : NodeRow D). option_eq int_eq x.parent (Some n.number)) (node_of s.nodes c.number)
          (subst (λ (b : Bool). (b || names_child s n c) ≡ true) high names) in
          let child = named.0 in
          let there = listed-at c.number child named.1 in
          let up : child.parent ≡ Some n.number = same_parent child.parent n.number named.2 in
          let later = has_parent there.0 child n.number there.1 up in
          let fine = fine_at sound there.0 child there.1 in
          let above = (and_parts (is_below s child child.parent) (times_named child.number (inner_cells s.nodes) == 1) (placed there.0 child there.1 later)).0 in
          let next : n.level ≡ child.level + 1 = level_above k n here child (subst (λ (p : Option ℤ). is_below s child p ≡ true) up above) in
          let least : 2 * s.capacity / 5 ≤ length child.cells = below_root s child (later_one there.0 child there.1 later) fine.fills in
          let some : 0 < length child.cells = omega (arith, least, capacity.0) in
          let fit : fits_child s c ≡ true = subst (λ (b : Bool). (b || fits_child s c) ≡ true) high fits in
          let fit_here : ((length child.cells == 0) || is_hull c child.cells) ≡ true
          = subst (λ (o : Option (NodeRow D)). option_map_or (λ (x : NodeRow D). (length x.cells == 0) || is_hull c x.cells) o true ≡ true) named.1 fit in
          record {
            at = there.0;
            node = child;
            here = there.1;
            number = there.2;
            parent = up ∙ ap Some (number-at k n here);
            level = omega (arith, next, level);
            some = some;
            hull = subst (λ (b : Bool). (b || is_hull c child.cells) ≡ true) (ne_eqb (length child.cells) 0 (omega (arith, some))) fit_here;
          }

      pub children-at : (k l : ℕ) (n : NodeRow D) → At s.nodes k n → n.level ≡ suc l → Each (IsChild k l) n.cells
      children-at k l n here level =
          let fine = fine_at sound k n here in
          each-from (IsChild k l) n.cells (λ j c there. child_of k l n c here level
          (each-at (λ x. names_test n x ≡ true) n.cells j c fine.names there) (each-at (λ x. fits_test n x ≡ true) n.cells j c fine.fits there))

      -- the cells of a node name the nodes that follow it
      pub followed-at : (k l : ℕ) (n : NodeRow D) → At s.nodes k n → n.level ≡ suc l → AreInOrder s.nodes l (k + 2) n.cells
      followed-at k l n here level =
          let is = at-is s.nodes k n n here in
          subst (λ (x : NodeRow D). AreInOrder s.nodes l (k + 2) x.cells) is
          (order.followed k l n (at-within s.nodes k n here) (ap (λ (x : NodeRow D). x.level) is ∙ level))
