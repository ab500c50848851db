-- The nested tree that a sound tree shows is filled.
use Rattle.std.proofs.Common.{◌≡◌, inl, inr, ℕ, zero, suc, ◌+◌, ◌<◌, ◌≤◌, ℤ, pos, Bool, true, false, not, cond, List, [], ◌∷◌, ◌++◌, map, length, Option, Some, None, ne_eqb, refl, sym, ap, ◌∙◌, subst, arith}
use Rattle.std.specs.Prelude.{filter, nat_le, ◌&&◌, ◌||◌, if◌then◌else◌}
use Rattle.std.specs.List.{All, flat_map}
use Rattle.std.specs.Ordering.{int_eq}
use Rattle.std.proofs.lemmas.Bool.{cases_Bool}
use Rattle.std.proofs.lemmas.Bool.Decides.{Decides-int_eq, nat_tests}
use Rattle.std.proofs.lemmas.List.{length-map}
use Rattle.std.proofs.lemmas.List.Elements.{All-nil, All-cons}
use Rattle.rt_box.specs.Capacity.{least_fill}
use Rattle.rt_check.specs.declared.node.NodeRow.{NodeRow}
use Rattle.rt_check.specs.declared.node.RawCell.{RawCell}
use Rattle.rt_check.specs.declared.problem.Problem.{Problem}
use Rattle.rt_check.specs.declared.problem.Condition.TheVariants.{HasPlace, NamesChild, IsOrdered, HoldsChild, FitsChild, IsFilled as Filling, HasEntry}
use Rattle.rt_check.specs.Shadow.{ShadowLists}
use Rattle.rt_check.specs.Conditions.{is_root, is_leaf, names_child, is_ordered, holds_child, fits_child, least_cells, is_filled, has_place, has_entry, has_cell, failing, root_problems, node_problems, cell_problems, row_problems, IsSound}
use Rattle.rt_check.specs.declared.problem.Condition.TheVariants.{HasCell}
use Rattle.rt_tree_rules.specs.Nested.{Node}
use Rattle.rt_tree_rules.specs.Filled.{IsFilled}
use Rattle.rt_tree_rules.specs.Shadow.{node_count, starts, row_cell, child_cell, nodes_in}
use Rattle.rt_tree_rules.proofs.Faithful.{length_starts}
use Rattle.rt_tree_one.specs.Laws.{SoundTreesAreFilled}
use Rattle.rt_tree_one.proofs.Entries.{append-none, Each, of_nodes}

and_right : (a b : Bool) → (a && b) ≡ true → b ≡ true
and_right true b e = e
and_right false b e = cc

nat_le_is : (m n : ℕ) → nat_le m n ≡ true → m ≤ n
nat_le_is m n e = grind (arith, nat_tests)

not_first : (k : ℕ) → 2 ≤ k → int_eq (pos k) (pos 1) ≡ false
not_first k many = elim (cases_Bool (int_eq (pos k) (pos 1))) [
  | inl e ↦
      let same : pos k ≡ pos 1 = (Decides-int_eq (pos k) (pos 1)).0 e in
      let one : k ≡ 1 = cc in
      absurd (omega arith)
  | inr e ↦ e
]

module _ {X P : Type 0} (test : X → Bool) (entry : X → P) where
  passes : (x : X) (xs : List X) (b : Bool) → test x ≡ b →
      map entry (cond (not b) (x ∷ filter (λ y. not (test y)) xs) (filter (λ y. not (test y)) xs)) ≡ [] → (test x ≡ true) × (failing test entry xs ≡ [])
  passes x xs true is e = (is, e)
  passes x xs false is e = let none : ⊥ = cc in absurd none

  pub none_fails : (xs : List X) → failing test entry xs ≡ [] → Each (λ x. test x ≡ true) xs
  none_fails [] e = tt
  none_fails (x ∷ xs) e = let r = passes x xs (test x) refl e in (r.0, none_fails xs r.1)

each_parts : {X : Type 0} (P : X → Type 0) (xs ys : List X) → Each P (xs ++ ys) → Each P xs × Each P ys
each_parts P [] ys each = (tt, each)
each_parts P (x ∷ xs) ys each = let rest = each_parts P xs ys each.1 in ((each.0, rest.0), rest.1)

module _ {D : ℕ} (s : ShadowLists D) where
  abbrev pub Fills : NodeRow D → Type 0
  Fills n = is_filled s n ≡ true

  abbrev lacking : NodeRow D → Problem
  lacking n = record { condition = Filling; node = n.number; position = 0 }

  pub all_fill : IsSound s → Each Fills s.nodes
  all_fill sound =
      let all = append-none (of_nodes s ++ cell_problems HasEntry (λ n c. not (is_leaf n) || has_entry s n c) s.nodes) (row_problems HasCell (has_cell s) s.rows) sound in
      let nodes = append-none (of_nodes s) (cell_problems HasEntry (λ n c. not (is_leaf n) || has_entry s n c) s.nodes) all.0 in
      let fill = append-none (root_problems s
      ++ node_problems HasPlace (has_place s) s.nodes
      ++ cell_problems NamesChild (λ n c. is_leaf n || names_child s n c) s.nodes
      ++ cell_problems IsOrdered (λ n c. is_ordered c) s.nodes
      ++ cell_problems HoldsChild (λ n c. is_leaf n || holds_child s c) s.nodes
      ++ cell_problems FitsChild (λ n c. is_leaf n || fits_child s c) s.nodes) (node_problems Filling (is_filled s) s.nodes) nodes.0 in
      none_fails (is_filled s) lacking s.nodes fill.1

  least_met : (n : NodeRow D) → Fills n → least_cells s n ≤ length n.cells
  least_met n fills = nat_le_is (least_cells s n) (length n.cells) (and_right (nat_le (length n.cells) s.capacity) (nat_le (least_cells s n) (length n.cells)) fills)

  pub below_root : (n : NodeRow D) → is_root s n ≡ false → Fills n → least_fill s.capacity ≤ length n.cells
  below_root n other fills =
      let least : ◌≡◌ {A = ℕ} (least_cells s n) (least_fill s.capacity) = ap (λ b. if b then (if is_leaf n then 0 else 2) else least_fill s.capacity) other in
      omega (arith, least, least_met n fills)

  at_root : (n : NodeRow D) → is_root s n ≡ true → is_leaf n ≡ false → Fills n → 2 ≤ length n.cells
  at_root n top high fills =
      let least : ◌≡◌ {A = ℕ} (least_cells s n) 2
      = ap (λ b. if b then (if is_leaf n then 0 else 2) else least_fill s.capacity) top ∙ ap (λ b. if b then 0 else 2) high in
      omega (arith, least, least_met n fills)

  module _ (first : s.root ≡ pos 1) where
    abbrev Filled : ℕ → Type 0
    Filled l = (number : ℕ) (parent : Option ℤ) (node : Node l) → 2 ≤ number → Each Fills (nodes_in l number parent node) → IsFilled s.capacity (suc l) node

    children : (l : ℕ) → Filled l → (number : ℕ) (parent : Option ℤ) (nodes : List (Node l)) → 2 ≤ number →
        Each Fills (flat_map (λ x. nodes_in l x.0 parent x.1) (starts (node_count l) number nodes)) → All (IsFilled s.capacity (suc l)) nodes
    children l filled number parent [] many each = All-nil (IsFilled s.capacity (suc l))
    children l filled number parent (x ∷ xs) many each =
        let later = number + node_count l x in
        let parts = each_parts Fills (nodes_in l number parent x) (flat_map (λ y. nodes_in l y.0 parent y.1) (starts (node_count l) later xs)) each in
        All-cons (IsFilled s.capacity (suc l)) x xs (filled number parent x many parts.0) (children l filled later parent xs (omega arith) parts.1)

    other : (number : ℕ) → 2 ≤ number → int_eq (pos number) s.root ≡ false
    other number many = ap (int_eq (pos number)) first ∙ not_first number many

    below : (l : ℕ) → Filled l
    below zero number parent node many each =
        let row : NodeRow D = record { number = pos number; level = 0; parent = parent; cells = map row_cell node } in
        let long : least_fill s.capacity ≤ length (map (row_cell {D = D}) node) = below_root row (other number many) each.0 in
        (omega (arith, long, length-map node (row_cell {D = D})), (λ i d h. tt))
    below (suc l) number parent node many each =
        let cells : List (RawCell D) = map (child_cell l) (starts (node_count l) (number + 1) node) in
        let row : NodeRow D = record { number = pos number; level = suc l; parent = parent; cells = cells } in
        let long : least_fill s.capacity ≤ length (map (child_cell {D = D} l) (starts (node_count l) (number + 1) node))
        = below_root row (other number many) each.0 in (
          omega (arith, long, length_starts D l (number + 1) node),
          children l (below l) (number + 1) (Some (pos number)) node (omega arith) each.1,
        )

    in_tree : (l : ℕ) (root : Node l) → Each Fills (nodes_in l 1 None root) → All (IsFilled s.capacity l) root × (0 < l → 2 ≤ length root)
    in_tree zero root each = ((λ i d h. tt), (λ h. absurd (omega arith)))
    in_tree (suc l) root each =
        let cells : List (RawCell D) = map (child_cell l) (starts (node_count l) (1 + 1) root) in
        let row : NodeRow D = record { number = pos 1; level = suc l; parent = None; cells = cells } in
        let top : int_eq (pos 1) s.root ≡ true = (Decides-int_eq (pos 1) s.root).1 (sym first) in
        let high : is_leaf row ≡ false = ne_eqb (suc l) 0 (omega arith) in
        let two : 2 ≤ length (map (child_cell {D = D} l) (starts (node_count l) (1 + 1) root)) = at_root row top high each.0 in (
          children l (below l) (1 + 1) (Some (pos 1)) root (omega arith) each.1,
          (λ h. omega (arith, two, length_starts D l (1 + 1) root)),
        )

pub filled : SoundTreesAreFilled
filled axes s tree sound shows =
    let parts = in_tree s shows.0 tree.level tree.root (subst (Each (Fills s)) shows.1 (all_fill s sound)) in
    record { below = parts.0; root = parts.1 }
