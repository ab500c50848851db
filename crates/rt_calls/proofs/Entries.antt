-- What a shadow has in which the checker finds no problem: no id twice, and boxes.
use Rattle.std.proofs.Common.{◌≡◌, ℕ, Bool, true, false, not, ◌||◌, cond, ℤ, List, [], ◌++◌, Option, Some, None, Contains, arith, refl, sym, subst, inl, inr}
use Rattle.std.specs.List.{enumerate_from}
use Rattle.std.specs.Option.{option_map_or}
use Rattle.std.specs.Ordering.{int_eq}
use Rattle.std.proofs.lemmas.Bool.{cases_lt, eqb-true, true≢false}
use Rattle.std.proofs.lemmas.Bool.Decides.{Decides-int_eq}
use Rattle.rt_check.specs.declared.node.NodeRow.{NodeRow}
use Rattle.rt_check.specs.declared.node.RawCell.{RawCell}
use Rattle.rt_check.specs.declared.node.RowEntry.{RowEntry}
use Rattle.rt_check.specs.declared.problem.Problem.{Problem}
use Rattle.rt_check.specs.declared.problem.Condition.TheVariants.{HasPlace, NamesChild, IsOrdered, HoldsChild, FitsChild, IsFilled, HasEntry, HasCell}
use Rattle.rt_check.specs.Shadow.{ShadowLists}
use Rattle.rt_check.specs.Conditions.{is_leaf, names_child, is_ordered, holds_child, fits_child, is_filled, has_place, has_entry, has_cell, entry_of, leaf_cells, times_named, root_problems, node_problems, cell_problems, row_problems, IsSound}
use Rattle.rt_tree_walk.proofs.Reaching.{counted-contained}
use Rattle.rt_tree.proofs.Members.{contains-none}
use Rattle.rt_table_store.proofs.Soundness.{append_first, append_rest, none_fails, counted_in, flat_from, found_in, cell_passes}
use Rattle.rt_calls.specs.Loading.{AreUnique}

module _ {D : ℕ} where
  -- the cell is one of a leaf
  of_leaf : (n : NodeRow D) (c : RawCell D) (b : Bool) → Contains (cond b n.cells []) c → (b ≡ true) × Contains n.cells c
  of_leaf n c true h = (refl, h)
  of_leaf n c false h = absurd (contains-none c h)

  module _ (s : ShadowLists D) (sound : IsSound s) where
    abbrev first_problems : List Problem
    first_problems = root_problems s ++ node_problems HasPlace (has_place s) s.nodes ++ cell_problems NamesChild (λ n c. is_leaf n || names_child s n c) s.nodes

    abbrev pub ordering_problems : List Problem
    ordering_problems = cell_problems {D = D} IsOrdered (λ n c. is_ordered c) s.nodes

    abbrev entry_problems : List Problem
    entry_problems = cell_problems HasEntry (λ n c. not (is_leaf n) || has_entry s n c) s.nodes

    abbrev holding : List Problem
    holding = cell_problems HoldsChild (λ n c. is_leaf n || holds_child s c) s.nodes

    abbrev fitting : List Problem
    fitting = cell_problems FitsChild (λ n c. is_leaf n || fits_child s c) s.nodes

    abbrev filling : List Problem
    filling = node_problems IsFilled (is_filled s) s.nodes

    before_entries : first_problems ++ ordering_problems ++ holding ++ fitting ++ filling ++ entry_problems ≡ []
    before_entries = append_first (first_problems ++ ordering_problems ++ holding ++ fitting ++ filling ++ entry_problems) (row_problems HasCell (has_cell s) s.rows) sound

    rows_have_cells : row_problems HasCell (has_cell s) s.rows ≡ []
    rows_have_cells = append_rest (first_problems ++ ordering_problems ++ holding ++ fitting ++ filling ++ entry_problems) (row_problems HasCell (has_cell s) s.rows) sound

    cells_have_entries : entry_problems ≡ []
    cells_have_entries = append_rest (first_problems ++ ordering_problems ++ holding ++ fitting ++ filling) entry_problems before_entries

    pub cells_are_ordered : ordering_problems ≡ []
    cells_are_ordered =
        append_rest first_problems ordering_problems
        (append_first (first_problems ++ ordering_problems) holding
        (append_first (first_problems ++ ordering_problems ++ holding) fitting
        (append_first (first_problems ++ ordering_problems ++ holding ++ fitting) filling
        (append_first (first_problems ++ ordering_problems ++ holding ++ fitting ++ filling) entry_problems before_entries))))

    some_entry : (node : NodeRow D) (o : Option RowEntry) → option_map_or (λ r. int_eq r.leaf node.number) o false ≡ true → (r : RowEntry) × (o ≡ Some r)
    some_entry node None e = absurd (true≢false (sym e))
    some_entry node (Some r) e = (r, refl)

    -- the node of a leaf's cell
    node_of_cell : (c : RawCell D) → Contains (leaf_cells s.nodes) c → (n : NodeRow D) × Contains s.nodes n × (is_leaf n ≡ true) × Contains n.cells c
    node_of_cell c here =
        let found = flat_from (λ (n : NodeRow D). cond (is_leaf n) n.cells []) s.nodes c here in
        let leaf = of_leaf found.0 c (is_leaf found.0) found.2 in
        (found.0, found.1, leaf.0, leaf.1)

    -- an entry's id is that of one cell
    entry_named : (r : RowEntry) → Contains s.rows r → times_named r.id (leaf_cells s.nodes) ≡ 1
    entry_named r there =
        let k = counted_in 1 s.rows r there in
        eqb-true (times_named r.id (leaf_cells s.nodes)) 1
        (none_fails (λ (p : ℕ × RowEntry). has_cell s p.1) (λ (p : ℕ × RowEntry). record { condition = HasCell; node = p.1.leaf; position = p.0 })
        (enumerate_from 1 s.rows) (k.0, r) rows_have_cells k.1)

    -- and a leaf's cell has an entry
    cell_named : (c : RawCell D) → Contains (leaf_cells s.nodes) c → times_named c.number (leaf_cells s.nodes) ≡ 1
    cell_named c here =
        let n = node_of_cell c here in
        let passes = cell_passes HasEntry (λ n c. not (is_leaf n) || has_entry s n c) s.nodes n.0 c cells_have_entries n.1 n.3 in
        let entered : has_entry s n.0 c ≡ true = subst (λ (b : Bool). (not b || has_entry s n.0 c) ≡ true) n.2 passes in
        let entry = some_entry n.0 (entry_of s.rows c.number) entered in
        let listed = found_in (λ (r : RowEntry). int_eq c.number r.id) s.rows entry.0 entry.1 in
        let same : c.number ≡ entry.0.id = (Decides-int_eq c.number entry.0.id).0 listed.1 in
        subst (λ (z : ℤ). times_named z (leaf_cells s.nodes) ≡ 1) (sym same) (entry_named entry.0 listed.0)

    pub unique-from-sound : AreUnique (leaf_cells s.nodes)
    unique-from-sound number = elim (cases_lt 0 (times_named number (leaf_cells s.nodes))) [
      | inl some ↦
          let found = counted-contained (λ (c : RawCell D). int_eq number c.number) (leaf_cells s.nodes) some in
          let same : number ≡ found.0.number = (Decides-int_eq number found.0.number).0 found.2 in
          let one = subst (λ (z : ℤ). times_named z (leaf_cells s.nodes) ≡ 1) (sym same) (cell_named found.0 found.1) in
          omega (arith, one)
      | inr none ↦ omega (arith, none)
    ]
