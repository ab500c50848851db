-- What lists have in which the checker finds no problem: boxes, no id twice, and few cells a node.
use Rattle.std.proofs.Common.{◌≡◌, ℕ, zero, suc, ◌+◌, ◌≤◌, Bool, true, false, cond, ℤ, List, [], ◌∷◌, ◌++◌, length, map, take, Some, arith, refl, ap, sym, subst, inl, inr}
use Rattle.std.specs.Prelude.{nat_le, ◌&&◌, ◌||◌, not, slice_get, count_by}
use Rattle.std.specs.List.{All}
use Rattle.std.specs.Ordering.{int_eq}
use Rattle.std.proofs.lemmas.Bool.{cases_lt, eqb-true}
use Rattle.std.proofs.lemmas.Bool.Decides.{Decides-int_eq, nat_tests}
use Rattle.std.proofs.lemmas.Option.{none-some, same_Some}
use Rattle.std.proofs.lemmas.List.Elements.{All-nil, All-cons, All-weaker}
use Rattle.rt_check.specs.declared.node.NodeRow.{NodeRow}
use Rattle.rt_check.specs.declared.node.RawCell.{RawCell}
use Rattle.rt_check.specs.declared.problem.Problem.{Problem}
use Rattle.rt_check.specs.declared.problem.Condition.TheVariants.{HasPlace, NamesChild, IsOrdered, HoldsChild, FitsChild, IsFilled, HasEntry, HasCell}
use Rattle.rt_check.specs.Shadow.{ShadowLists}
use Rattle.rt_check.specs.Conditions.{is_leaf, names_child, is_ordered, holds_child, fits_child, is_filled, least_cells, has_place, has_entry, has_cell, leaf_cells, times_named, root_problems, node_problems, cell_problems, cell_problems_of, row_problems, IsSound}
use Rattle.rt_tree_node.proofs.Counts.{count-cons}
use Rattle.rt_tree.specs.Lists.{row_in, rows_of}
use Rattle.rt_tree_pack.specs.Packing.{IsFirstRepeated}
use Rattle.rt_tree_one.proofs.Entries.{append-none, Each, each_in, none-fail, found, counted_leaf, of_nodes, have_cells, entry_at}
use Rattle.rt_tree_one.proofs.Filled.{Fills, all_fill}
use Rattle.rt_map.specs.Packing.{ids}

each-all : {X : Type 0} (P : X → Type 0) (xs : List X) → Each P xs → All P xs
each-all P [] each = All-nil P
each-all P (x ∷ xs) each = All-cons P x xs each.0 (each-all P xs each.1)

and-left : (a b : Bool) → (a && b) ≡ true → a ≡ true
and-left true b e = refl
and-left false b e = e

nat-le-is : (m n : ℕ) → nat_le m n ≡ true → m ≤ n
nat-le-is m n e = grind (arith, nat_tests)

-- a number that stands at a position is counted there too
one-more : (xs : List ℤ) (at : ℕ) (id : ℤ) → slice_get xs at ≡ Some id → count_by (int_eq id) (take at xs) + 1 ≤ count_by (int_eq id) xs
one-more [] at id here = absurd (none-some id here)
one-more (x ∷ xs) zero id here =
    let same : int_eq id x ≡ true = (Decides-int_eq id x).1 (sym (same_Some x id here)) in
    let one : ◌≡◌ {A = ℕ} (cond (int_eq id x) 1 0) 1 = ap (λ b. cond b 1 0) same in
    omega (arith, one, count-cons (int_eq id) x xs)
one-more (x ∷ xs) (suc at) id here =
    let rest = one-more xs at id here in
    omega (arith, rest, count-cons (int_eq id) x xs, count-cons (int_eq id) x (take at xs))

module _ {D : ℕ} where
  ids-counted : (id : ℤ) (cells : List (RawCell D)) → count_by (int_eq id) (ids (map row_in cells)) ≡ times_named id cells
  ids-counted id [] = refl
  ids-counted id (c ∷ cs) =
      omega (arith, ids-counted id cs, count-cons (int_eq id) c.number (ids (map row_in cs)), count-cons (λ (x : RawCell D). int_eq id x.number) c cs)

  ordered-in : (nodes : List (NodeRow D)) → cell_problems IsOrdered (λ n c. is_ordered c) nodes ≡ [] → All (λ n. All (λ c. is_ordered c ≡ true) n.cells) nodes
  ordered-in [] e = All-nil (λ (n : NodeRow D). All (λ c. is_ordered c ≡ true) n.cells)
  ordered-in (n ∷ ns) e =
      let P : NodeRow D → Type 0 = λ x. All (λ c. is_ordered c ≡ true) x.cells in
      let test : NodeRow D → RawCell D → Bool = λ x c. is_ordered c in
      let parts = append-none (cell_problems_of IsOrdered test n) (cell_problems IsOrdered test ns) e in
      let here = none-fail (test n) (λ c. record { condition = IsOrdered; node = n.number; position = c.0 }) 1 n.cells parts.0 in
      All-cons P n ns (each-all (λ (c : RawCell D). is_ordered c ≡ true) n.cells here) (ordered-in ns parts.1)

  module _ (s : ShadowLists D) (sound : IsSound s) where
    pub few-cells : All (λ (n : NodeRow D). length n.cells ≤ s.capacity) s.nodes
    few-cells =
        let Q : NodeRow D → Type 0 = λ n. length n.cells ≤ s.capacity in
        All-weaker (Fills s) Q (λ n fills. nat-le-is (length n.cells) s.capacity (and-left (nat_le (length n.cells) s.capacity) (nat_le (least_cells s n) (length n.cells)) fills))
        s.nodes (each-all (Fills s) s.nodes (all_fill s sound))

    abbrev leaf_test : NodeRow D → RawCell D → Bool
    leaf_test n c = not (is_leaf n) || has_entry s n c

    abbrev first_problems : List Problem
    first_problems = root_problems s ++ node_problems HasPlace (has_place s) s.nodes ++ cell_problems NamesChild (λ n c. is_leaf n || names_child s n c) s.nodes

    abbrev ordering : List Problem
    ordering = cell_problems {D = D} IsOrdered (λ n c. is_ordered c) s.nodes

    abbrev holding : List Problem
    holding = cell_problems HoldsChild (λ n c. is_leaf n || holds_child s c) s.nodes

    abbrev fitting : List Problem
    fitting = cell_problems FitsChild (λ n c. is_leaf n || fits_child s c) s.nodes

    abbrev filling : List Problem
    filling = node_problems IsFilled (is_filled s) s.nodes

    pub ordered-cells : All (λ (n : NodeRow D). All (λ c. is_ordered c ≡ true) n.cells) s.nodes
    ordered-cells =
        let entries = append-none (of_nodes s ++ cell_problems HasEntry leaf_test s.nodes) (row_problems HasCell (has_cell s) s.rows) sound in
        let nodes = append-none (of_nodes s) (cell_problems HasEntry leaf_test s.nodes) entries.0 in
        let filled = append-none (first_problems ++ ordering ++ holding ++ fitting) filling nodes.0 in
        let fitted = append-none (first_problems ++ ordering ++ holding) fitting filled.0 in
        let held = append-none (first_problems ++ ordering) holding fitted.0 in
        ordered-in s.nodes (append-none first_problems ordering held.0).1

    one-cell : (id : ℤ) → times_named id (leaf_cells s.nodes) ≤ 1
    one-cell id = elim (cases_lt 0 (times_named id (leaf_cells s.nodes))) [
      | inl some ↦
          let cell = counted_leaf id s.nodes some in
          let entry = entry_at s sound id cell.0 cell.1 in
          let there = found id entry.0 s.rows entry.1 in
          let has = each_in (λ x. has_cell s x ≡ true) entry.0 s.rows (have_cells s sound) there.0 in
          let one = subst (λ (z : ℤ). times_named z (leaf_cells s.nodes) ≡ 1) there.1 (eqb-true (times_named entry.0.id (leaf_cells s.nodes)) 1 has) in
          omega (arith, one)
      | inr none ↦ omega (arith, none)
    ]

    pub no-repetition : (at : ℕ) → ¬ IsFirstRepeated (ids (rows_of s)) at
    no-repetition at twice =
        let more = one-more (ids (rows_of s)) at twice.id twice.here in
        let one = one-cell twice.id in
        absurd (omega (arith, more, one, ids-counted twice.id (leaf_cells s.nodes), twice.earlier))
