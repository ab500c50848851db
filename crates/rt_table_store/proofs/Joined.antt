-- Rows whose boxes are in a tree: what the tree's shape says of their ids, and what stands at each id.
use Rattle.std.proofs.Common.{◌≡◌, ℕ, ◌+◌, ◌≤◌, ℤ, Bool, true, false, not, ◌||◌, cond, List, [], ◌∷◌, ◌++◌, map, Option, Some, None, IsSome, inl, inr, refl, sym, ap, subst, ◌∙◌, arith}
use Rattle.std.specs.Prelude.{find, filter, count_by, ◌<ℤ◌}
use Rattle.std.specs.List.{AllByRecursion, enumerate_from}
use Rattle.std.specs.Option.{option_map, option_map_or, unwrap_or}
use Rattle.std.specs.Ordering.{int_eq}
use Rattle.std.proofs.lemmas.Bool.{cases_Bool, eqb-true}
use Rattle.indexmap.specs.IndexMap.{IndexMap, get}
use Rattle.rt_box.specs.declared.interval.Interval.{Interval}
use Rattle.rt_check.specs.declared.node.NodeRow.{NodeRow}
use Rattle.rt_check.specs.declared.node.RawCell.{RawCell}
use Rattle.rt_check.specs.declared.node.RowEntry.{RowEntry}
use Rattle.rt_check.specs.declared.problem.Problem.{Problem}
use Rattle.rt_check.specs.declared.problem.Condition.TheVariants.{HasPlace, NamesChild, IsOrdered, HoldsChild, FitsChild, IsFilled, HasEntry, HasCell}
use Rattle.rt_check.specs.Shadow.{ShadowLists}
use Rattle.rt_check.specs.Conditions.{is_leaf, names_child, is_ordered, holds_child, fits_child, is_filled, has_place, has_entry, has_cell, entry_of, leaf_cells, times_named, failing, root_problems, node_problems, cell_problems, cell_problems_of, row_problems}
use Rattle.rt_tree_node.proofs.Counts.{count-cons}
use Rattle.rt_sql_statement.specs.declared.value.Value.{Value}
use Rattle.rt_table_row.specs.Rows.{TableRow, AreRising, row_at}
use Rattle.rt_tree_walk.specs.declared.searching.Row.{Row}
use Rattle.rt_tree_walk.proofs.Reaching.{counted-contained}
use Rattle.rt_tree_walk.proofs.Judging.{count-mapped}
use Rattle.rt_tree.specs.Lists.{IsInShape, row_in, rows_of, box_of}
use Rattle.rt_tree.proofs.Members.{find-one, find-nothing}
use Rattle.rt_table_store.specs.StoreInside.{joined, rows_in}
use Rattle.rt_table_store.proofs.Order.{eq_from}
use Rattle.rt_table_store.proofs.Sorted.{Rises, rises, rising}

-- ---- lists
append-none : {X : Type 0} (xs ys : List X) → xs ++ ys ≡ [] → (xs ≡ []) × (ys ≡ [])
append-none [] ys e = (refl, e)
append-none (x ∷ xs) ys e = let none : ⊥ = cc in absurd none

all-append : {X : Type 0} (P : X → Type 0) (xs ys : List X) → AllByRecursion P xs → AllByRecursion P ys → AllByRecursion P (xs ++ ys)
all-append P [] ys all more = more
all-append P (x ∷ xs) ys all more = (all.0, all-append P xs ys all.1 more)

module _ {X P : Type 0} (test : X → Bool) (entry : ℕ × X → P) where
  abbrev left : ℕ → List X → List P
  left n xs = failing (λ x. test x.1) entry (enumerate_from n xs)

  passes : (n : ℕ) (x : X) (xs : List X) (b : Bool) → test x ≡ b → map entry (cond (not b) ((n, x) ∷ filter (λ y. not (test y.1)) (enumerate_from (n + 1) xs)) (filter (λ y. not (test y.1)) (enumerate_from (n + 1) xs))) ≡ [] →
      (test x ≡ true) × (left (n + 1) xs ≡ [])
  passes n x xs true is e = (is, e)
  passes n x xs false is e = let none : ⊥ = cc in absurd none

  none-fail : (n : ℕ) (xs : List X) → left n xs ≡ [] → AllByRecursion (λ x. test x ≡ true) xs
  none-fail n [] e = tt
  none-fail n (x ∷ xs) e = let r = passes n x xs (test x) refl e in (r.0, none-fail (n + 1) xs r.1)

module _ {X : Type 0} (p : X → Bool) (P : X → Type 0) where
  found-here : (x y : X) (xs : List X) → AllByRecursion P (y ∷ xs) → (find p xs ≡ Some x → AllByRecursion P xs → (p x ≡ true) × P x) → (b : Bool) → p y ≡ b → cond b (Some y) (find p xs) ≡ Some x → (p x ≡ true) × P x
  found-here x y xs all later true is e = let same : y ≡ x = cc in (ap p (sym same) ∙ is, subst P same all.0)
  found-here x y xs all later false is e = later e all.1

  -- what is found passes, and is as all are
  pub found : (x : X) (xs : List X) → find p xs ≡ Some x → AllByRecursion P xs → (p x ≡ true) × P x
  found x [] e all = let none : ⊥ = cc in absurd none
  found x (y ∷ xs) e all = found-here x y xs all (found x xs) (p y) refl e

find-map-step : {X Y : Type 0} (f : X → Y) (p : Y → Bool) (x : X) (xs : List X) → find p (map f xs) ≡ option_map f (find (λ z. p (f z)) xs) → (b : Bool) →
    cond b (Some (f x)) (find p (map f xs)) ≡ option_map f (cond b (Some x) (find (λ z. p (f z)) xs))
find-map-step f p x xs later true = refl
find-map-step f p x xs later false = later

pub find-map : {X Y : Type 0} (f : X → Y) (p : Y → Bool) (xs : List X) → find p (map f xs) ≡ option_map f (find (λ x. p (f x)) xs)
find-map f p [] = refl
find-map f p (x ∷ xs) = find-map-step f p x xs (find-map f p xs) (p (f x))

module _ {X Y : Type 0} (key : Y → ℤ) (f : X → Y) where
  all-map : (q : ℤ) (xs : List X) → AllByRecursion (λ x. q <ℤ key (f x)) xs → AllByRecursion (λ y. q <ℤ key y) (map f xs)
  all-map q [] all = tt
  all-map q (x ∷ xs) all = (all.0, all-map q xs all.1)

  pub rises-map : (xs : List X) → Rises (λ x. key (f x)) xs → Rises key (map f xs)
  rises-map [] rise = tt
  rises-map (x ∷ xs) rise = (all-map (key (f x)) xs rise.0, rises-map xs rise.1)

-- ---- the cells of the leaves and the row entries
module _ {D : ℕ} (s : ShadowLists D) where
  abbrev IsEntered : RawCell D → Type 0
  IsEntered c = IsSome (entry_of s.rows c.number)

  abbrev leaf_test : NodeRow D → RawCell D → Bool
  leaf_test n c = not (is_leaf n) || has_entry s n c

  some-entry : (node : NodeRow D) (o : Option RowEntry) → option_map_or (λ r. int_eq r.leaf node.number) o false ≡ true → IsSome o
  some-entry node None e = let none : ⊥ = cc in absurd none
  some-entry node (Some r) e = refl

  all-entered : (node : NodeRow D) (cells : List (RawCell D)) → is_leaf node ≡ true → AllByRecursion (λ c. leaf_test node c ≡ true) cells → AllByRecursion IsEntered cells
  all-entered node [] leaf all = tt
  all-entered node (c ∷ cs) leaf all =
      (some-entry node (entry_of s.rows c.number) (subst (λ (b : Bool). (not b || has_entry s node c) ≡ true) leaf all.0), all-entered node cs leaf all.1)

  node-entered : (node : NodeRow D) (b : Bool) → is_leaf node ≡ b → cell_problems_of HasEntry leaf_test node ≡ [] → AllByRecursion IsEntered (cond b node.cells [])
  node-entered node true leaf e =
      all-entered node node.cells leaf (none-fail (leaf_test node) (λ c. record { condition = HasEntry; node = node.number; position = c.0 }) 1 node.cells e)
  node-entered node false leaf e = tt

  entered : (nodes : List (NodeRow D)) → cell_problems HasEntry leaf_test nodes ≡ [] → AllByRecursion IsEntered (leaf_cells nodes)
  entered [] e = tt
  entered (n ∷ ns) e =
      let parts = append-none (cell_problems_of HasEntry leaf_test n) (cell_problems HasEntry leaf_test ns) e in
      all-append IsEntered (cond (is_leaf n) n.cells []) (leaf_cells ns) (node-entered n (is_leaf n) refl parts.0) (entered ns parts.1)

  other-id : (id : ℤ) (c : RawCell D) → entry_of s.rows id ≡ None → IsEntered c → int_eq id c.number ≡ false
  other-id id c none there = elim (cases_Bool (int_eq id c.number)) [
    | inl e ↦
        let some : IsSome (entry_of s.rows id) = subst (λ (z : ℤ). IsSome (entry_of s.rows z)) (sym (eq_from id c.number e)) there in
        let stop : ⊥ = cc in
        absurd stop
    | inr e ↦ e
  ]

  unentered : (id : ℤ) (cells : List (RawCell D)) → entry_of s.rows id ≡ None → AllByRecursion IsEntered cells → times_named id cells ≡ 0
  unentered id [] none all = refl
  unentered id (c ∷ cs) none all =
      let here : ◌≡◌ {A = ℕ} (cond (int_eq id c.number) 1 0) 0 = ap (λ b. cond b 1 0) (other-id id c none all.0) in
      omega (arith, here, count-cons (λ x. int_eq id x.number) c cs, unentered id cs none all.1)

  module _ (shape : IsInShape s) where
    -- the problems of the other conditions, which are listed first
    abbrev of_nodes : List Problem
    of_nodes = root_problems s
        ++ node_problems HasPlace (has_place s) s.nodes
        ++ cell_problems NamesChild (λ n c. is_leaf n || names_child s n c) s.nodes
        ++ cell_problems IsOrdered (λ n c. is_ordered c) s.nodes
        ++ cell_problems HoldsChild (λ n c. is_leaf n || holds_child s c) s.nodes
        ++ cell_problems FitsChild (λ n c. is_leaf n || fits_child s c) s.nodes
        ++ node_problems IsFilled (is_filled s) s.nodes

    last-problems : (cell_problems HasEntry leaf_test s.nodes ≡ []) × (row_problems HasCell (has_cell s) s.rows ≡ [])
    last-problems =
        let all = append-none (of_nodes ++ cell_problems HasEntry leaf_test s.nodes) (row_problems HasCell (has_cell s) s.rows) shape.sound in
        ((append-none of_nodes (cell_problems HasEntry leaf_test s.nodes) all.0).1, all.1)

    have-cells : AllByRecursion (λ r. has_cell s r ≡ true) s.rows
    have-cells = none-fail (has_cell s) (λ r. record { condition = HasCell; node = r.1.leaf; position = r.0 }) 1 s.rows last-problems.1

    times-none : (id : ℤ) → entry_of s.rows id ≡ None → times_named id (leaf_cells s.nodes) ≡ 0
    times-none id none = unentered id (leaf_cells s.nodes) none (entered s.nodes last-problems.0)

    times-some : (id : ℤ) (r : RowEntry) → entry_of s.rows id ≡ Some r → (r.id ≡ id) × (times_named id (leaf_cells s.nodes) ≡ 1)
    times-some id r some =
        let h = found (λ x. int_eq id x.id) (λ x. has_cell s x ≡ true) r s.rows some have-cells in
        let same : id ≡ r.id = eq_from id r.id h.0 in
        (sym same, subst (λ (z : ℤ). times_named z (leaf_cells s.nodes) ≡ 1) (sym same) (eqb-true (times_named r.id (leaf_cells s.nodes)) 1 h.1))

    counted : (id : ℤ) → count_by (λ (r : Row D). int_eq id r.id) (rows_of s) ≡ times_named id (leaf_cells s.nodes)
    counted id = count-mapped (λ (r : Row D). int_eq id r.id) row_in (λ c. int_eq id c.number) (leaf_cells s.nodes) (λ i d h. refl)

    -- an id is that of one row at most
    pub few-have : (id : ℤ) → count_by (λ (r : Row D). int_eq id r.id) (rows_of s) ≤ 1
    few-have id = by (entry_of s.rows id) refl
      where
        by : (o : Option RowEntry) → entry_of s.rows id ≡ o → count_by (λ (r : Row D). int_eq id r.id) (rows_of s) ≤ 1
        by None e = omega (arith, counted id, times-none id e)
        by (Some r) e = omega (arith, counted id, (times-some id r e).1)

    -- where no entry is, no row is
    pub row-none : (id : ℤ) → entry_of s.rows id ≡ None → find (λ (r : Row D). int_eq id r.id) (rows_of s) ≡ None
    row-none id none = find-nothing (λ (r : Row D). int_eq id r.id) (rows_of s) (counted id ∙ times-none id none)

    -- an entry's row
    pub row-some : (id : ℤ) (e : RowEntry) → entry_of s.rows id ≡ Some e → (r : Row D) × (r.id ≡ id) × (find (λ (x : Row D). int_eq id x.id) (rows_of s) ≡ Some r)
    row-some id e some =
        let h = counted-contained (λ (r : Row D). int_eq id r.id) (rows_of s) (omega (arith, counted id, (times-some id e some).1)) in
        (h.0, sym (eq_from id h.0.id h.2), find-one (λ (r : Row D). int_eq id r.id) (rows_of s) h.0 h.1 h.2 (few-have id))

    module _ {S : Type 0} (auxiliary : IndexMap ℤ (List Value) S) where
      -- the row of an id with that box
      abbrev pub boxed : ℤ → List Interval → TableRow
      boxed id box = record { id = id; box = box; auxiliary = unwrap_or (get int_eq auxiliary id) [] }

      -- what stands at an id
      pub row-at : (id : ℤ) → row_at (rows_in s auxiliary) id ≡ option_map (boxed id) (box_of s id)
      row-at id = find-map (λ (e : RowEntry). joined s auxiliary e.id) (λ r. int_eq id r.id) s.rows ∙ by (entry_of s.rows id) refl
        where
          by : (o : Option RowEntry) → entry_of s.rows id ≡ o → option_map (λ (e : RowEntry). joined s auxiliary e.id) o ≡ option_map (boxed id) (box_of s id)
          by None e = sym (ap (λ (o : Option (Row D)). option_map (boxed id) (option_map (λ r. r.rect) o)) (row-none id e))
          by (Some x) e =
              let h = row-some id x e in
              let box : box_of s id ≡ Some h.0.rect = ap (option_map (λ (r : Row D). r.rect)) h.2 in
              ap (λ (z : ℤ). Some (joined s auxiliary z)) (times-some id x e).0
              ∙ ap (λ (o : Option (List Interval)). Some (boxed id (unwrap_or o []))) box
              ∙ sym (ap (option_map (boxed id)) box)

      pub rows-rise : Rises (λ (r : TableRow). r.id) (rows_in s auxiliary)
      rows-rise = rises-map (λ (r : TableRow). r.id) (λ (e : RowEntry). joined s auxiliary e.id) s.rows (rises (λ (e : RowEntry). e.id) s.rows shape.rising)

      pub are-rising : AreRising (rows_in s auxiliary)
      are-rising = rising (λ (r : TableRow). r.id) (rows_in s auxiliary) rows-rise
