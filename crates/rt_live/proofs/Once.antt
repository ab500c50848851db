-- The rows of a tree: no id is there twice, so as many rows pass each test if they stand by rising id.
use Rattle.std.proofs.Common.{◌≡◌, ℕ, ◌+◌, ◌≤◌, ℤ, Bool, true, false, not, ◌||◌, cond, List, [], ◌∷◌, ◌++◌, map, length, Option, Some, None, IsSome, inl, inr, refl, sym, ap, subst, ◌∙◌, arith}
use Rattle.std.specs.Prelude.{find, filter, count_by, ◌<ℤ◌}
use Rattle.std.specs.List.{AllByRecursion, enumerate_from}
use Rattle.std.specs.Option.{option_map, option_map_or, unwrap_or}
use Rattle.std.specs.Ordering.{int_eq}
use Rattle.std.proofs.lemmas.Bool.{cases_Bool, eqb-true}
use Rattle.std.proofs.lemmas.List.{length-map}
use Rattle.rt_box.specs.declared.interval.Interval.{Interval}
use Rattle.rt_check.specs.declared.node.NodeRow.{NodeRow}
use Rattle.rt_check.specs.declared.node.RawCell.{RawCell}
use Rattle.rt_check.specs.declared.node.RowEntry.{RowEntry}
use Rattle.rt_check.specs.declared.problem.Problem.{Problem}
use Rattle.rt_check.specs.declared.problem.Condition.TheVariants.{HasPlace, NamesChild, IsOrdered, HoldsChild, FitsChild, IsFilled, HasEntry, HasCell}
use Rattle.rt_check.specs.Shadow.{ShadowLists}
use Rattle.rt_check.specs.Conditions.{is_leaf, names_child, is_ordered, holds_child, fits_child, is_filled, has_place, has_entry, has_cell, entry_of, leaf_cells, times_named, failing, root_problems, node_problems, cell_problems, cell_problems_of, row_problems}
use Rattle.rt_tree_node.proofs.Counts.{count-cons}
use Rattle.rt_tree_walk.specs.declared.searching.Row.{Row}
use Rattle.rt_tree_walk.proofs.Reaching.{counted-contained}
use Rattle.rt_tree_walk.proofs.Judging.{count-mapped}
use Rattle.rt_tree.specs.Lists.{IsInShape, row_in, rows_of, box_of}
use Rattle.rt_tree.proofs.Members.{find-one, find-nothing}
use Rattle.rt_live.specs.Rows.{by_id, box_at}
use Rattle.rt_live.proofs.Order.{eq_same, eq_from}
use Rattle.rt_live.proofs.Sorted.{at_key, taken, Rises, rises, none_below, at_key-taken}
use Rattle.rt_live.proofs.ById.{id_of, rises-by_id, at_key-by_id, box_at-by_id, same_boxes}

-- ---- lists
append-none : {X : Type 0} (xs ys : List X) → xs ++ ys ≡ [] → (xs ≡ []) × (ys ≡ [])
append-none [] ys e = (refl, e)
append-none (x ∷ xs) ys e = let none : ⊥ = cc in absurd none

all-append : {X : Type 0} (P : X → Type 0) (xs ys : List X) → AllByRecursion P xs → AllByRecursion P ys → AllByRecursion P (xs ++ ys)
all-append P [] ys all more = more
all-append P (x ∷ xs) ys all more = (all.0, all-append P xs ys all.1 more)

module _ {X P : Type 0} (test : X → Bool) (entry : ℕ × X → P) where
  abbrev left : ℕ → List X → List P
  left n xs = failing (λ x. test x.1) entry (enumerate_from n xs)

  passes : (n : ℕ) (x : X) (xs : List X) (b : Bool) → test x ≡ b → map entry (cond (not b) ((n, x) ∷ filter (λ y. not (test y.1)) (enumerate_from (n + 1) xs)) (filter (λ y. not (test y.1)) (enumerate_from (n + 1) xs))) ≡ [] →
      (test x ≡ true) × (left (n + 1) xs ≡ [])
  passes n x xs true is e = (is, e)
  passes n x xs false is e = let none : ⊥ = cc in absurd none

  none-fail : (n : ℕ) (xs : List X) → left n xs ≡ [] → AllByRecursion (λ x. test x ≡ true) xs
  none-fail n [] e = tt
  none-fail n (x ∷ xs) e = let r = passes n x xs (test x) refl e in (r.0, none-fail (n + 1) xs r.1)

module _ {X : Type 0} (p : X → Bool) (P : X → Type 0) where
  found-here : (x y : X) (xs : List X) → AllByRecursion P (y ∷ xs) → (find p xs ≡ Some x → AllByRecursion P xs → (p x ≡ true) × P x) → (b : Bool) → p y ≡ b → cond b (Some y) (find p xs) ≡ Some x → (p x ≡ true) × P x
  found-here x y xs all later true is e = let same : y ≡ x = cc in (ap p (sym same) ∙ is, subst P same all.0)
  found-here x y xs all later false is e = later e all.1

  -- what is found passes, and is as all are
  pub found : (x : X) (xs : List X) → find p xs ≡ Some x → AllByRecursion P xs → (p x ≡ true) × P x
  found x [] e all = let none : ⊥ = cc in absurd none
  found x (y ∷ xs) e all = found-here x y xs all (found x xs) (p y) refl e

find-map-step : {X Y : Type 0} (f : X → Y) (p : Y → Bool) (x : X) (xs : List X) → find p (map f xs) ≡ option_map f (find (λ z. p (f z)) xs) → (b : Bool) →
    cond b (Some (f x)) (find p (map f xs)) ≡ option_map f (cond b (Some x) (find (λ z. p (f z)) xs))
find-map-step f p x xs later true = refl
find-map-step f p x xs later false = later

pub find-map : {X Y : Type 0} (f : X → Y) (p : Y → Bool) (xs : List X) → find p (map f xs) ≡ option_map f (find (λ x. p (f x)) xs)
find-map f p [] = refl
find-map f p (x ∷ xs) = find-map-step f p x xs (find-map f p xs) (p (f x))

module _ {X Y : Type 0} (key : Y → ℤ) (f : X → Y) where
  all-map : (q : ℤ) (xs : List X) → AllByRecursion (λ x. q <ℤ key (f x)) xs → AllByRecursion (λ y. q <ℤ key y) (map f xs)
  all-map q [] all = tt
  all-map q (x ∷ xs) all = (all.0, all-map q xs all.1)

  pub rises-map : (xs : List X) → Rises (λ x. key (f x)) xs → Rises key (map f xs)
  rises-map [] rise = tt
  rises-map (x ∷ xs) rise = (all-map (key (f x)) xs rise.0, rises-map xs rise.1)

-- ---- the cells of the leaves and the row entries
module _ {D : ℕ} (s : ShadowLists D) where
  abbrev IsEntered : RawCell D → Type 0
  IsEntered c = IsSome (entry_of s.rows c.number)

  abbrev leaf_test : NodeRow D → RawCell D → Bool
  leaf_test n c = not (is_leaf n) || has_entry s n c

  some-entry : (node : NodeRow D) (o : Option RowEntry) → option_map_or (λ r. int_eq r.leaf node.number) o false ≡ true → IsSome o
  some-entry node None e = let none : ⊥ = cc in absurd none
  some-entry node (Some r) e = refl

  all-entered : (node : NodeRow D) (cells : List (RawCell D)) → is_leaf node ≡ true → AllByRecursion (λ c. leaf_test node c ≡ true) cells → AllByRecursion IsEntered cells
  all-entered node [] leaf all = tt
  all-entered node (c ∷ cs) leaf all =
      (some-entry node (entry_of s.rows c.number) (subst (λ (b : Bool). (not b || has_entry s node c) ≡ true) leaf all.0), all-entered node cs leaf all.1)

  node-entered : (node : NodeRow D) (b : Bool) → is_leaf node ≡ b → cell_problems_of HasEntry leaf_test node ≡ [] → AllByRecursion IsEntered (cond b node.cells [])
  node-entered node true leaf e =
      all-entered node node.cells leaf (none-fail (leaf_test node) (λ c. record { condition = HasEntry; node = node.number; position = c.0 }) 1 node.cells e)
  node-entered node false leaf e = tt

  entered : (nodes : List (NodeRow D)) → cell_problems HasEntry leaf_test nodes ≡ [] → AllByRecursion IsEntered (leaf_cells nodes)
  entered [] e = tt
  entered (n ∷ ns) e =
      let parts = append-none (cell_problems_of HasEntry leaf_test n) (cell_problems HasEntry leaf_test ns) e in
      all-append IsEntered (cond (is_leaf n) n.cells []) (leaf_cells ns) (node-entered n (is_leaf n) refl parts.0) (entered ns parts.1)

  other-id : (id : ℤ) (c : RawCell D) → entry_of s.rows id ≡ None → IsEntered c → int_eq id c.number ≡ false
  other-id id c none there = elim (cases_Bool (int_eq id c.number)) [
    | inl e ↦
        let some : IsSome (entry_of s.rows id) = subst (λ (z : ℤ). IsSome (entry_of s.rows z)) (sym (eq_from id c.number e)) there in
        let stop : ⊥ = cc in
        absurd stop
    | inr e ↦ e
  ]

  unentered : (id : ℤ) (cells : List (RawCell D)) → entry_of s.rows id ≡ None → AllByRecursion IsEntered cells → times_named id cells ≡ 0
  unentered id [] none all = refl
  unentered id (c ∷ cs) none all =
      let here : ◌≡◌ {A = ℕ} (cond (int_eq id c.number) 1 0) 0 = ap (λ b. cond b 1 0) (other-id id c none all.0) in
      omega (arith, here, count-cons (λ x. int_eq id x.number) c cs, unentered id cs none all.1)

  module _ (shape : IsInShape s) where
    -- the problems of the other conditions, which are listed first
    abbrev of_nodes : List Problem
    of_nodes = root_problems s
        ++ node_problems HasPlace (has_place s) s.nodes
        ++ cell_problems NamesChild (λ n c. is_leaf n || names_child s n c) s.nodes
        ++ cell_problems IsOrdered (λ n c. is_ordered c) s.nodes
        ++ cell_problems HoldsChild (λ n c. is_leaf n || holds_child s c) s.nodes
        ++ cell_problems FitsChild (λ n c. is_leaf n || fits_child s c) s.nodes
        ++ node_problems IsFilled (is_filled s) s.nodes

    last-problems : (cell_problems HasEntry leaf_test s.nodes ≡ []) × (row_problems HasCell (has_cell s) s.rows ≡ [])
    last-problems =
        let all = append-none (of_nodes ++ cell_problems HasEntry leaf_test s.nodes) (row_problems HasCell (has_cell s) s.rows) shape.sound in
        ((append-none of_nodes (cell_problems HasEntry leaf_test s.nodes) all.0).1, all.1)

    have-cells : AllByRecursion (λ r. has_cell s r ≡ true) s.rows
    have-cells = none-fail (has_cell s) (λ r. record { condition = HasCell; node = r.1.leaf; position = r.0 }) 1 s.rows last-problems.1

    times-none : (id : ℤ) → entry_of s.rows id ≡ None → times_named id (leaf_cells s.nodes) ≡ 0
    times-none id none = unentered id (leaf_cells s.nodes) none (entered s.nodes last-problems.0)

    times-some : (id : ℤ) (r : RowEntry) → entry_of s.rows id ≡ Some r → (r.id ≡ id) × (times_named id (leaf_cells s.nodes) ≡ 1)
    times-some id r some =
        let h = found (λ x. int_eq id x.id) (λ x. has_cell s x ≡ true) r s.rows some have-cells in
        let same : id ≡ r.id = eq_from id r.id h.0 in
        (sym same, subst (λ (z : ℤ). times_named z (leaf_cells s.nodes) ≡ 1) (sym same) (eqb-true (times_named r.id (leaf_cells s.nodes)) 1 h.1))

    counted : (id : ℤ) → count_by (λ (r : Row D). int_eq id r.id) (rows_of s) ≡ times_named id (leaf_cells s.nodes)
    counted id = count-mapped (λ (r : Row D). int_eq id r.id) row_in (λ c. int_eq id c.number) (leaf_cells s.nodes) (λ i d h. refl)

    -- an id is that of one row at most
    pub few-have : (id : ℤ) → count_by (λ (r : Row D). int_eq id r.id) (rows_of s) ≤ 1
    few-have id = by (entry_of s.rows id) refl
      where
        by : (o : Option RowEntry) → entry_of s.rows id ≡ o → count_by (λ (r : Row D). int_eq id r.id) (rows_of s) ≤ 1
        by None e = omega (arith, counted id, times-none id e)
        by (Some r) e = omega (arith, counted id, (times-some id r e).1)

    -- where no entry is, no row is
    pub row-none : (id : ℤ) → entry_of s.rows id ≡ None → find (λ (r : Row D). int_eq id r.id) (rows_of s) ≡ None
    row-none id none = find-nothing (λ (r : Row D). int_eq id r.id) (rows_of s) (counted id ∙ times-none id none)

    -- an entry's row
    pub row-some : (id : ℤ) (e : RowEntry) → entry_of s.rows id ≡ Some e → (r : Row D) × (r.id ≡ id) × (find (λ (x : Row D). int_eq id x.id) (rows_of s) ≡ Some r)
    row-some id e some =
        let h = counted-contained (λ (r : Row D). int_eq id r.id) (rows_of s) (omega (arith, counted id, (times-some id e some).1)) in
        (h.0, sym (eq_from id h.0.id h.2), find-one (λ (r : Row D). int_eq id r.id) (rows_of s) h.0 h.1 h.2 (few-have id))

module _ {X : Type 0} (key : X → ℤ) where
  -- no key is there twice
  abbrev pub AreUnique : List X → Type 0
  AreUnique xs = (q : ℤ) → count_by (λ x. int_eq q (key x)) xs ≤ 1

  -- nor at its key later on
  abbrev pub Distinct : List X → Type 0
  Distinct [] = Unit {0}
  Distinct (x ∷ xs) = (at_key key xs (key x) ≡ None) × Distinct xs

  distinct : (xs : List X) → AreUnique xs → Distinct xs
  distinct [] unique = tt
  distinct (x ∷ xs) unique =
      let here : ◌≡◌ {A = ℕ} (cond (int_eq (key x) (key x)) 1 0) 1 = ap (λ b. cond b 1 0) (eq_same (key x)) in (
        find-nothing (λ y. int_eq (key x) (key y)) xs (omega (arith, here, unique (key x), count-cons (λ y. int_eq (key x) (key y)) x xs)),
        distinct xs (λ q. omega (arith, unique q, count-cons (λ y. int_eq q (key y)) x xs)),
      )

  none-either : (b : Bool) → ◌≡◌ {A = Option X} (cond b None None) None
  none-either true = refl
  none-either false = refl

  absent-step : (k : ℤ) (x : X) (xs : List X) → (at_key key xs k ≡ None → taken key xs k ≡ xs) → (b : Bool) → cond b (Some x) (at_key key xs k) ≡ None →
      cond (not b) (x ∷ taken key xs k) (taken key xs k) ≡ x ∷ xs
  absent-step k x xs later true e = let none : ⊥ = cc in absurd none
  absent-step k x xs later false e = ap (λ ys. x ∷ ys) (later e)

  taken-absent : (k : ℤ) (xs : List X) → at_key key xs k ≡ None → taken key xs k ≡ xs
  taken-absent k [] e = refl
  taken-absent k (x ∷ xs) e = absent-step k x xs (taken-absent k xs) (int_eq k (key x)) e

  distinct-step : (k : ℤ) (x : X) (xs : List X) → at_key key xs (key x) ≡ None → Distinct (taken key xs k) → (b : Bool) → Distinct (cond (not b) (x ∷ taken key xs k) (taken key xs k))
  distinct-step k x xs alone later true = later
  distinct-step k x xs alone later false =
      (at_key-taken key xs k (key x) ∙ ap (λ (o : Option X). cond (not (int_eq k (key x))) o None) alone ∙ none-either (not (int_eq k (key x))), later)

  distinct-taken : (k : ℤ) (xs : List X) → Distinct xs → Distinct (taken key xs k)
  distinct-taken k [] d = tt
  distinct-taken k (x ∷ xs) d = distinct-step k x xs d.0 (distinct-taken k xs d.1) (int_eq k (key x))

  module _ (test : X → Bool) where
    count-step : (k : ℤ) (x y : X) (xs : List X) → at_key key xs (key x) ≡ None →
        (at_key key xs k ≡ Some y → count_by test xs ≡ cond (test y) 1 0 + count_by test (taken key xs k)) → (b : Bool) → int_eq k (key x) ≡ b → cond b (Some x) (at_key key xs k) ≡ Some y →
        count_by test (x ∷ xs) ≡ cond (test y) 1 0 + count_by test (cond (not b) (x ∷ taken key xs k) (taken key xs k))
    count-step k x y xs alone later true is e =
        let same : x ≡ y = cc in
        let absent : at_key key xs k ≡ None = subst (λ (z : ℤ). at_key key xs z ≡ None) (sym (eq_from k (key x) is)) alone in
        count-cons test x xs ∙ ap (λ (z : X). cond (test z) 1 0 + count_by test xs) same ∙ ap (λ (zs : List X). cond (test y) 1 0 + count_by test zs) (sym (taken-absent k xs absent))
    count-step k x y xs alone later false is e = omega (arith, count-cons test x xs, count-cons test x (taken key xs k), later e)

    count-taken : (k : ℤ) (y : X) (xs : List X) → Distinct xs → at_key key xs k ≡ Some y → count_by test xs ≡ cond (test y) 1 0 + count_by test (taken key xs k)
    count-taken k y [] d e = let none : ⊥ = cc in absurd none
    count-taken k y (x ∷ xs) d e = count-step k x y xs d.0 (count-taken k y xs d.1) (int_eq k (key x)) refl e

    other-way : (k q : ℤ) → int_eq k q ≡ false → int_eq q k ≡ false
    other-way k q e = elim (cases_Bool (int_eq q k)) [
      | inl same ↦
          let again : int_eq k q ≡ true = ap (int_eq k) (eq_from q k same) ∙ eq_same k in
          let none : ⊥ = cc in
          absurd none
      | inr other ↦ other
    ]

    rest-at : (y : X) (xs ys : List X) → Rises key (y ∷ ys) → ((q : ℤ) → at_key key xs q ≡ at_key key (y ∷ ys) q) → (q : ℤ) → (b : Bool) → int_eq (key y) q ≡ b →
        cond (not b) (at_key key xs q) None ≡ at_key key ys q
    rest-at y xs ys rise at q true is = subst (λ (z : ℤ). None ≡ at_key key ys z) (eq_from (key y) q is) (sym (none_below key ys (key y) rise.0))
    rest-at y xs ys rise at q false is = at q ∙ ap (λ (c : Bool). cond c (Some y) (at_key key ys q)) (other-way (key y) q is)

    -- lists that have the same at each key
    pub same-counts : (xs ys : List X) → Distinct xs → Rises key ys → ((q : ℤ) → at_key key xs q ≡ at_key key ys q) → count_by test xs ≡ count_by test ys
    same-counts [] [] d rise at = refl
    same-counts (x ∷ xs) [] d rise at =
        let some : Some x ≡ None = sym (ap (λ (c : Bool). cond c (Some x) (at_key key xs (key x))) (eq_same (key x))) ∙ at (key x) in
        let none : ⊥ = cc in
        absurd none
    same-counts xs (y ∷ ys) d rise at =
        let here : at_key key xs (key y) ≡ Some y = at (key y) ∙ ap (λ (c : Bool). cond c (Some y) (at_key key ys (key y))) (eq_same (key y)) in
        let rest = same-counts (taken key xs (key y)) ys (distinct-taken (key y) xs d) rise.1
        (λ q. at_key-taken key xs (key y) q ∙ rest-at y xs ys rise at q (int_eq (key y) q) refl) in
        omega (arith, count-taken (key y) y xs d here, rest, count-cons test y ys)

count-all : {X : Type 0} (xs : List X) → count_by (λ x. true) xs ≡ length xs
count-all [] = refl
count-all (x ∷ xs) = omega (arith, count-cons (λ x. true) x xs, count-all xs)

module _ {D : ℕ} (s : ShadowLists D) (shape : IsInShape s) where
  -- as many rows pass each test
  pub by_id-counts : (test : Row D → Bool) → count_by test (rows_of s) ≡ count_by test (by_id (rows_of s))
  by_id-counts test =
      same-counts id_of test (rows_of s) (by_id (rows_of s)) (distinct id_of (rows_of s) (few-have s shape)) (rises-by_id (rows_of s)) (λ q. sym (at_key-by_id (rows_of s) q))

  -- the row of an entry
  abbrev entered_row : RowEntry → Row D
  entered_row e = record { id = e.id; rect = unwrap_or (box_of s e.id) [] }

  entered-box : (q : ℤ) → box_at (map entered_row s.rows) q ≡ box_of s q
  entered-box q = ap (option_map (λ (r : Row D). r.rect)) (find-map entered_row (λ (r : Row D). int_eq q r.id) s.rows) ∙ by (entry_of s.rows q) refl
    where
      by : (o : Option RowEntry) → entry_of s.rows q ≡ o → option_map (λ (r : Row D). r.rect) (option_map entered_row o) ≡ box_of s q
      by None e = sym (ap (option_map (λ (r : Row D). r.rect)) (row-none s shape q e))
      by (Some x) e =
          let h = row-some s shape q x e in
          let box : box_of s q ≡ Some h.0.rect = ap (option_map (λ (r : Row D). r.rect)) h.2 in
          ap (λ (z : ℤ). Some (unwrap_or (box_of s z) [])) (times-some s shape q x e).0
          ∙ ap (λ (o : Option (List Interval)). Some (unwrap_or o [])) box
          ∙ sym box

  pub entries-by_id : map entered_row s.rows ≡ by_id (rows_of s)
  entries-by_id =
      same_boxes (map entered_row s.rows) (by_id (rows_of s)) (rises-map id_of entered_row s.rows (rises (λ (e : RowEntry). e.id) s.rows shape.rising)) (rises-by_id (rows_of s))
      (λ q. entered-box q ∙ sym (box_at-by_id (rows_of s) q))

  pub length-by_id : length (by_id (rows_of s)) ≡ length s.rows
  length-by_id = ap length (sym entries-by_id) ∙ length-map s.rows entered_row
