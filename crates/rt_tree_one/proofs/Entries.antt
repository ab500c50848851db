-- The row entries of sound lists are determined by the nodes.
use Rattle.std.proofs.Common.{◌≡◌, ◌⊎◌, inl, inr, ℕ, suc, ◌+◌, ◌<◌, ℤ, Bool, true, false, not, ◌||◌, cond, List, [], ◌∷◌, ◌++◌, map, length, get_or, Option, Some, None, refl, sym, ap, ◌∙◌, subst, arith}
use Rattle.std.specs.Prelude.{filter, ◌<ℤ◌}
use Rattle.std.specs.List.{enumerate_from}
use Rattle.std.specs.Option.{option_map_or}
use Rattle.std.specs.Ordering.{int_eq}
use Rattle.std.proofs.lemmas.Bool.{cases_Bool, cases_lt, eqb-true}
use Rattle.std.proofs.lemmas.Option.{same_Some}
use Rattle.std.proofs.lemmas.Bool.Decides.{Decides-int_eq}
use Rattle.std.proofs.lemmas.Int.{ints}
use Rattle.rt_check.specs.declared.node.NodeRow.{NodeRow}
use Rattle.rt_check.specs.declared.node.RawCell.{RawCell}
use Rattle.rt_check.specs.declared.node.RowEntry.{RowEntry}
use Rattle.rt_check.specs.declared.problem.Problem.{Problem}
use Rattle.rt_check.specs.declared.problem.Condition.TheVariants.{HasPlace, NamesChild, IsOrdered, HoldsChild, FitsChild, IsFilled, HasEntry, HasCell}
use Rattle.rt_check.specs.Shadow.{ShadowLists}
use Rattle.rt_check.specs.Conditions.{is_leaf, names_child, is_ordered, holds_child, fits_child, is_filled, has_place, has_entry, has_cell, entry_of, leaf_cells, times_named, failing, root_problems, node_problems, cell_problems, cell_problems_of, row_problems, IsSound}
use Rattle.rt_tree_node.proofs.Counts.{count-cons, count-append}
use Rattle.rt_tree_outside.specs.InOrder.{AreByRisingId}
use Rattle.rt_tree_one.specs.Laws.{RowsAreDetermined}

abbrev entry : ℤ → ℤ → RowEntry
entry id leaf = record { id = id; leaf = leaf }

pub append-none : {X : Type 0} (xs ys : List X) → xs ++ ys ≡ [] → (xs ≡ []) × (ys ≡ [])
append-none [] ys e = (refl, e)
append-none (x ∷ xs) ys e = let none : ⊥ = cc in absurd none

module _ {X : Type 0} where
  abbrev pub Each : (X → Type 0) → List X → Type 0
  Each P [] = Unit {0}
  Each P (x ∷ xs) = P x × Each P xs

  abbrev pub In : X → List X → Type 0
  In x [] = ⊥
  In x (y ∷ ys) = (y ≡ x) ⊎ In x ys

  pub each_in : (P : X → Type 0) (x : X) (xs : List X) → Each P xs → In x xs → P x
  each_in P x [] all here = absurd here
  each_in P x (y ∷ xs) all (inl e) = subst P e all.0
  each_in P x (y ∷ xs) all (inr later) = each_in P x xs all.1 later

module _ {X P : Type 0} (test : X → Bool) (entry : ℕ × X → P) where
  abbrev left : ℕ → List X → List P
  left n xs = failing (λ x. test x.1) entry (enumerate_from n xs)

  passes : (n : ℕ) (x : X) (xs : List X) (b : Bool) → test x ≡ b →
      map entry (cond (not b) ((n, x) ∷ filter (λ y. not (test y.1)) (enumerate_from (n + 1) xs)) (filter (λ y. not (test y.1)) (enumerate_from (n + 1) xs))) ≡ [] →
      (test x ≡ true) × (left (n + 1) xs ≡ [])
  passes n x xs true is e = (is, e)
  passes n x xs false is e = let none : ⊥ = cc in absurd none

  pub none-fail : (n : ℕ) (xs : List X) → left n xs ≡ [] → Each (λ x. test x ≡ true) xs
  none-fail n [] e = tt
  none-fail n (x ∷ xs) e = let r = passes n x xs (test x) refl e in (r.0, none-fail (n + 1) xs r.1)

pub same_int : (x y : ℤ) → int_eq x y ≡ true → x ≡ y
same_int x y e = (Decides-int_eq x y).0 e

int_same : (x y : ℤ) → x ≡ y → int_eq x y ≡ true
int_same x y e = (Decides-int_eq x y).1 e

-- ---- entries by rising id
abbrev Rises : List RowEntry → Type 0
Rises [] = Unit {0}
Rises (r ∷ rs) = Each (λ s. r.id <ℤ s.id) rs × Rises rs

each_get : {X : Type 0} (P : X → Type 0) (xs : List X) → ((j : ℕ) (d : X) → j < length xs → P (get_or xs j d)) → Each P xs
each_get P [] all = tt
each_get P (x ∷ xs) all = (all 0 x (omega arith), each_get P xs (λ j d within. all (suc j) d (omega arith)))

rises : (rs : List RowEntry) → AreByRisingId rs → Rises rs
rises [] rising = tt
rises (r ∷ rs) rising = (
  each_get (λ s. r.id <ℤ s.id) rs (λ j d within. rising 0 (suc j) d (omega arith) (omega arith)),
  rises rs (λ i j d less within. rising (suc i) (suc j) d (omega arith) (omega arith)),
)

not_less : (r s : RowEntry) → r.id <ℤ s.id → r ≡ s → ⊥
not_less r s less e = let h : r.id <ℤ r.id = subst (λ (x : RowEntry). r.id <ℤ x.id) (sym e) less in omega (arith, ints)

-- the same entries in the same order
same_entries : (rs ss : List RowEntry) → Rises rs → Rises ss → ((r : RowEntry) → In r rs → In r ss) → ((r : RowEntry) → In r ss → In r rs) → rs ≡ ss
same_entries [] [] rising risen to back = refl
same_entries [] (s ∷ ss) rising risen to back = absurd (back s (inl refl))
same_entries (r ∷ rs) [] rising risen to back = absurd (to r (inl refl))
same_entries (r ∷ rs) (s ∷ ss) rising risen to back =
    let head : r ≡ s = elim (to r (inl refl)) [
      | inl e ↦ sym e
      | inr later ↦ elim (back s (inl refl)) [
        | inl e ↦ e
        | inr too ↦
            let a = each_in (λ x. s.id <ℤ x.id) r ss risen.0 later in
            let b = each_in (λ x. r.id <ℤ x.id) s rs rising.0 too in
            absurd (omega (arith, ints))
      ]
    ] in
    let tail = same_entries rs ss rising.1 risen.1
    (λ x here. elim (to x (inr here)) [
      | inl e ↦ absurd (not_less r x (each_in (λ y. r.id <ℤ y.id) x rs rising.0 here) (head ∙ e))
      | inr later ↦ later
    ])
    (λ x here. elim (back x (inr here)) [
      | inl e ↦ absurd (not_less s x (each_in (λ y. s.id <ℤ y.id) x ss risen.0 here) (sym head ∙ e))
      | inr later ↦ later
    ]) in
    cc

find_step : (id : ℤ) (r s : RowEntry) (rs : List RowEntry) (b : Bool) → int_eq id s.id ≡ b → cond b (Some s) (entry_of rs id) ≡ Some r →
    (entry_of rs id ≡ Some r → In r rs × (r.id ≡ id)) → In r (s ∷ rs) × (r.id ≡ id)
find_step id r s rs true is e later = let same : s ≡ r = cc in (inl same, ap (λ (x : RowEntry). x.id) (sym same) ∙ sym (same_int id s.id is))
find_step id r s rs false is e later = let more = later e in (inr more.0, more.1)

-- what is found is there
pub found : (id : ℤ) (r : RowEntry) (rs : List RowEntry) → entry_of rs id ≡ Some r → In r rs × (r.id ≡ id)
found id r [] e = let none : ⊥ = cc in absurd none
found id r (s ∷ rs) e = find_step id r s rs (int_eq id s.id) refl e (found id r rs)

-- what is there is found
find_in : (r : RowEntry) (rs : List RowEntry) → Rises rs → In r rs → entry_of rs r.id ≡ Some r
find_in r [] rising here = absurd here
find_in r (s ∷ rs) rising (inl e) =
    let is : int_eq r.id s.id ≡ true = int_same r.id s.id (ap (λ (x : RowEntry). x.id) (sym e)) in
    ap (λ (b : Bool). cond b (Some s) (entry_of rs r.id)) is ∙ ap Some e
find_in r (s ∷ rs) rising (inr later) =
    let less = each_in (λ x. s.id <ℤ x.id) r rs rising.0 later in
    let is : int_eq r.id s.id ≡ false = elim (cases_Bool (int_eq r.id s.id)) [
      | inl same ↦ let e = same_int r.id s.id same in absurd (omega (arith, ints))
      | inr differs ↦ differs
    ] in
    ap (λ (b : Bool). cond b (Some s) (entry_of rs r.id)) is ∙ find_in r rs rising.1 later

same_entry : (r x : RowEntry) → r.id ≡ x.id → r.leaf ≡ x.leaf → r ≡ x
same_entry r x p q = ap (λ (z : ℤ). entry z r.leaf) p ∙ ap (λ (z : ℤ). entry x.id z) q

-- ---- the cells of the leaves
module _ {D : ℕ} where
  abbrev pub HasId : ℤ → List (RawCell D) → Type 0
  HasId id [] = ⊥
  HasId id (c ∷ cs) = (c.number ≡ id) ⊎ HasId id cs

  -- a leaf of that number has a cell of that id
  abbrev pub AtLeaf : List (NodeRow D) → ℤ → ℤ → Type 0
  AtLeaf [] id leaf = ⊥
  AtLeaf (n ∷ ns) id leaf = ((is_leaf n ≡ true) × (n.number ≡ leaf) × HasId id n.cells) ⊎ AtLeaf ns id leaf

  counted_id : (id : ℤ) (cells : List (RawCell D)) → 0 < times_named id cells → HasId id cells
  counted_id id [] some = absurd (omega arith)
  counted_id id (c ∷ cs) some = elim (cases_Bool (int_eq id c.number)) [
    | inl same ↦ inl (sym (same_int id c.number same))
    | inr differs ↦
        let none : ◌≡◌ {A = ℕ} (cond (int_eq id c.number) 1 0) 0 = ap (λ b. cond b 1 0) differs in
        inr (counted_id id cs (omega (arith, count-cons (λ (x : RawCell D). int_eq id x.number) c cs)))
  ]

  in_leaf : (id : ℤ) (n : NodeRow D) (ns : List (NodeRow D)) (b : Bool) → is_leaf n ≡ b → 0 < times_named id (cond b n.cells [] ++ leaf_cells ns) →
      (0 < times_named id (leaf_cells ns) → (leaf : ℤ) × AtLeaf ns id leaf) → (leaf : ℤ) × AtLeaf (n ∷ ns) id leaf
  in_leaf id n ns false is some later = let found = later some in (found.0, inr found.1)
  in_leaf id n ns true is some later = elim (cases_lt 0 (times_named id n.cells)) [
    | inl here ↦ (n.number, inl (is, refl, counted_id id n.cells here))
    | inr none ↦
        let found = later (omega (arith, count-append (λ (x : RawCell D). int_eq id x.number) n.cells (leaf_cells ns))) in
        (found.0, inr found.1)
  ]

  pub counted_leaf : (id : ℤ) (nodes : List (NodeRow D)) → 0 < times_named id (leaf_cells nodes) → (leaf : ℤ) × AtLeaf nodes id leaf
  counted_leaf id [] some = absurd (omega arith)
  counted_leaf id (n ∷ ns) some = in_leaf id n ns (is_leaf n) refl some (counted_leaf id ns)

  module _ (s : ShadowLists D) where
    abbrev leaf_test : NodeRow D → RawCell D → Bool
    leaf_test n c = not (is_leaf n) || has_entry s n c

    -- the entry of the id leads to the leaf
    abbrev LeadsThere : ℤ → ℤ → Type 0
    LeadsThere id leaf = option_map_or (λ r. int_eq r.leaf leaf) (entry_of s.rows id) false ≡ true

    cell_leads : (n : NodeRow D) (id : ℤ) (cells : List (RawCell D)) → is_leaf n ≡ true → Each (λ c. leaf_test n c ≡ true) cells → HasId id cells → LeadsThere id n.number
    cell_leads n id [] leaf all here = absurd here
    cell_leads n id (c ∷ cs) leaf all (inl e) =
        let has : has_entry s n c ≡ true = subst (λ (b : Bool). (not b || has_entry s n c) ≡ true) leaf all.0 in
        subst (λ (z : ℤ). LeadsThere z n.number) e has
    cell_leads n id (c ∷ cs) leaf all (inr later) = cell_leads n id cs leaf all.1 later

    leads : (nodes : List (NodeRow D)) (id leaf : ℤ) → cell_problems HasEntry leaf_test nodes ≡ [] → AtLeaf nodes id leaf → LeadsThere id leaf
    leads [] id leaf e here = absurd here
    leads (n ∷ ns) id leaf e (inl here) =
        let parts = append-none (cell_problems_of HasEntry leaf_test n) (cell_problems HasEntry leaf_test ns) e in
        let all = none-fail (leaf_test n) (λ c. record { condition = HasEntry; node = n.number; position = c.0 }) 1 n.cells parts.0 in
        subst (LeadsThere id) here.1 (cell_leads n id n.cells here.0 all here.2)
    leads (n ∷ ns) id leaf e (inr later) =
        leads ns id leaf (append-none (cell_problems_of HasEntry leaf_test n) (cell_problems HasEntry leaf_test ns) e).1 later

    entry_is : (leaf : ℤ) (o : Option RowEntry) → option_map_or (λ r. int_eq r.leaf leaf) o false ≡ true → (r : RowEntry) × (o ≡ Some r) × (r.leaf ≡ leaf)
    entry_is leaf None e = let none : ⊥ = cc in absurd none
    entry_is leaf (Some r) e = (r, refl, same_int r.leaf leaf e)

    abbrev pub of_nodes : List Problem
    of_nodes = root_problems s
        ++ node_problems HasPlace (has_place s) s.nodes
        ++ cell_problems NamesChild (λ n c. is_leaf n || names_child s n c) s.nodes
        ++ cell_problems IsOrdered (λ n c. is_ordered c) s.nodes
        ++ cell_problems HoldsChild (λ n c. is_leaf n || holds_child s c) s.nodes
        ++ cell_problems FitsChild (λ n c. is_leaf n || fits_child s c) s.nodes
        ++ node_problems IsFilled (is_filled s) s.nodes

    last_problems : IsSound s → (cell_problems HasEntry leaf_test s.nodes ≡ []) × (row_problems HasCell (has_cell s) s.rows ≡ [])
    last_problems sound =
        let all = append-none (of_nodes ++ cell_problems HasEntry leaf_test s.nodes) (row_problems HasCell (has_cell s) s.rows) sound in
        ((append-none of_nodes (cell_problems HasEntry leaf_test s.nodes) all.0).1, all.1)

    pub have_cells : IsSound s → Each (λ r. has_cell s r ≡ true) s.rows
    have_cells sound = none-fail (has_cell s) (λ r. record { condition = HasCell; node = r.1.leaf; position = r.0 }) 1 s.rows (last_problems sound).1

    -- the entry of a leaf's cell
    pub entry_at : IsSound s → (id leaf : ℤ) → AtLeaf s.nodes id leaf → (r : RowEntry) × (entry_of s.rows id ≡ Some r) × (r.leaf ≡ leaf)
    entry_at sound id leaf here = entry_is leaf (entry_of s.rows id) (leads s.nodes id leaf (last_problems sound).0 here)

  -- an entry of the one is one of the other
  moves : (s t : ShadowLists D) → IsSound s → IsSound t → Rises s.rows → s.nodes ≡ t.nodes → (r : RowEntry) → In r s.rows → In r t.rows
  moves s t sound sound_too rising nodes r here =
      let has = each_in (λ x. has_cell s x ≡ true) r s.rows (have_cells s sound) here in
      let one : times_named r.id (leaf_cells s.nodes) ≡ 1 = eqb-true _ _ has in
      let cell = counted_leaf r.id s.nodes (omega arith) in
      let own = entry_at s sound r.id cell.0 cell.1 in
      let is = find_in r s.rows rising here in
      let same : own.0 ≡ r = same_Some own.0 r (sym own.1 ∙ is) in
      let other = entry_at t sound_too r.id cell.0 (subst (λ (ns : List (NodeRow D)). AtLeaf ns r.id cell.0) nodes cell.1) in
      let there = found r.id other.0 t.rows other.1 in
      let equal = same_entry other.0 r there.1 (other.2 ∙ sym own.2 ∙ ap (λ (x : RowEntry). x.leaf) same) in
      subst (λ (x : RowEntry). In x t.rows) equal there.0

pub determined : RowsAreDetermined
determined axes one other sound sound_too rising rising_too nodes =
    same_entries one.rows other.rows (rises one.rows rising) (rises other.rows rising_too)
    (moves one other sound sound_too (rises one.rows rising) nodes) (moves other one sound_too sound (rises other.rows rising_too) (sym nodes))
