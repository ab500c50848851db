-- Lemmas on how often cells name numbers.
use Rattle.std.proofs.Common.{◌≡◌, ℕ, zero, suc, ◌+◌, ◌<◌, min, ◌==◌, ℤ, List, [], ◌∷◌, ◌++◌, Bool, true, false, not, cond, map, refl, sym, ◌∙◌, ap, subst, length, get_or, set, take, replicate, arith, append-nil}
use Rattle.std.proofs.lemmas.List.{take_more}
use Rattle.std.proofs.lemmas.List.Sums.{sum_by-append}
use Rattle.std.proofs.lemmas.Grind.{flat_map-append}
use Rattle.std.proofs.lemmas.Map.Keys.{IsDistinct-head, IsDistinct-tail}
use Rattle.std.proofs.lemmas.Bool.Decides.{Decides-int_eq}
use Rattle.std.specs.List.{IsDistinct, AllByRecursion, list_any}
use Rattle.std.specs.Ordering.{int_eq}
use Rattle.rt_check.specs.declared.node.RawCell.{RawCell}
use Rattle.rt_check.specs.declared.node.NodeRow.{NodeRow}
use Rattle.rt_check.specs.Conditions.{times_named, is_leaf, leaf_cells, inner_cells}
use Rattle.rt_check.specs.Tally.{tallies, are_named_by_leaves, cells_naming}
use Rattle.rt_check.specs.declared.tally.Named.{Named}
use Rattle.rt_check.specs.declared.tally.Named.TheVariants.{Nodes, Rows}
use Rattle.rt_check.proofs.Known.{same_number}

-- two numbers that differ do so either way round
pub differ-back : (x y : ℤ) → int_eq x y ≡ false → int_eq y x ≡ false
differ-back x y e =
    let same : (b : Bool) → int_eq y x ≡ b → int_eq y x ≡ false = elim [
      | true ↦ λ h. let swapped : int_eq y y ≡ false = subst (λ (z : ℤ). int_eq z y ≡ false) (sym (same_number y x h)) e in
          let self : int_eq y y ≡ true = (Decides-int_eq y y).1 refl in
          let none : false ≡ true = sym swapped ∙ self in
          cc
      | false ↦ λ h. h
    ] in
    same (int_eq y x) refl

-- a number that differs from all differs from each
pub differs-at : (k : ℤ) (ks : List ℤ) (at : ℕ) (d : ℤ) → AllByRecursion (λ y. int_eq k y ≡ false) ks → at < length ks → int_eq k (get_or ks at d) ≡ false
differs-at k [] at d all within = let none : ⊥ = omega arith in absurd none
differs-at k (x ∷ xs) zero d all within = all.0
differs-at k (x ∷ xs) (suc at) d all within = let inside : at < length xs = omega (arith, within) in differs-at k xs at d all.1 inside

-- a list without a number differs from it throughout
pub absent-differs : (number : ℤ) (ks : List ℤ) → list_any (int_eq number) ks ≡ false → AllByRecursion (λ k. int_eq k number ≡ false) ks
absent-differs number [] e = tt
absent-differs number (k ∷ ks) e =
    let first : int_eq number k ≡ false = grind (arith, e) in
    let rest : list_any (int_eq number) ks ≡ false = grind (arith, e) in
    (differ-back number k first, absent-differs number ks rest)

-- with no cells no number is named
tallies-none : (D : ℕ) (ks : List ℤ) → replicate (length ks) 0 ≡ tallies {D = D} ks []
tallies-none D [] = refl
tallies-none D (k ∷ ks) = ap (λ l. 0 ∷ l) (tallies-none D ks)

pub tallies-start : (D : ℕ) (named : Named) (ks : List ℤ) (n : ℕ) → n ≡ length ks → replicate n 0 ≡ tallies {D = D} ks (cells_naming named [])
tallies-start D Rows ks n e = ap (λ m. replicate m 0) e ∙ tallies-none D ks
tallies-start D Nodes ks n e = ap (λ m. replicate m 0) e ∙ tallies-none D ks

-- a tally is 1 exactly where one cell names the number
pub tally-one : (n t : ℕ) → t ≡ min 2 n → t ≡ 1 → (n == 1) ≡ true
tally-one n t e one = let same : n ≡ 1 = omega (arith, e, one) in ap (λ m. m == 1) same

pub tally-other : (n t : ℕ) → t ≡ min 2 n → (t ≡ 1 → ⊥) → (n == 1) ≡ false
tally-other n t e other = let differs : n ≡ 1 → ⊥ = λ same. other (e ∙ ap (min 2) same) in grind (arith, differs)

module _ {D : ℕ} where
  -- one cell more
  times_named-more : (number : ℤ) (cells : List (RawCell D)) (cell : RawCell D)
      → times_named number (cells ++ cell ∷ []) ≡ times_named number cells + cond (int_eq number cell.number) 1 0
  times_named-more number cells cell =
      let split = sum_by-append (λ c. cond (int_eq number c.number) 1 0) cells (cell ∷ []) in
      omega (arith, split)

  -- a cell that names none of the numbers changes no tally
  pub tallies-same : (ks : List ℤ) (cells : List (RawCell D)) (cell : RawCell D) → AllByRecursion (λ k. int_eq k cell.number ≡ false) ks
      → tallies ks cells ≡ tallies ks (cells ++ cell ∷ [])
  tallies-same [] cells cell all = refl
  tallies-same (k ∷ ks) cells cell all =
      let more : times_named k (cells ++ cell ∷ []) ≡ times_named k cells + cond false 1 0 =
      times_named-more k cells cell ∙ ap (λ b. times_named k cells + cond b 1 0) all.0 in
      let same : min 2 (times_named k cells) ≡ min 2 (times_named k (cells ++ cell ∷ [])) = ap (min 2) (omega (arith, more)) in
      ap (λ n. n ∷ tallies ks cells) same ∙ ap (λ l. min 2 (times_named k (cells ++ cell ∷ [])) ∷ l) (tallies-same ks cells cell all.1)

  -- a cell that names the number at a place raises the tally there
  pub tallies-raised : (ks : List ℤ) (cells : List (RawCell D)) (cell : RawCell D) (at : ℕ) (d : ℤ) → IsDistinct int_eq ks → at < length ks
      → get_or ks at d ≡ cell.number
      → set (tallies ks cells) at (min 2 (get_or (tallies ks cells) at 0 + 1)) ≡ tallies ks (cells ++ cell ∷ [])
  tallies-raised [] cells cell at d distinct within e = let none : ⊥ = omega arith in absurd none
  tallies-raised (k ∷ ks) cells cell zero d distinct within e =
      let named : int_eq k cell.number ≡ true = (Decides-int_eq k cell.number).1 e in
      let more : times_named k (cells ++ cell ∷ []) ≡ times_named k cells + cond true 1 0 =
      times_named-more k cells cell ∙ ap (λ b. times_named k cells + cond b 1 0) named in
      let raised : min 2 (min 2 (times_named k cells) + 1) ≡ min 2 (times_named k (cells ++ cell ∷ [])) = omega (arith, more) in
      let others : AllByRecursion (λ y. int_eq y cell.number ≡ false) ks = back k e ks (IsDistinct-head int_eq k ks distinct) in
      ap (λ n. n ∷ tallies ks cells) raised ∙ ap (λ l. min 2 (times_named k (cells ++ cell ∷ [])) ∷ l) (tallies-same ks cells cell others)
    where
      back : (k : ℤ) → k ≡ cell.number → (ks : List ℤ) → AllByRecursion (λ y. int_eq k y ≡ false) ks → AllByRecursion (λ y. int_eq y cell.number ≡ false) ks
      back k e [] all = tt
      back k e (y ∷ ys) all = (subst (λ (z : ℤ). int_eq y z ≡ false) e (differ-back k y all.0), back k e ys all.1)
  tallies-raised (k ∷ ks) cells cell (suc at) d distinct within e =
      let inside : at < length ks = omega (arith, within) in
      let other : int_eq k cell.number ≡ false =
      subst (λ (z : ℤ). int_eq k z ≡ false) e (differs-at k ks at d (IsDistinct-head int_eq k ks distinct) inside) in
      let more : times_named k (cells ++ cell ∷ []) ≡ times_named k cells + cond false 1 0 =
      times_named-more k cells cell ∙ ap (λ b. times_named k cells + cond b 1 0) other in
      let same : min 2 (times_named k cells) ≡ min 2 (times_named k (cells ++ cell ∷ [])) = ap (min 2) (omega (arith, more)) in
      ap (λ n. n ∷ set (tallies ks cells) at (min 2 (get_or (tallies ks cells) at 0 + 1))) same
      ∙ ap (λ l. min 2 (times_named k (cells ++ cell ∷ [])) ∷ l) (tallies-raised ks cells cell at d (IsDistinct-tail int_eq k ks distinct) inside e)

  -- the tally of the element at i
  pub tallies-at : {X : Type 0} (key : X → ℤ) (xs : List X) (cells : List (RawCell D)) (i : ℕ) (d : X) → i < length xs
      → get_or (tallies (map key xs) cells) i 0 ≡ min 2 (times_named (key (get_or xs i d)) cells)
  tallies-at key [] cells i d within = let none : ⊥ = omega arith in absurd none
  tallies-at key (x ∷ xs) cells zero d within = refl
  tallies-at key (x ∷ xs) cells (suc i) d within = let inside : i < length xs = omega (arith, within) in tallies-at key xs cells i d inside

  -- one node more adds its cells, if it is of the wanted kind
  pub cells_naming-more : (named : Named) (nodes : List (NodeRow D)) (i : ℕ) (d : NodeRow D) → i < length nodes → is_leaf (get_or nodes i d) ≡ are_named_by_leaves named
      → cells_naming named (take (i + 1) nodes) ≡ cells_naming named (take i nodes) ++ (get_or nodes i d).cells
  cells_naming-more Rows nodes i d within e =
      ap leaf_cells (take_more nodes i d within) ∙ flat_map-append (λ n. cond (is_leaf n) n.cells []) (take i nodes) (get_or nodes i d ∷ [])
      ∙ ap (λ l. leaf_cells (take i nodes) ++ l) (append-nil _ ∙ ap (λ b. cond b (get_or nodes i d).cells []) e)
  cells_naming-more Nodes nodes i d within e =
      ap inner_cells (take_more nodes i d within) ∙ flat_map-append (λ n. cond (is_leaf n) [] n.cells) (take i nodes) (get_or nodes i d ∷ [])
      ∙ ap (λ l. inner_cells (take i nodes) ++ l) (append-nil _ ∙ ap (λ b. cond b [] (get_or nodes i d).cells) e)

  -- a node of the other kind adds none
  pub cells_naming-same : (named : Named) (nodes : List (NodeRow D)) (i : ℕ) (d : NodeRow D) → i < length nodes → is_leaf (get_or nodes i d) ≡ not (are_named_by_leaves named)
      → cells_naming named (take (i + 1) nodes) ≡ cells_naming named (take i nodes)
  cells_naming-same Rows nodes i d within e =
      ap leaf_cells (take_more nodes i d within) ∙ flat_map-append (λ n. cond (is_leaf n) n.cells []) (take i nodes) (get_or nodes i d ∷ [])
      ∙ ap (λ l. leaf_cells (take i nodes) ++ l) (append-nil _ ∙ ap (λ b. cond b (get_or nodes i d).cells []) e) ∙ append-nil _
  cells_naming-same Nodes nodes i d within e =
      ap inner_cells (take_more nodes i d within) ∙ flat_map-append (λ n. cond (is_leaf n) [] n.cells) (take i nodes) (get_or nodes i d ∷ [])
      ∙ ap (λ l. inner_cells (take i nodes) ++ l) (append-nil _ ∙ ap (λ b. cond b [] (get_or nodes i d).cells) e) ∙ append-nil _
