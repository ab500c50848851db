-- Lemmas on the hull of cells: to hold it is to hold each of them.
use Rattle.std.proofs.Common.{◌≡◌, ℕ, zero, suc, ◌+◌, ◌<◌, ◌&&◌, ◌||◌, ℤ, pos, List, [], ◌∷◌, Bool, true, false, ◌++◌, take, get_or, refl, sym, ◌∙◌, ap, subst, arith, inl, inr, Option, None, Some, length}
use Rattle.std.specs.Prelude.{int_le, fold, slice_get, position, ◌==◌}
use Rattle.std.specs.Int.{int_min, int_max}
use Rattle.std.specs.List.{list_any, list_all}
use Rattle.std.specs.Ordering.{int_eq}
use Rattle.std.specs.Option.{option_map_or}
use Rattle.std.proofs.lemmas.Int.{ints}
use Rattle.std.proofs.lemmas.Bool.{cases_eq, and_parts}
use Rattle.std.proofs.Math.Bool.{and_assoc, or_assoc, and-true, or-false}
use Rattle.std.proofs.lemmas.List.{take_more, length-map}
use Rattle.std.proofs.lemmas.List.Quantifiers.{position-Some}
use Rattle.std.proofs.lemmas.Slice.Zip.{AllZip-long}
use Rattle.rt_check.proofs.Axes.{and-swap}
use Rattle.rt_check.proofs.Known.{find-some}
use Rattle.rt_check.specs.declared.node.NodeRow.{NodeRow}
use Rattle.rt_check.specs.declared.node.RawCell.{RawCell}
use Rattle.rt_check.specs.Conditions.{node_of, each_axis, coordinate, lies_in, is_reached, is_hull}
use Rattle.rt_check.specs.Shadow.{numbers_of}
use Rattle.rt_check.specs.Fits.{least_lo, greatest_hi, Fits, AllFit, FitsListed}

-- a number is at most both exactly where it is at most the less of them
min-low : (b m n : ℤ) → (int_le b m && int_le b n) ≡ int_le b (int_min m n)
min-low b m n = grind (arith, ints)

max-high : (b m n : ℤ) → (int_le m b && int_le n b) ≡ int_le (int_max m n) b
max-high b m n = grind (arith, ints)

-- where a number is at most both, one of them is equal to it exactly where the less of them is
min-reached : (b m n : ℤ) → int_le b m ≡ true → int_le b n ≡ true → (int_eq m b || int_eq n b) ≡ int_eq (int_min m n) b
min-reached b m n p q = grind (arith, ints)

max-reached : (b m n : ℤ) → int_le m b ≡ true → int_le n b ≡ true → (int_eq m b || int_eq n b) ≡ int_eq (int_max m n) b
max-reached b m n p q = grind (arith, ints)

-- numbers are equal exactly where each is at most the other
low-equal : (b m : ℤ) → int_le b m ≡ true → int_eq m b ≡ int_le m b
low-equal b m p = grind (arith, ints)

high-equal : (b m : ℤ) → int_le m b ≡ true → int_eq m b ≡ int_le b m
high-equal b m p = grind (arith, ints)

module _ {X : Type 0} (f : X → ℤ) where
  -- a number is at most all exactly where it is at most the least
  least-low : (b m : ℤ) (xs : List X) → (int_le b m && list_all (λ x. int_le b (f x)) xs) ≡ int_le b (fold (λ m x. int_min m (f x)) m xs)
  least-low b m [] = and-true (int_le b m)
  least-low b m (x ∷ xs) =
      sym (and_assoc (int_le b m) (int_le b (f x)) (list_all (λ x. int_le b (f x)) xs))
      ∙ ap (λ t. t && list_all (λ x. int_le b (f x)) xs) (min-low b m (f x))
      ∙ least-low b (int_min m (f x)) xs

  greatest-high : (b m : ℤ) (xs : List X) → (int_le m b && list_all (λ x. int_le (f x) b) xs) ≡ int_le (fold (λ m x. int_max m (f x)) m xs) b
  greatest-high b m [] = and-true (int_le m b)
  greatest-high b m (x ∷ xs) =
      sym (and_assoc (int_le m b) (int_le (f x) b) (list_all (λ x. int_le (f x) b) xs))
      ∙ ap (λ t. t && list_all (λ x. int_le (f x) b) xs) (max-high b m (f x))
      ∙ greatest-high b (int_max m (f x)) xs

  -- a number that is at most all is one of them exactly where the least is at most it
  least-reached : (b m : ℤ) (xs : List X) → int_le b (fold (λ m x. int_min m (f x)) m xs) ≡ true
      → (int_eq m b || list_any (λ x. int_eq (f x) b) xs) ≡ int_le (fold (λ m x. int_min m (f x)) m xs) b
  least-reached b m [] low = or-false (int_eq m b) ∙ low-equal b m low
  least-reached b m (x ∷ xs) low =
      let all = least-low b m (x ∷ xs) ∙ low in
      let first : int_le b m ≡ true = (and_parts _ _ all).0 in
      let second : int_le b (f x) ≡ true = (and_parts _ _ (and_parts _ _ all).1).0 in
      sym (or_assoc (int_eq m b) (int_eq (f x) b) (list_any (λ x. int_eq (f x) b) xs))
      ∙ ap (λ t. t || list_any (λ x. int_eq (f x) b) xs) (min-reached b m (f x) first second)
      ∙ least-reached b (int_min m (f x)) xs low

  greatest-reached : (b m : ℤ) (xs : List X) → int_le (fold (λ m x. int_max m (f x)) m xs) b ≡ true
      → (int_eq m b || list_any (λ x. int_eq (f x) b) xs) ≡ int_le b (fold (λ m x. int_max m (f x)) m xs)
  greatest-reached b m [] high = or-false (int_eq m b) ∙ high-equal b m high
  greatest-reached b m (x ∷ xs) high =
      let all = greatest-high b m (x ∷ xs) ∙ high in
      let first : int_le m b ≡ true = (and_parts _ _ all).0 in
      let second : int_le (f x) b ≡ true = (and_parts _ _ (and_parts _ _ all).1).0 in
      sym (or_assoc (int_eq m b) (int_eq (f x) b) (list_any (λ x. int_eq (f x) b) xs))
      ∙ ap (λ t. t || list_any (λ x. int_eq (f x) b) xs) (max-reached b m (f x) first second)
      ∙ greatest-reached b (int_max m (f x)) xs high

  list_all-both : (p q : X → Bool) (xs : List X) → list_all (λ x. p x && q x) xs ≡ (list_all p xs && list_all q xs)
  list_all-both p q [] = refl
  list_all-both p q (x ∷ xs) =
      ap (λ t. (p x && q x) && t) (list_all-both p q xs) ∙ and-swap (p x) (q x) (list_all p xs) (list_all q xs)

  list_all-true : (xs : List X) → list_all (λ x. true) xs ≡ true
  list_all-true [] = refl
  list_all-true (x ∷ xs) = list_all-true xs

  -- each element on each axis, or on each axis each element
  list_all-each_axis : (p : ℕ → X → Bool) (n : ℕ) (xs : List X) → list_all (λ x. each_axis (λ k. p k x) n) xs ≡ each_axis (λ k. list_all (p k) xs) n
  list_all-each_axis p zero xs = list_all-true xs
  list_all-each_axis p (suc n) xs =
      list_all-both (λ x. each_axis (λ k. p k x) n) (p n) xs
      ∙ ap (λ t. t && list_all (p n) xs) (list_all-each_axis p n xs)

-- tests that are equal on the axes below n
each_axis-same : (p q : ℕ → Bool) (n : ℕ) → ((k : ℕ) → k < n → p k ≡ q k) → each_axis p n ≡ each_axis q n
each_axis-same p q zero same = refl
each_axis-same p q (suc n) same =
    let before : (k : ℕ) → k < n → p k ≡ q k = λ k within. same k (omega (arith, within)) in
    let last : p n ≡ q n = same n (omega arith) in
    ap (λ t. t && p n) (each_axis-same p q n before) ∙ ap (λ t. each_axis q n && t) last

-- a test that each axis passes
each_axis-at : (p : ℕ → Bool) (n k : ℕ) → k < n → each_axis p n ≡ true → p k ≡ true
each_axis-at p zero k within e = let none : ⊥ = omega arith in absurd none
each_axis-at p (suc n) k within e =
    elim (cases_eq k n) [
      | inl same ↦ ap p same ∙ (and_parts (each_axis p n) (p n) e).1
      | inr other ↦ let inside : k < n = omega (arith, other) in each_axis-at p n k inside (and_parts (each_axis p n) (p n) e).0
    ]

module _ {D : ℕ} (cell fit first : RawCell D) (others : List (RawCell D))
    (fits : (axis : ℕ) → axis < D → (coordinate fit.lo axis ≡ least_lo first others axis) × (coordinate fit.hi axis ≡ greatest_hi first others axis)) where
  -- on an axis a cell holds all cells exactly where it holds the one that fits
  held_on : (k : ℕ) → k < D
      → list_all (λ x. int_le (coordinate cell.lo k) (coordinate x.lo k) && int_le (coordinate x.hi k) (coordinate cell.hi k)) (first ∷ others)
      ≡ (int_le (coordinate cell.lo k) (coordinate fit.lo k) && int_le (coordinate fit.hi k) (coordinate cell.hi k))
  held_on k within =
      let b = coordinate cell.lo k in
      let e = coordinate cell.hi k in
      list_all-both (λ (x : RawCell D). coordinate x.lo k) (λ x. int_le b (coordinate x.lo k)) (λ x. int_le (coordinate x.hi k) e) (first ∷ others)
      ∙ ap (λ t. t && list_all (λ x. int_le (coordinate x.hi k) e) (first ∷ others))
      (least-low (λ (x : RawCell D). coordinate x.lo k) b (coordinate first.lo k) others ∙ ap (int_le b) (sym (fits k within).0))
      ∙ ap (λ t. int_le b (coordinate fit.lo k) && t)
      (greatest-high (λ (x : RawCell D). coordinate x.hi k) e (coordinate first.hi k) others ∙ ap (λ z. int_le z e) (sym (fits k within).1))

  -- a cell holds all cells exactly where it holds the one that fits
  pub held-all : list_all (λ x. lies_in x cell) (first ∷ others) ≡ lies_in fit cell
  held-all =
      list_all-each_axis (λ (x : RawCell D). coordinate x.lo 0)
      (λ k x. int_le (coordinate cell.lo k) (coordinate x.lo k) && int_le (coordinate x.hi k) (coordinate cell.hi k)) D (first ∷ others)
      ∙ each_axis-same _ _ D held_on

  -- where a cell holds the one that fits, the cells reach it on an axis exactly where it lies in the one that fits
  reached_on : (k : ℕ) → k < D → lies_in fit cell ≡ true
      → (list_any (λ x. int_eq (coordinate x.lo k) (coordinate cell.lo k)) (first ∷ others)
      && list_any (λ x. int_eq (coordinate x.hi k) (coordinate cell.hi k)) (first ∷ others))
      ≡ (int_le (coordinate fit.lo k) (coordinate cell.lo k) && int_le (coordinate cell.hi k) (coordinate fit.hi k))
  reached_on k within held =
      let b = coordinate cell.lo k in
      let e = coordinate cell.hi k in
      let here = each_axis-at (λ k. int_le (coordinate cell.lo k) (coordinate fit.lo k) && int_le (coordinate fit.hi k) (coordinate cell.hi k)) D k within held in
      let low = sym (ap (int_le b) (fits k within).0) ∙ (and_parts _ _ here).0 in
      let high = sym (ap (λ z. int_le z e) (fits k within).1) ∙ (and_parts _ _ here).1 in
      ap (λ t. t && list_any (λ x. int_eq (coordinate x.hi k) e) (first ∷ others))
      (least-reached (λ (x : RawCell D). coordinate x.lo k) b (coordinate first.lo k) others low ∙ ap (λ z. int_le z b) (sym (fits k within).0))
      ∙ ap (λ t. int_le (coordinate fit.lo k) b && t)
      (greatest-reached (λ (x : RawCell D). coordinate x.hi k) e (coordinate first.hi k) others high ∙ ap (int_le e) (sym (fits k within).1))

  -- a cell is the hull exactly where it and the one that fits hold each other
  pub hull-both : is_hull cell (first ∷ others) ≡ (lies_in fit cell && lies_in cell fit)
  hull-both = ap (λ t. t && is_reached cell (first ∷ others)) held-all ∙ by_case (lies_in fit cell) refl
    where
      by_case : (b : Bool) → lies_in fit cell ≡ b → (lies_in fit cell && is_reached cell (first ∷ others)) ≡ (lies_in fit cell && lies_in cell fit)
      by_case true held = ap (λ t. lies_in fit cell && t) (each_axis-same _ _ D (λ k within. reached_on k within held))
      by_case false not_held = ap (λ t. t && is_reached cell (first ∷ others)) not_held ∙ sym (ap (λ t. t && lies_in cell fit) not_held)

module _ {D : ℕ} (cell : RawCell D) where
  -- C5 by the cell that fits
  pub holds-fit : (node : Option (NodeRow D)) (fit : Option (RawCell D)) → FitsListed node fit
      → option_map_or (λ child. list_all (λ x. lies_in x cell) child.cells) node true ≡ option_map_or (λ f. lies_in f cell) fit true
  holds-fit None fit e = sym (ap (λ fit. option_map_or (λ f. lies_in f cell) fit true) e)
  holds-fit (Some node) fit e = of_cells node.cells fit e
    where
      of_cells : (cells : List (RawCell D)) (fit : Option (RawCell D)) → Fits cells fit
          → list_all (λ x. lies_in x cell) cells ≡ option_map_or (λ f. lies_in f cell) fit true
      of_cells [] fit e = sym (ap (λ fit. option_map_or (λ f. lies_in f cell) fit true) e)
      of_cells (first ∷ others) None e = absurd e
      of_cells (first ∷ others) (Some fit) e = held-all cell fit first others e

  -- C6 by the cell that fits
  pub fits-fit : (node : Option (NodeRow D)) (fit : Option (RawCell D)) → FitsListed node fit
      → option_map_or (λ child. (length child.cells == 0) || is_hull cell child.cells) node true
      ≡ option_map_or (λ f. lies_in f cell && lies_in cell f) fit true
  fits-fit None fit e = sym (ap (λ fit. option_map_or (λ f. lies_in f cell && lies_in cell f) fit true) e)
  fits-fit (Some node) fit e = of_cells node.cells fit e
    where
      of_cells : (cells : List (RawCell D)) (fit : Option (RawCell D)) → Fits cells fit
          → ((length cells == 0) || is_hull cell cells) ≡ option_map_or (λ f. lies_in f cell && lies_in cell f) fit true
      of_cells [] fit e = sym (ap (λ fit. option_map_or (λ f. lies_in f cell && lies_in cell f) fit true) e)
      of_cells (first ∷ others) None e = absurd e
      of_cells (first ∷ others) (Some fit) e =
          let some : (length (first ∷ others) == 0) ≡ false = grind arith in
          ap (λ t. t || is_hull cell (first ∷ others)) some ∙ hull-both cell fit first others e

module _ {D : ℕ} where
  -- the cell at the place of a node fits that node
  fit-at : (nodes : List (NodeRow D)) (fits : List (Option (RawCell D))) (at : ℕ) (d : Option (RawCell D)) → AllFit nodes fits → at < length nodes
      → FitsListed (slice_get nodes at) (get_or fits at d)
  fit-at [] fits at d all within = let none : ⊥ = omega arith in absurd none
  fit-at (node ∷ nodes) [] at d all within = absurd all
  fit-at (node ∷ nodes) (fit ∷ fits) zero d all within = all.0
  fit-at (node ∷ nodes) (fit ∷ fits) (suc at) d all within =
      let inside : at < length nodes = omega (arith, within) in fit-at nodes fits at d all.1 inside

  module _ (nodes : List (NodeRow D)) (fits : List (Option (RawCell D))) (number : ℤ) (at : ℕ) (all : AllFit nodes fits)
      (e : Some at ≡ position (int_eq number) (numbers_of nodes)) where
    at_node : at < length nodes
    at_node =
        let found = position-Some (int_eq number) (numbers_of nodes) at (pos 0) (sym e) in
        let same : length (numbers_of nodes) ≡ length nodes = length-map nodes _ in
        omega (arith, found.0, same)

    -- the place of a node is one of a cell that fits
    pub fit-within : at < length fits
    fit-within = let long : length fits ≡ length nodes = AllZip-long _ nodes fits all in omega (arith, at_node, long)

    -- and that cell fits the node of that number
    pub fit-listed : (d : Option (RawCell D)) → FitsListed (node_of nodes number) (get_or fits at d)
    fit-listed d =
        subst (λ (node : Option (NodeRow D)). FitsListed node (get_or fits at d))
        (find-some (λ (n : NodeRow D). n.number) (int_eq number) nodes at e) (fit-at nodes fits at d all at_node)

  -- one node more
  pub fits-more : (nodes : List (NodeRow D)) (fits : List (Option (RawCell D))) (i : ℕ) (d : NodeRow D) (fit : Option (RawCell D)) → i < length nodes
      → AllFit (take i nodes) fits → Fits (get_or nodes i d).cells fit → AllFit (take (i + 1) nodes) (fits ++ fit ∷ [])
  fits-more nodes fits i d fit within all one =
      subst (λ (l : List (NodeRow D)). AllFit l (fits ++ fit ∷ [])) (sym (take_more nodes i d within)) (pushed (take i nodes) fits all)
    where
      pushed : (ns : List (NodeRow D)) (fs : List (Option (RawCell D))) → AllFit ns fs → AllFit (ns ++ get_or nodes i d ∷ []) (fs ++ fit ∷ [])
      pushed [] [] all = (one, tt)
      pushed [] (f ∷ fs) all = absurd all
      pushed (n ∷ ns) [] all = absurd all
      pushed (n ∷ ns) (f ∷ fs) all = (all.0, pushed ns fs all.1)
