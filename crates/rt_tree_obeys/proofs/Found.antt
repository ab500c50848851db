-- The rules find a row where the map of leaves leads, and it leaves its leaf.
use Rattle.std.proofs.Common.{◌≡◌, ◌≢◌, inl, inr, ℕ, zero, suc, ◌+◌, ◌<◌, ◌≤◌, Bool, true, false, not, cond, ℤ, List, [], ◌∷◌, map, length, get_or, Option, Some, None, slice_get, refl, sym, ap, ◌∙◌, subst, arith}
use Rattle.std.specs.Prelude.{slice_index_or, filter, ◌||◌}
use Rattle.std.specs.List.{remove, list_any, position_or_len}
use Rattle.std.specs.Ordering.{int_eq}
use Rattle.std.proofs.lemmas.Bool.{cases_eq, cases_Bool}
use Rattle.std.proofs.lemmas.Bool.Decides.{Decides-int_eq}
use Rattle.std.proofs.lemmas.Option.{same_Some, none-some, slice_get_within, get_or_from_slice_get, slice_get-get_or}
use Rattle.std.proofs.lemmas.List.{get_or-map, length-map}
use Rattle.slab.specs.Slab.{Slab}
use Rattle.rt_tree_node.specs.declared.cell.Cell.{Cell}
use Rattle.rt_tree_node.specs.Node.{NodeCells}
use Rattle.rt_tree_node.specs.Places.{key_of, cells_at, level_at, parent_at, times_named, times_listed}
use Rattle.rt_tree_node.specs.Sound.{IsLinked, HasHomes}
use Rattle.rt_tree_node.proofs.Counts.{count-some, count-cons}
use Rattle.rt_tree_node.proofs.Places.{leaf-at_leaf, has_id, named-find}
use Rattle.rt_tree_remove.proofs.Dissolved.{parent-named}
use Rattle.rt_tree_rules.specs.Nested.{Row, Node}
use Rattle.rt_tree_rules.specs.Removing.{Thinned, has_row, condense, take_out}
use Rattle.rt_tree_obeys.specs.View.{entry_in, node_in}
use Rattle.rt_tree_obeys.proofs.Ways.{named_once}
use Rattle.rt_tree_obeys.proofs.Thinning.{Out, top, next, thinned}

module _ {X : Type 0} (p : X → Bool) where
  abbrev Passing : List X → Type 0
  Passing xs = (k : ℕ) × (k < length xs) × ((d : X) → p (get_or xs k d) ≡ true)

  found_step : (x : X) (xs : List X) (b : Bool) → p x ≡ b → (b || list_any p xs) ≡ true → (list_any p xs ≡ true → Passing xs) → Passing (x ∷ xs)
  found_step x xs true is e later = (0, omega arith, λ d. is)
  found_step x xs false is e later = let more = later e in (suc more.0, omega (arith, more.1), λ d. more.2 d)

  any_found : (xs : List X) → list_any p xs ≡ true → Passing xs
  any_found [] e = let none : ⊥ = cc in absurd none
  any_found (x ∷ xs) e = found_step x xs (p x) refl e (any_found xs)

  or_true : (b : Bool) → (b || true) ≡ true
  or_true true = refl
  or_true false = refl

  any_at : (xs : List X) (k : ℕ) (d : X) → k < length xs → p (get_or xs k d) ≡ true → list_any p xs ≡ true
  any_at [] k d within is = absurd (omega arith)
  any_at (x ∷ xs) zero d within is = ap (λ b. b || list_any p xs) is
  any_at (x ∷ xs) (suc k) d within is = ap (λ b. p x || b) (any_at xs k d (omega arith) is) ∙ or_true (p x)

  -- the place of the only one that passes
  only_place : (xs : List X) (at : ℕ) (d : X) → at < length xs → p (get_or xs at d) ≡ true → ((i : ℕ) → i < length xs → i ≢ at → p (get_or xs i d) ≡ false) →
      position_or_len p xs ≡ at
  only_place [] at d within is others = absurd (omega arith)
  only_place (x ∷ xs) zero d within is others = ap (λ b. cond (not b) (1 + position_or_len p xs) 0) is
  only_place (x ∷ xs) (suc at) d within is others =
      ap (λ b. cond (not b) (1 + position_or_len p xs) 0) (others 0 (omega arith) (λ e. absurd (omega arith)))
      ∙ (let rest = only_place xs at d (omega arith) is (λ i in_xs other. others (suc i) (omega arith) (λ e. other (omega arith))) in omega arith)

same_id : (x y : ℤ) → int_eq x y ≡ true → x ≡ y
same_id x y e = (Decides-int_eq x y).0 e

id_same : (x y : ℤ) → x ≡ y → int_eq x y ≡ true
id_same x y e = (Decides-int_eq x y).1 e

false_from : (b : Bool) → (b ≡ true → ⊥) → b ≡ false
false_from true differs = absurd (differs refl)
false_from false differs = refl

module _ {D : ℕ} (a : Slab (NodeCells D)) (id : ℤ) where
  abbrev others_of : List (Cell D) → List Row
  others_of cells = filter (λ row. not (int_eq id row.id)) (map (entry_in a zero) cells)

  all_stay : (cells : List (Cell D)) → times_listed id cells ≡ 0 → others_of cells ≡ map (entry_in a zero) cells
  all_stay [] none = refl
  all_stay (c ∷ cs) none = elim (cases_Bool (int_eq id c.number)) [
    | inl e ↦
        let one : ◌≡◌ {A = ℕ} (cond (int_eq id c.number) 1 0) 1 = ap (λ b. cond b 1 0) e in
        absurd (omega (arith, count-cons (has_id id) c cs))
    | inr e ↦
        let more : ◌≡◌ {A = ℕ} (cond (int_eq id c.number) 1 0) 0 = ap (λ b. cond b 1 0) e in
        ap (λ b. cond (not b) (entry_in a zero c ∷ others_of cs) (others_of cs)) e
        ∙ ap (λ (rows : List Row). entry_in a zero c ∷ rows) (all_stay cs (omega (arith, count-cons (has_id id) c cs)))
  ]

  -- the only row with the id leaves
  pub one_leaves : (cells : List (Cell D)) (at : ℕ) (d : Cell D) → at < length cells → int_eq id (get_or cells at d).number ≡ true → times_listed id cells ≡ 1 →
      others_of cells ≡ map (entry_in a zero) (remove cells at)
  one_leaves [] at d within is one = absurd (omega arith)
  one_leaves (c ∷ cs) zero d within is one =
      let here : ◌≡◌ {A = ℕ} (cond (int_eq id c.number) 1 0) 1 = ap (λ b. cond b 1 0) is in
      ap (λ b. cond (not b) (entry_in a zero c ∷ others_of cs) (others_of cs)) is ∙ all_stay cs (omega (arith, count-cons (has_id id) c cs))
  one_leaves (c ∷ cs) (suc at) d within is one =
      let later = count-some (has_id id) cs at d (omega arith) is in
      elim (cases_Bool (int_eq id c.number)) [
        | inl e ↦
            let here : ◌≡◌ {A = ℕ} (cond (int_eq id c.number) 1 0) 1 = ap (λ b. cond b 1 0) e in
            absurd (omega (arith, count-cons (has_id id) c cs))
        | inr e ↦
            let here : ◌≡◌ {A = ℕ} (cond (int_eq id c.number) 1 0) 0 = ap (λ b. cond b 1 0) e in
            ap (λ b. cond (not b) (entry_in a zero c ∷ others_of cs) (others_of cs)) e
            ∙ ap (λ (rows : List Row). entry_in a zero c ∷ rows) (one_leaves cs at d (omega arith) is (omega (arith, count-cons (has_id id) c cs)))
      ]

module _ {D : ℕ} (K R L : ℕ) (a : Slab (NodeCells D)) (linked : IsLinked a R L []) (f : ℤ → Option ℕ) (homes : HasHomes f a []) (id : ℤ) (leaf at : ℕ) (cell : Cell D)
    (home : f id ≡ Some leaf) (bottom : level_at a leaf ≡ Some 0) (get : slice_get (cells_at a leaf) at ≡ Some cell) (is_id : cell.number ≡ id) where
  -- the parent, and so on
  abbrev above_of : Option ℕ → Option ℕ
  above_of None = None
  above_of (Some y) = parent_at a y

  abbrev up_from : ℕ → Option ℕ
  up_from zero = Some leaf
  up_from (suc l) = above_of (up_from l)

  record Below (o : Option ℕ) (x : ℕ) : Type 0 where
    y : ℕ
    is : o ≡ Some y
    up : parent_at a y ≡ Some x

  from_above : (o : Option ℕ) (x : ℕ) → above_of o ≡ Some x → Below o x
  from_above None x e = absurd (none-some x e)
  from_above (Some y) x e = record { y = y; is = refl; up = e }

  up_level : (l x : ℕ) → up_from l ≡ Some x → level_at a x ≡ Some l
  up_level zero x e = ap (level_at a) (sym (same_Some leaf x e)) ∙ bottom
  up_level (suc l) x e =
      let under = from_above (up_from l) x e in
      let here = up_level l under.y under.is in
      let not_root : under.y ≢ R = λ h. none-some x (sym linked.root_parent ∙ ap (parent_at a) (sym h) ∙ under.up) in
      let named = parent-named a R L [] linked under.y l here not_root refl in
      ap (level_at a) (same_Some x named.0 (sym under.up ∙ named.1)) ∙ named.2

  -- the node below on the way, in the cells of the node above
  record Step (l x : ℕ) : Type 0 where
    y : ℕ
    is : up_from l ≡ Some y
    here : level_at a y ≡ Some l
    at_y : ℕ
    c : Cell D
    get_y : slice_get (cells_at a x) at_y ≡ Some c
    key_is : key_of c ≡ y

  step : (l x : ℕ) → up_from (suc l) ≡ Some x → Step l x
  step l x e =
      let under = from_above (up_from l) x e in
      let here = up_level l under.y under.is in
      let not_root : under.y ≢ R = λ h. none-some x (sym linked.root_parent ∙ ap (parent_at a) (sym h) ∙ under.up) in
      let named = parent-named a R L [] linked under.y l here not_root refl in
      let same : named.0 ≡ x = same_Some named.0 x (sym named.1 ∙ under.up) in
      let P : Cell D → Type 0 = λ c. (i : ℕ) × (slice_get (cells_at a x) i ≡ Some c) in
      let some : 0 < times_named under.y (cells_at a x) = subst (λ (q : ℕ). 0 < times_named under.y (cells_at a q)) same (omega (arith, named.3)) in
      let found = named-find under.y P (cells_at a x) (λ k d within. (k, slice_get-get_or (cells_at a x) k d within)) some in
      record { y = under.y; is = under.is; here = here; at_y = found.2.0; c = found.0; get_y = found.2.1; key_is = found.1 }

  -- who has the row is above its leaf
  has_above : (l x : ℕ) → level_at a x ≡ Some l → has_row (suc l) id (node_in a l x) ≡ true → up_from l ≡ Some x
  has_above zero x here has =
      let found = any_found (has_row zero id) (node_in a zero x) has in
      let long = length-map (cells_at a x) (entry_in a zero) in
      let within : found.0 < length (cells_at a x) = omega (arith, found.1) in
      let c = get_or (cells_at a x) found.0 cell in
      let row : int_eq id c.number ≡ true
      = ap (has_row zero id) (sym (get_or-map (entry_in a zero) (cells_at a x) found.0 cell (entry_in a zero cell) within)) ∙ found.2 (entry_in a zero cell) in
      let listed = count-some (has_id id) (cells_at a x) found.0 cell within row in
      let lies = homes.home x id (subst (λ (cs : List (Cell D)). 0 < times_listed id cs) (sym (leaf-at_leaf a x here)) listed) in
      sym home ∙ lies
  has_above (suc l) x here has =
      let found = any_found (has_row (suc l) id) (node_in a (suc l) x) has in
      let long = length-map (cells_at a x) (entry_in a (suc l)) in
      let within : found.0 < length (cells_at a x) = omega (arith, found.1) in
      let c = get_or (cells_at a x) found.0 cell in
      let child = linked.children x l here found.0 cell within in
      let row : has_row (suc l) id (node_in a l (key_of c)) ≡ true
      = ap (has_row (suc l) id) (sym (get_or-map (entry_in a (suc l)) (cells_at a x) found.0 cell (entry_in a (suc l) cell) within)) ∙ found.2 (entry_in a (suc l) cell) in
      let under = has_above l (key_of c) child.names.level_is row in
      ap above_of under ∙ child.parent_is

  above_has : (l x : ℕ) → up_from l ≡ Some x → has_row (suc l) id (node_in a l x) ≡ true
  above_has zero x e =
      let within = slice_get_within (cells_at a leaf) at cell get in
      let long = length-map (cells_at a leaf) (entry_in a zero) in
      let read : get_or (node_in a zero leaf) at (entry_in a zero cell) ≡ entry_in a zero cell
      = get_or-map (entry_in a zero) (cells_at a leaf) at cell (entry_in a zero cell) within ∙ ap (entry_in a zero) (get_or_from_slice_get (cells_at a leaf) at cell cell get) in
      let here : has_row 1 id (node_in a zero leaf) ≡ true
      = any_at (has_row zero id) (node_in a zero leaf) at (entry_in a zero cell) (omega arith) (ap (has_row zero id) read ∙ id_same id cell.number (sym is_id)) in
      subst (λ (q : ℕ). has_row 1 id (node_in a zero q) ≡ true) (same_Some leaf x e) here
  above_has (suc l) x e =
      let s = step l x e in
      let within = slice_get_within (cells_at a x) s.at_y s.c s.get_y in
      let long = length-map (cells_at a x) (entry_in a (suc l)) in
      let read : get_or (node_in a (suc l) x) s.at_y (entry_in a (suc l) cell) ≡ node_in a l s.y
      = get_or-map (entry_in a (suc l)) (cells_at a x) s.at_y cell (entry_in a (suc l) cell) within
      ∙ ap (entry_in a (suc l)) (get_or_from_slice_get (cells_at a x) s.at_y s.c cell s.get_y) ∙ ap (node_in a l) s.key_is in
      any_at (has_row (suc l) id) (node_in a (suc l) x) s.at_y (entry_in a (suc l) cell) (omega arith) (ap (has_row (suc l) id) read ∙ above_has l s.y s.is)

  -- the way up comes to the root
  up_some : (l : ℕ) → l ≤ L → (x : ℕ) × (up_from l ≡ Some x)
  up_some zero low = (leaf, refl)
  up_some (suc l) low =
      let under = up_some l (omega arith) in
      let here = up_level l under.0 under.1 in
      let not_root : under.0 ≢ R = λ h.
      let same = same_Some l L (sym here ∙ ap (level_at a) h ∙ linked.root_level) in
      absurd (omega arith) in
      let named = parent-named a R L [] linked under.0 l here not_root refl in
      (named.0, ap above_of under.1 ∙ named.1)

  up_root : up_from L ≡ Some R
  up_root =
      let over = up_some L (omega arith) in
      let here = up_level L over.0 over.1 in
      elim (cases_eq over.0 R) [
        | inl e ↦ over.1 ∙ ap Some e
        | inr other ↦
            let named = parent-named a R L [] linked over.0 L here other refl in
            let high = linked.levels named.0 (suc L) named.2 in
            absurd (omega arith)
      ]

  abbrev pub result : Thinned L
  result = take_out K L id (node_in a L R)

  descends : (m k : ℕ) → up_from m ≡ Some k → Out K a R L result m k (take_out K m id (node_in a m k)) → Out K a R L result zero leaf (take_out K zero id (node_in a zero leaf))
  descends zero k e out = subst (λ (q : ℕ). Out K a R L result zero q (take_out K zero id (node_in a zero q))) (sym (same_Some leaf k e)) out
  descends (suc m) k e out =
      let s = step m k e in
      let here = up_level (suc m) k e in
      let node = node_in a (suc m) k in
      let within = slice_get_within (cells_at a k) s.at_y s.c s.get_y in
      let long = length-map (cells_at a k) (entry_in a (suc m)) in
      let read : (d : Node m) → get_or node s.at_y d ≡ node_in a m s.y
      = λ d. get_or-map (entry_in a (suc m)) (cells_at a k) s.at_y cell d within
      ∙ ap (entry_in a (suc m)) (get_or_from_slice_get (cells_at a k) s.at_y s.c cell s.get_y) ∙ ap (node_in a m) s.key_is in
      let place : position_or_len (has_row (suc m) id) node ≡ s.at_y
      = only_place (has_row (suc m) id) node s.at_y [] (omega arith) (ap (has_row (suc m) id) (read []) ∙ above_has m s.y s.is) (λ i in_node other.
      false_from (has_row (suc m) id (get_or node i [])) (λ has.
      let in_cells : i < length (cells_at a k) = omega arith in
      let c = get_or (cells_at a k) i cell in
      let row : has_row (suc m) id (node_in a m (key_of c)) ≡ true
      = ap (has_row (suc m) id) (sym (get_or-map (entry_in a (suc m)) (cells_at a k) i cell [] in_cells)) ∙ has in
      let over = has_above m (key_of c) (linked.children k m here i cell in_cells).names.level_is row in
      named_once a R L [] linked m k s.at_y s.c here s.get_y i cell in_cells other (same_Some (key_of c) s.y (sym over ∙ s.is) ∙ sym s.key_is))) in
      let is : take_out K (suc m) id node ≡ condense K m node s.at_y (take_out K m id (node_in a m s.y))
      = ap (λ (i : ℕ). condense K m node i (take_out K m id (slice_index_or node i []))) place
      ∙ ap (λ (n : Node m). condense K m node s.at_y (take_out K m id n)) (read []) in
      descends m s.y s.is (next k s.at_y s.c s.get_y s.key_is (subst (λ (x : Thinned (suc m)). Out K a R L result (suc m) k x) is out))

  -- the leaf without the row, and what is left to be done
  pub found : Out K a R L result zero leaf (thinned (map (entry_in a zero) (remove (cells_at a leaf) at)) [])
  found =
      let within = slice_get_within (cells_at a leaf) at cell get in
      let once = homes.there leaf id home in
      let cells = leaf-at_leaf a leaf bottom in
      let one : times_listed id (cells_at a leaf) ≡ 1 = subst (λ (cs : List (Cell D)). times_listed id cs ≡ 1) cells (omega arith) in
      let row = id_same id (get_or (cells_at a leaf) at cell).number (sym is_id ∙ ap (λ (c : Cell D). c.number) (sym (get_or_from_slice_get (cells_at a leaf) at cell cell get))) in
      let left = one_leaves a id (cells_at a leaf) at cell within row one in
      subst (λ (n : Node zero). Out K a R L result zero leaf (thinned n [])) left (descends L R up_root (top refl))
