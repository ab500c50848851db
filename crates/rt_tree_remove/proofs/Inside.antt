-- A cell that leaves a node and touched no side of the box around the node's cells: that box stays the least one.
use Rattle.std.proofs.Common.{◌≡◌, ◌≢◌, ℕ, suc, ◌+◌, ◌-◌, ◌<◌, List, [], ◌∷◌, length, get_or, Some, All, arith, refl, ap, ◌∙◌, sym, subst, inl, inr}
use Rattle.std.specs.List.{remove}
use Rattle.std.proofs.lemmas.Int.{ints, clamps}
use Rattle.std.proofs.lemmas.Bool.{cases_eq, cases_lt}
use Rattle.std.proofs.lemmas.Option.{none-some, slice_get_cases, get_or_from_slice_get}
use Rattle.std.specs.Prelude.{slice_get, ℤ}
use Rattle.std.proofs.lemmas.List.Elements.{All-map}
use Rattle.indexmap.proofs.SetLemmas.{map-remove}
use Rattle.std.proofs.lemmas.List.{get_or_default, get_or-map, length-map}
use Rattle.std.proofs.lemmas.List.Edits.{length-remove, get_or-remove_below, get_or-remove_above}
use Rattle.rt_box.specs.declared.interval.Interval.{Interval}
use Rattle.rt_box.specs.Interval.{interval}
use Rattle.rt_box.specs.Rect.{IsBox, Holds, union_box}
use Rattle.rt_box.proofs.Holding.{Holds-union_left, Holds-union_right, Holds_trans}
use Rattle.rt_box.specs.Hull.{hull}
use Rattle.rt_box.proofs.Hulls.{hull-least}
use Rattle.slab.specs.Slab.{get}
use Rattle.rt_tree_node.specs.declared.arena.Arena.{Arena}
use Rattle.rt_tree_node.specs.declared.cell.Cell.{Cell}
use Rattle.rt_tree_node.specs.Node.{NodeCells}
use Rattle.rt_tree_node.specs.Places.{key_of, rects, no_cell, hull_at, cells_of, cells_at, level_at, parent_at}
use Rattle.rt_tree_node.specs.Whole.{IsWhole}
use Rattle.rt_tree_remove.specs.Steps.{LiesInside, HasLeastWhereInside, Takes}
use Rattle.rt_tree_remove.proofs.Changed.{changed-levels, changed-others, changed-cells}
use Rattle.rt_tree_remove.proofs.Climbs.{parent-level, key-not_parent}
use Rattle.rt_tree_remove.proofs.Dissolved.{All-remove}

-- what holds of the others and of the one at the place holds of all
whole-from : {X : Type 0} (P : X → Type 0) (xs : List X) (at : ℕ) → at < length xs → All P (remove xs at) → ((d : X) → P (get_or xs at d)) → All P xs
whole-from P xs at within rest here i d below = elim (cases_eq i at) [
  | inl same ↦ subst (λ k. P (get_or xs k d)) (sym same) (here d)
  | inr other ↦ elim (cases_lt i at) [
    | inl before ↦ subst P (get_or-remove_below xs at d i before within) (rest i d (omega (arith, length-remove xs at within)))
    | inr after ↦
        let back : (i - 1) + 1 ≡ i = omega arith in
        subst (λ k. P (get_or xs k d)) back
        (subst P (get_or-remove_above xs at d (i - 1) (omega arith) within) (rest (i - 1) d (omega (arith, length-remove xs at within))))
  ]
]

hull-facts : (axes : ℕ) (bs : List (List Interval)) → 0 < length bs → All (IsBox axes) bs →
    IsBox axes (hull bs) × All (Holds (hull bs)) bs × ((c : List Interval) → All (Holds c) bs → Holds c (hull bs))
hull-facts axes [] some boxes = absurd (omega arith)
hull-facts axes (b ∷ bs) some boxes = hull-least axes b bs boxes

same-lists : (h H r : List Interval) → Holds (union_box h r) H → Holds H h → LiesInside H r → h ≡ H
same-lists [] [] r wide tight inside = refl
same-lists [] (y ∷ H) r wide tight inside = absurd tight
same-lists (x ∷ h) [] r wide tight inside = absurd tight
same-lists (x ∷ h) (y ∷ H) [] wide tight inside = absurd inside
same-lists (x ∷ h) (y ∷ H) (z ∷ r) wide tight inside =
    let e : x.lo ≡ y.lo = omega (arith, ints, clamps, wide.0, tight.0, inside.0) in
    let f : x.hi ≡ y.hi = omega (arith, ints, clamps, wide.0, tight.0, inside.0) in
    ap (λ lo. interval lo x.hi ∷ h) e ∙ ap (λ hi. interval y.lo hi ∷ h) f ∙ ap (λ xs. y ∷ xs) (same-lists h H r wide.1 tight.1 inside.1)

pub hull-inside : (axes : ℕ) (bs : List (List Interval)) (at : ℕ) (r : List Interval) → All (IsBox axes) bs → at < length bs →
    ((d : List Interval) → get_or bs at d ≡ r) → 0 < length (remove bs at) → LiesInside (hull bs) r → hull (remove bs at) ≡ hull bs
hull-inside axes bs at r boxes within is some inside =
    let all = hull-facts axes bs (omega arith) boxes in
    let rest = hull-facts axes (remove bs at) some (All-remove (IsBox axes) bs at boxes) in
    let h = hull (remove bs at) in
    let r_box : IsBox axes r = subst (IsBox axes) (is []) (boxes at [] within) in
    let same : length h ≡ length r = omega (arith, rest.0.axes_are, r_box.axes_are) in
    let holds : All (Holds (union_box h r)) bs = whole-from (Holds (union_box h r)) bs at within
    (λ k d below. Holds_trans (union_box h r) h _ (Holds-union_left h r same) (rest.1 k d below))
    (λ d. subst (Holds (union_box h r)) (sym (is d)) (Holds-union_right h r same)) in
    same-lists h (hull bs) r (all.2 (union_box h r) holds) (rest.2 (hull bs) (All-remove (Holds (hull bs)) bs at all.1)) inside

within-from : {X : Type 0} (xs : List X) (i : ℕ) (x : X) → slice_get xs i ≡ Some x → i < length xs
within-from xs i x e = elim (slice_get_cases xs i).1 [
  | inl is ↦ is.1
  | inr past ↦ absurd (none-some x (sym past.1 ∙ e))
]

module _ {D : ℕ} (old new : Arena D) (id : ℤ) (leaf at : ℕ) (rect : List Interval) (n : NodeCells D) (has : get old.nodes leaf ≡ Some n)
    (whole : IsWhole old) (takes : Takes old new id leaf at rect) where
  abbrev cells : List (Cell D)
  cells = cells_at old.nodes leaf

  abbrev row : Cell D
  row = record { number = id; rect = rect }

  shorter : cells_at new.nodes leaf ≡ remove cells at
  shorter = changed-cells old.nodes new.nodes leaf n (remove n.cells at) has (takes.change n has) ∙ ap (λ (cs : List (Cell D)). remove cs at) (sym (ap cells_of has))

  -- the hull of the cells that are left
  left : leaf ≢ new.root → LiesInside (hull_at old.nodes leaf) rect → hull_at new.nodes leaf ≡ hull_at old.nodes leaf
  left away inside =
      let within : at < length cells = within-from cells at row takes.cell in
      let long = length-map cells (λ c. c.rect) in
      let below : at < length (rects cells) = omega (arith, within, long) in
      let is : (d : List Interval) → get_or (rects cells) at d ≡ rect = λ d.
      get_or-map (λ (c : Cell D). c.rect) cells at row d within ∙ ap (λ (c : Cell D). c.rect) (get_or_from_slice_get cells at row row takes.cell) in
      let boxes : All (IsBox D) (rects cells) = All-map (IsBox D) (λ (c : Cell D). c.rect) cells (whole.fitted.boxes leaf) in
      let nearly = takes.but.nearly away in
      let cap = takes.but.sound.fitted.cap.0 in
      let some : 0 < length (remove (rects cells) at) = omega (
        arith,
        nearly,
        cap,
        ap length shorter,
        length-remove cells at within,
        length-remove (rects cells) at below,
        long,
      ) in
      ap (λ (cs : List (Cell D)). hull (rects cs)) shorter ∙ ap hull (map-remove (λ (c : Cell D). c.rect) cells at)
      ∙ hull-inside D (rects cells) at rect boxes below is some inside

  pub inside-before : HasLeastWhereInside new.nodes leaf rect
  inside-before lies =
      let parent = lies.parent in
      let place = lies.at in
      let up = lies.up in
      let named = lies.named in
      let but = takes.but in
      let above : level_at new.nodes parent ≡ Some (suc but.level) = parent-level new leaf parent but up in
      let away : leaf ≢ new.root = λ e. none-some parent (sym but.sound.linked.root_parent ∙ ap (parent_at new.nodes) (sym e) ∙ up) in
      let puts = takes.change n has in
      let same : cells_at new.nodes parent ≡ cells_at old.nodes parent =
      changed-others old.nodes new.nodes leaf n (remove n.cells at) has puts parent (λ e. key-not_parent new leaf parent but up (sym e)) in
      let was : level_at old.nodes parent ≡ Some (suc but.level) = sym (changed-levels old.nodes new.nodes leaf n (remove n.cells at) has puts parent) ∙ above in
      let within : place < length (cells_at old.nodes parent) = subst (λ (cs : List (Cell D)). place < length cs) same named.within in
      let names : key_of (get_or (cells_at old.nodes parent) place no_cell) ≡ leaf =
      ap (λ (cs : List (Cell D)). key_of (get_or cs place no_cell)) (sym same) ∙ named.names no_cell in
      let box : (get_or (cells_at old.nodes parent) place no_cell).rect ≡ hull_at old.nodes leaf =
      whole.fitted.hulls parent but.level was place no_cell within (λ s. none-some _ s) ∙ ap (hull_at old.nodes) names in
      let here : (get_or (cells_at new.nodes parent) place no_cell).rect ≡ hull_at old.nodes leaf =
      ap (λ (cs : List (Cell D)). (get_or cs place no_cell).rect) same ∙ box in
      let keeps : hull_at new.nodes leaf ≡ hull_at old.nodes leaf = left away (subst (λ b. LiesInside b rect) here lies.inside) in
      record {
        at = place;
        within = named.within;
        names = named.names;
        rect = λ d. ap (λ (c : Cell D). c.rect) (get_or_default (cells_at new.nodes parent) place d no_cell named.within) ∙ here ∙ sym keeps;
      }
