-- A cell that the box above its node held before it came: the box stays the least one.
use Rattle.std.proofs.Common.{◌≡◌, ◌≢◌, ℕ, suc, ◌<◌, ◌≤◌, List, [], ◌∷◌, length, get_or, Some, None, unsigned_abs, arith, refl, ap, ◌∙◌, sym, subst}
use Rattle.std.specs.Int.{int_min, int_max}
use Rattle.std.proofs.lemmas.Int.{ints, clamps}
use Rattle.std.proofs.lemmas.Option.{none-some}
use Rattle.std.proofs.lemmas.List.{get_or_default, length-map, map-append}
use Rattle.rt_box.specs.declared.interval.Interval.{Interval}
use Rattle.rt_box.specs.Interval.{interval, cover, Covers}
use Rattle.rt_box.specs.Rect.{Holds, union_box}
use Rattle.rt_box.specs.Capacity.{least_fill}
use Rattle.rt_box.specs.Hull.{hull}
use Rattle.rt_box.proofs.Hulls.{hull-push}
use Rattle.rt_tree_node.specs.declared.arena.Arena.{Arena}
use Rattle.rt_tree_node.specs.declared.cell.Cell.{Cell}
use Rattle.rt_tree_node.specs.declared.cell.Pending.{Pending}
use Rattle.rt_tree_node.specs.Places.{key_of, rects, no_cell, hull_at, cells_at, level_at}
use Rattle.rt_tree_node.specs.Sound.{IsFitted}
use Rattle.rt_tree_place.specs.Rise.{Enters}
use Rattle.rt_tree_place.specs.Steps.{HasLeastWhereHeld}
use Rattle.rt_tree_place.proofs.Lifted.{key-not_root, parent-level, apart}

cover-held : (x y : Interval) → Covers x y → cover x y ≡ x
cover-held x y h =
    let e : int_min x.lo y.lo ≡ x.lo = omega (arith, ints, clamps, h) in
    let f : int_max x.hi y.hi ≡ x.hi = omega (arith, ints, clamps, h) in
    ap (λ lo. interval lo (int_max x.hi y.hi)) e ∙ ap (λ hi. interval x.lo hi) f

union-held : (a b : List Interval) → Holds a b → union_box a b ≡ a
union-held [] [] h = refl
union-held [] (y ∷ b) h = refl
union-held (x ∷ a) [] h = absurd h
union-held (x ∷ a) (y ∷ b) h = ap (λ i. i ∷ union_box a b) (cover-held x y h.0) ∙ ap (λ xs. x ∷ xs) (union-held a b h.1)

module _ {D : ℕ} (old new : Arena D) (entry : Pending D) (key : ℕ) (ws : List (Pending D))
    (fitted : IsFitted old.capacity old.nodes old.root ws None) (went : Enters old new entry key) where
  abbrev rect : List Interval
  rect = entry.cell.rect

  -- the hull of the node's cells, the new one among them
  grown : key ≢ old.root → hull_at new.nodes key ≡ union_box (hull_at old.nodes key) rect
  grown away =
      let cells = cells_at old.nodes key in
      let filled : least_fill old.capacity ≤ length cells = fitted.least key entry.level went.level away (λ s. none-some key s) in
      let some : 0 < length (rects cells) = omega (arith, filled, fitted.cap.0, length-map cells (λ c. c.rect)) in
      ap (λ (cs : List (Cell D)). hull (rects cs)) went.cells ∙ ap hull (map-append (λ (c : Cell D). c.rect) cells (entry.cell ∷ []))
      ∙ hull-push (rects cells) rect some

  pub held-before : HasLeastWhereHeld new.nodes key rect
  held-before parent at up named holds =
      let above : level_at new.nodes parent ≡ Some (suc went.rising.level) = parent-level new key parent went.rising up in
      let away : key ≢ old.root = λ e. key-not_root new key parent went.rising up (e ∙ sym went.root) in
      let same : cells_at new.nodes parent ≡ cells_at old.nodes parent = went.others parent (λ e. apart new key parent went.rising up (sym e)) in
      let was : level_at old.nodes parent ≡ Some (suc went.rising.level) = sym (went.levels parent) ∙ above in
      let within : at < length (cells_at old.nodes parent) = subst (λ (cs : List (Cell D)). at < length cs) same named.0 in
      let names : key_of (get_or (cells_at old.nodes parent) at no_cell) ≡ key = ap (λ (cs : List (Cell D)). key_of (get_or cs at no_cell)) (sym same) ∙ ap unsigned_abs named.1 in
      let box : (get_or (cells_at old.nodes parent) at no_cell).rect ≡ hull_at old.nodes key =
      fitted.hulls parent went.rising.level was at no_cell within (λ s. none-some _ s) ∙ ap (hull_at old.nodes) names in
      let here : (get_or (cells_at new.nodes parent) at no_cell).rect ≡ hull_at old.nodes key =
      ap (λ (cs : List (Cell D)). (get_or cs at no_cell).rect) same ∙ box in
      let held : Holds (hull_at old.nodes key) rect = subst (λ b. Holds b rect) here holds in
      let keeps : hull_at new.nodes key ≡ hull_at old.nodes key = grown away ∙ union-held (hull_at old.nodes key) rect held in
      record {
        at = at;
        within = named.0;
        names = λ d. ap key_of (get_or_default (cells_at new.nodes parent) at d no_cell named.0) ∙ ap unsigned_abs named.1;
        rect = λ d. ap (λ (c : Cell D). c.rect) (get_or_default (cells_at new.nodes parent) at d no_cell named.0) ∙ here ∙ sym keeps;
      }
