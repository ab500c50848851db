-- The box around the root's cells is the least around all rows.
use Rattle.std.proofs.Common.{◌≡◌, ◌≢◌, ℕ, zero, suc, ◌≤◌, ◌↔◌, List, [], ◌∷◌, length, map, get_or, Option, None, Some, IsNone, arith, refl, ap, sym, ◌∙◌, subst}
use Rattle.std.specs.List.{All, flat_map}
use Rattle.std.specs.Option.{IfSome}
use Rattle.std.proofs.lemmas.Bool.{true≢false}
use Rattle.std.proofs.lemmas.Option.{none-some, same_Some}
use Rattle.std.proofs.lemmas.List.{length-map}
use Rattle.std.proofs.lemmas.List.Elements.{All-nil, All-cons, All-head, All-tail, All-map, Contains-get_or}
use Rattle.rt_box.specs.declared.interval.Interval.{Interval}
use Rattle.rt_box.specs.Rect.{IsBox, Holds}
use Rattle.rt_box.specs.Hull.{hull}
use Rattle.rt_box.proofs.Hulls.{hull-least}
use Rattle.rt_tree_node.specs.declared.arena.Arena.{Arena}
use Rattle.rt_tree_node.specs.declared.cell.Cell.{Cell}
use Rattle.rt_tree_node.specs.Places.{key_of, rects, cells_at, level_at, hull_at}
use Rattle.rt_tree_node.proofs.Links.{All-left, All-right}
use Rattle.rt_tree_walk.specs.declared.searching.Row.{Row}
use Rattle.rt_tree_walk.specs.Search.{row_of}
use Rattle.rt_tree_walk.proofs.Listed.{levels-below}
use Rattle.rt_tree_walk.proofs.Progress.{IsSettled}
use Rattle.rt_tree_walk.specs.Rows.{rows_in}
use Rattle.rt_tree_walk.proofs.Below.{rows_under, rows-leaf, rows-none, rows-inner, child-hull, held-below}
use Rattle.rt_tree.specs.Bounds.{HoldsRows, IsLeastAround}
use Rattle.rt_tree.specs.BoundsInside.{IsRootBox}

unmapped : {X Y : Type 0} (P : Y → Type 0) (f : X → Y) (xs : List X) → All P (map f xs) → All (λ x. P (f x)) xs
unmapped P f [] all = All-nil (λ x. P (f x))
unmapped P f (x ∷ xs) all = All-cons (λ y. P (f y)) x xs (All-head P (f x) (map f xs) all) (unmapped P f xs (All-tail P (f x) (map f xs) all))

flat-parts : {X Y : Type 0} (P : Y → Type 0) (f : X → List Y) (xs : List X) → All P (flat_map f xs) → All (λ x. All P (f x)) xs
flat-parts P f [] all = All-nil (λ x. All P (f x))
flat-parts P f (x ∷ xs) all =
    All-cons (λ y. All P (f y)) x xs (All-left P (f x) (flat_map f xs) all) (flat-parts P f xs (All-right P (f x) (flat_map f xs) all))

-- a box that holds some boxes holds their hull, and the hull is a box
hull-within : (axes : ℕ) (other : List Interval) (bs : List (List Interval)) → 1 ≤ length bs → All (IsBox axes) bs → All (Holds other) bs →
    Holds other (hull bs) × IsBox axes (hull bs)
hull-within axes other [] some boxes held = absurd (omega (arith, some))
hull-within axes other (b ∷ bs) some boxes held = let least = hull-least axes b bs boxes in (least.2 other held, least.0)

module _ {D : ℕ} (t : Arena D) (s : IsSettled t) where
  within : (other : List Interval) (k : ℕ) → 1 ≤ length (cells_at t.nodes k) → All (λ (c : Cell D). Holds other c.rect) (cells_at t.nodes k) →
      Holds other (hull_at t.nodes k) × IsBox D (hull_at t.nodes k)
  within other k some held =
      let cells = cells_at t.nodes k in
      hull-within D other (rects cells) (omega (arith, length-map cells (λ (c : Cell D). c.rect), some))
      (All-map (IsBox D) (λ (c : Cell D). c.rect) cells (s.whole.fitted.boxes k)) (All-map (Holds other) (λ (c : Cell D). c.rect) cells held)

  -- a node below another has cells
  child-some : (j k l : ℕ) → level_at t.nodes j ≡ Some (suc l) → level_at t.nodes k ≡ Some l → 1 ≤ length (cells_at t.nodes k)
  child-some j k l above low =
      let below = s.whole.linked.levels j (suc l) above in
      let apart : k ≢ t.root = λ e.
      let same = same_Some l t.level (sym low ∙ ap (level_at t.nodes) e ∙ s.whole.linked.root_level) in
      absurd (omega (arith, same, below)) in
      let few = s.whole.fitted.cap in
      let least = s.whole.fitted.least k l low apart (none-some k) in
      omega (arith, few.0, least)

  least-below : (other : List Interval) (l k : ℕ) → level_at t.nodes k ≡ Some l → 1 ≤ length (cells_at t.nodes k) → HoldsRows other (rows_under t.nodes l k) →
      Holds other (hull_at t.nodes k) × IsBox D (hull_at t.nodes k)
  least-below other zero k at some held =
      within other k some (unmapped (λ (r : Row D). Holds other r.rect) row_of (cells_at t.nodes k)
      (subst (HoldsRows other) (rows-leaf t.nodes k at) held))
  least-below other (suc l) k at some held =
      let cells = cells_at t.nodes k in
      let parts = flat-parts (λ (r : Row D). Holds other r.rect) (λ (c : Cell D). rows_under t.nodes l (key_of c)) cells
      (subst (HoldsRows other) (rows-inner t l k at) held) in
      within other k some (λ i d h.
      let c = get_or cells i d in
      let low : level_at t.nodes (key_of c) ≡ Some l = levels-below t s k l at i d h in
      let deep = least-below other l (key_of c) low (child-some k (key_of c) l at low) (parts i d h) in
      subst (λ (b : List Interval). Holds other b) (sym (child-hull t s k l at c (Contains-get_or cells i d h))) deep.0)

  high : level_at t.nodes t.root ≡ Some t.level
  high = s.whole.linked.root_level

  pub root-least : 1 ≤ length (cells_at t.nodes t.root) → IsLeastAround (rows_in t) (hull_at t.nodes t.root)
  root-least some = record {
    some = λ none.
        let nothing : HoldsRows [] (rows_in t) = subst (HoldsRows []) (sym none) (All-nil (λ (r : Row D). Holds [] r.rect)) in
        flat (hull_at t.nodes t.root) (least-below [] t.level t.root high some nothing);
    around = held-below t s t.level t.root high;
    least = λ other held. (least-below other t.level t.root high some held).0;
  }
    where
      flat : (b : List Interval) → Holds [] b × IsBox D b → ⊥
      flat [] h = let is = h.1 in absurd (omega (arith, is.some, is.axes_are))
      flat (i ∷ b) h = absurd h.0

  pub bounds-are : (box : Option (List Interval)) → IsRootBox t box → (IsNone box ↔ (rows_in t ≡ [])) × IfSome box (IsLeastAround (rows_in t))
  bounds-are None none = ((λ e. rows-none t t.level t.root high none, λ e. refl), tt)
  bounds-are (Some box) is =
      let least : IsLeastAround (rows_in t) box = subst (IsLeastAround (rows_in t)) (sym is.1) (root-least is.0) in
      ((λ e. absurd (true≢false e), λ e. absurd (least.some e)), least)
