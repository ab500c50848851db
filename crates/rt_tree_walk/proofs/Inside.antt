-- What a mark says of a node.
use Rattle.std.proofs.Common.{◌≡◌, ℕ, suc, ◌+◌, ◌<◌, ◌≤◌, true, false, List, [], ◌∷◌, ◌++◌, length, map, get_or, drop, Contains, All, None, Some, refl, ap, ◌∙◌, subst, sym, arith}
use Rattle.std.proofs.lemmas.Bool.{true≢false}
use Rattle.std.proofs.lemmas.Option.{none-some}
use Rattle.std.proofs.lemmas.List.{length-map, get_or-map, drop_more, drop_all, get_or_default}
use Rattle.std.proofs.lemmas.List.Elements.{All-nil, All-cons, All-append, All-weaker}
use Rattle.slab.specs.Slab.{Slab, get}
use Rattle.rt_box.specs.declared.interval.Interval.{Interval}
use Rattle.rt_box.specs.Rect.{Holds}
use Rattle.rt_box.specs.Window.{Admits, AdmitsWithin}
use Rattle.rt_box.proofs.Holding.{Holds_trans}
use Rattle.rt_tree_node.specs.declared.arena.Arena.{Arena}
use Rattle.rt_tree_node.specs.declared.cell.Cell.{Cell}
use Rattle.rt_tree_node.specs.Node.{NodeCells}
use Rattle.rt_tree_node.specs.Places.{key_of, cells_of, leaf_cells_of, inner_cells_of, leaf_part, inner_part, cells_at, leaf_cells_at, inner_cells_at, level_at, hull_at}
use Rattle.rt_tree_node.specs.Whole.{IsWhole}
use Rattle.rt_tree_walk.specs.declared.searching.Reached.{Reached}
use Rattle.rt_tree_walk.specs.declared.searching.Row.{Row}
use Rattle.rt_tree_walk.specs.Search.{row_of}
use Rattle.rt_tree_walk.specs.Visits.{keys_of, LiesInside, MarkHolds, NamesInside, Marks, TakesRows, TakesChildren, Visits, VisitsCounting}
use Rattle.rt_tree_walk.proofs.Taking.{TakesRows-all, TakesChildren-none, TakesChildren-dropped}
use Rattle.rt_tree_walk.proofs.Reaching.{All_contained, inner-level, hull-contained}

-- the next node of the list, and those behind it
pub keys-next : (reached : List Reached) (at : ℕ) (next : Reached) → at < length reached → next ≡ get_or reached at next →
    drop at (keys_of reached) ≡ next.key ∷ drop (at + 1) (keys_of reached)
keys-next reached at next h e =
    drop_more (keys_of reached) at next.key (omega (arith, length-map reached (λ (d : Reached). d.key)))
    ∙ ap (λ k. k ∷ drop (at + 1) (keys_of reached)) (get_or-map (λ (d : Reached). d.key) reached at next next.key h ∙ ap (λ (d : Reached). d.key) (sym e))

-- none is left where the list ends
pub keys-end : (reached : List Reached) (at : ℕ) → length reached ≤ at → drop at (keys_of reached) ≡ []
keys-end reached at h = drop_all at (keys_of reached) (omega (arith, length-map reached (λ (d : Reached). d.key)))

module _ {D : ℕ} (a : Slab (NodeCells D)) (window : List Interval) where
  -- the root isn't marked
  pub marks-first : (root : ℕ) (reached : List Reached) → reached ≡ record { key = root; is_inside = false } ∷ [] → All (MarkHolds a window) reached
  marks-first root reached e =
      subst (All (MarkHolds a window)) (sym e)
      (All-cons (MarkHolds a window) (record { key = root; is_inside = false }) [] (λ yes. absurd (true≢false (sym yes))) (All-nil (MarkHolds a window)))

  pub marks-next : (reached : List Reached) (at : ℕ) (next : Reached) → at < length reached → next ≡ get_or reached at next → All (MarkHolds a window) reached → MarkHolds a window next
  marks-next reached at next h e all = subst (MarkHolds a window) (sym e) (all at next h)

  -- a visit, seen from what is left of the list
  pub visits-dropped : (key n : ℕ) (rows rows1 : List (Row D)) (keys keys1 : List ℕ) → Visits a window key rows rows1 keys keys1 → n ≤ length keys →
      Visits a window key rows rows1 (drop n keys) (drop n keys1)
  visits-dropped key n rows rows1 keys keys1 went h =
      record { rows_are = went.rows_are; children_are = TakesChildren-dropped window (inner_cells_at a key) n keys keys1 went.children_are h }

  pub counting-dropped : (key n count : ℕ) (keys keys1 : List ℕ) → VisitsCounting a window key count keys keys1 → n ≤ length keys →
      VisitsCounting a window key count (drop n keys) (drop n keys1)
  counting-dropped key n count keys keys1 went h =
      record { rows_are = went.rows_are; children_are = TakesChildren-dropped window (inner_cells_at a key) n keys keys1 went.children_are h }

-- a leaf's rows are taken, and no children
pub visits-leaf : {D : ℕ} (a : Slab (NodeCells D)) (window : List Interval) (key : ℕ) (n : NodeCells D) → get a key ≡ Some n → n.level ≡ 0 →
    (old new : List (Row D)) (keys : List ℕ) → TakesRows window n.cells old new → Visits a window key old new keys keys
visits-leaf a window key n here leaf old new keys takes = record {
  rows_are = subst (λ (cells : List (Cell _)). TakesRows window cells old new) (sym (ap leaf_cells_of here ∙ ap (λ l. leaf_part l n.cells) leaf)) takes;
  children_are = subst (λ (cells : List (Cell _)). TakesChildren window cells keys keys) (sym (ap inner_cells_of here ∙ ap (λ l. inner_part l n.cells) leaf))
      (TakesChildren-none window keys);
}

module _ {D : ℕ} (a : Slab (NodeCells D)) (window : List Interval) (key : ℕ) (n : NodeCells D) (here : get a key ≡ Some n) (leaf : n.level ≡ 0)
    (all : All (λ c. Admits window c.rect) (cells_at a key)) where
  all-rows : (old new : List (Row D)) → new ≡ old ++ map row_of n.cells → TakesRows window (leaf_cells_at a key) old new
  all-rows old new e =
      subst (λ (cells : List (Cell D)). TakesRows window cells old new) (sym (ap leaf_cells_of here ∙ ap (λ l. leaf_part l n.cells) leaf))
      (TakesRows-all window n.cells old new (subst (All (λ (c : Cell D). Admits window c.rect)) (ap cells_of here) all) e)

  no-children : (keys : List ℕ) → TakesChildren window (inner_cells_at a key) keys keys
  no-children keys =
      subst (λ (cells : List (Cell D)). TakesChildren window cells keys keys) (sym (ap inner_cells_of here ∙ ap (λ l. inner_part l n.cells) leaf))
      (TakesChildren-none window keys)

  -- where the window admits all boxes of a leaf, its rows are all taken
  pub visits-all : (old new : List (Row D)) (keys : List ℕ) → new ≡ old ++ map row_of n.cells → Visits a window key old new keys keys
  visits-all old new keys e = record { rows_are = all-rows old new e; children_are = no-children keys }

  pub visits-counting_all : (keys : List ℕ) → VisitsCounting a window key (length n.cells) keys keys
  visits-counting_all keys = record {
    rows_are = record { rows = map row_of n.cells; takes = all-rows [] (map row_of n.cells) refl; counted = sym (length-map n.cells row_of) };
    children_are = no-children keys;
  }

module _ {D : ℕ} (t : Arena D) (whole : IsWhole t) (window : List Interval) where
  -- a window that admits each box within the hull admits each cell's
  pub admits-hull : (key : ℕ) → AdmitsWithin D window (hull_at t.nodes key) → All (λ c. Admits window c.rect) (cells_at t.nodes key)
  admits-hull key within i d below =
      let c = get_or (cells_at t.nodes key) i d in
      within c.rect (whole.fitted.boxes key i d below)
      (hull-contained t whole key c (i, below, get_or_default (cells_at t.nodes key) i c d below))

  -- the box of the cell that names a child is the child's hull
  admits-child : (key child : ℕ) → NamesInside window (inner_cells_at t.nodes key) child → LiesInside t.nodes window child
  admits-child key child names =
      let c = names.0 in
      let inner = inner-level t.nodes key (let h = names.1.1 in omega arith) in
      let there : Contains (cells_at t.nodes key) c = subst (λ (xs : List (Cell D)). Contains xs c) inner.1.cells names.1 in
      let hull : c.rect ≡ hull_at t.nodes child =
      All_contained (λ x. (None ≡ Some (key_of x) → ⊥) → x.rect ≡ hull_at t.nodes (key_of x)) (cells_at t.nodes key) c
      (whole.fitted.hulls key inner.0 inner.1.level) there (none-some (key_of c))
      ∙ ap (hull_at t.nodes) names.2 in
      let boxes = subst (AdmitsWithin D window) hull names.3 in
      record { boxes = boxes; cells = admits-hull child boxes }

  -- the child of a node inside lies inside
  pub inside-child : (key l : ℕ) → level_at t.nodes key ≡ Some (suc l) → LiesInside t.nodes window key → (c : Cell D) → Contains (cells_at t.nodes key) c →
      LiesInside t.nodes window (key_of c)
  inside-child key l lev inside c there =
      let hull : c.rect ≡ hull_at t.nodes (key_of c) =
      All_contained (λ x. (None ≡ Some (key_of x) → ⊥) → x.rect ≡ hull_at t.nodes (key_of x)) (cells_at t.nodes key) c
      (whole.fitted.hulls key l lev) there (none-some (key_of c)) in
      let boxes : AdmitsWithin D window (hull_at t.nodes (key_of c)) = λ b box holds.
      inside.boxes b box
      (Holds_trans (hull_at t.nodes key) (hull_at t.nodes (key_of c)) b (subst (Holds (hull_at t.nodes key)) hull (hull-contained t whole key c there)) holds) in
      record { boxes = boxes; cells = admits-hull (key_of c) boxes }

  -- the marks of a node's children hold, with those before them
  pub marks-hold : (key : ℕ) (old new : List Reached) → Marks window (inner_cells_at t.nodes key) old new →
      All (MarkHolds t.nodes window) old → All (MarkHolds t.nodes window) new
  marks-hold key old new marks all =
      subst (All (MarkHolds t.nodes window)) (sym marks.is)
      (All-append (MarkHolds t.nodes window) old marks.more all
      (All-weaker (λ d. d.is_inside ≡ true → NamesInside window (inner_cells_at t.nodes key) d.key) (MarkHolds t.nodes window)
      (λ d inside yes. admits-child key d.key (inside yes)) marks.more marks.inside))
