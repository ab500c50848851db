-- What a branch stands for: the rows below its node.
use Rattle.std.proofs.Common.{◌≡◌, ℕ, suc, ◌≤◌, List, [], ◌∷◌, ◌++◌, map, get_or, Some, unwrap_or, refl, ap, sym, ◌∙◌, subst}
use Rattle.std.specs.List.{All, flat_map}
use Rattle.std.specs.declared.cmp.Reverse.{Reverse}
use Rattle.std.proofs.lemmas.List.Concat.{flat_map-append}
use Rattle.std.proofs.lemmas.List.Elements.{All-head, All-tail, All-map, All-same, All-weaker, Contains-get_or}
use Rattle.slab.specs.Slab.{Slab}
use Rattle.rt_box.specs.declared.interval.Interval.{Interval}
use Rattle.rt_box.specs.Rect.{Holds}
use Rattle.rt_tree_node.specs.declared.arena.Arena.{Arena}
use Rattle.rt_tree_node.specs.declared.cell.Cell.{Cell}
use Rattle.rt_tree_node.specs.Node.{NodeCells}
use Rattle.rt_tree_node.specs.Places.{key_of, cells_at, level_at, hull_at}
use Rattle.rt_tree_node.proofs.Places.{leaf-at_inner}
use Rattle.rt_tree_walk.specs.declared.searching.Row.{Row}
use Rattle.rt_tree_walk.specs.Search.{row_of}
use Rattle.rt_tree_walk.specs.Preorder.{keys_in}
use Rattle.rt_tree_walk.proofs.Progress.{IsSettled}
use Rattle.rt_tree_walk.proofs.Listed.{levels-below}
use Rattle.rt_tree_nearest.proofs.Distances.{distance-le}
use Rattle.rt_tree_walk.proofs.Below.{leaf_rows, rows_under, child-hull, held-below}
use Rattle.rt_tree_nearest.specs.declared.candidate.Branch.{Branch}
use Rattle.rt_tree_nearest.specs.Nearest.{box_distance}
use Rattle.rt_tree_nearest.specs.Candidates.{queued}

module _ {D : ℕ} where
  abbrev pub own_level : Slab (NodeCells D) → Reverse Branch → ℕ
  own_level a e = unwrap_or (level_at a e.0.key) 0

  abbrev pub rows_below : Slab (NodeCells D) → Reverse Branch → List (Row D)
  rows_below a e = rows_under a (own_level a e) e.0.key

  abbrev pub keys_below : Slab (NodeCells D) → Reverse Branch → List ℕ
  keys_below a e = keys_in a (own_level a e) e.0.key

  module _ (a : Slab (NodeCells D)) (e : Reverse Branch) (l : ℕ) (at : level_at a e.0.key ≡ Some l) where
    pub rows-node : rows_below a e ≡ rows_under a l e.0.key
    rows-node = ap (λ o. rows_under a (unwrap_or o 0) e.0.key) at

    pub keys-node : keys_below a e ≡ keys_in a l e.0.key
    keys-node = ap (λ o. keys_in a (unwrap_or o 0) e.0.key) at

  -- a branch is no farther than the rows below it
  pub record IsNear (t : Arena D) (target : List Interval) (e : Reverse Branch) : Type 0 where
    pub near : All (λ r. e.0.distance ≤ box_distance r.rect target) (rows_below t.nodes e)
    pub node : (l : ℕ) × (level_at t.nodes e.0.key ≡ Some l)

  module _ (t : Arena D) (s : IsSettled t) (target : List Interval) where
    abbrev a : Slab (NodeCells D)
    a = t.nodes

    rows-of_children : (l : ℕ) (cells : List (Cell D)) → All (λ c. level_at a (key_of c) ≡ Some l) cells →
        flat_map (leaf_rows a) (flat_map (λ c. keys_in a l (key_of c)) cells) ≡ flat_map (rows_below a) (map (queued target) cells)
    rows-of_children l [] all = refl
    rows-of_children l (c ∷ cs) all =
        flat_map-append (leaf_rows a) (keys_in a l (key_of c)) (flat_map (λ c. keys_in a l (key_of c)) cs)
        ∙ ap (λ rs. rs ++ flat_map (leaf_rows a) (flat_map (λ c. keys_in a l (key_of c)) cs)) (sym (rows-node a (queued target c) l (All-head (λ x. level_at a (key_of x) ≡ Some l) c cs all)))
        ∙ ap (λ rs. rows_below a (queued target c) ++ rs) (rows-of_children l cs (All-tail (λ x. level_at a (key_of x) ≡ Some l) c cs all))

    keys-of_children : (l : ℕ) (cells : List (Cell D)) → All (λ c. level_at a (key_of c) ≡ Some l) cells →
        flat_map (λ c. keys_in a l (key_of c)) cells ≡ flat_map (keys_below a) (map (queued target) cells)
    keys-of_children l [] all = refl
    keys-of_children l (c ∷ cs) all =
        ap (λ ks. ks ++ flat_map (λ c. keys_in a l (key_of c)) cs) (sym (keys-node a (queued target c) l (All-head (λ x. level_at a (key_of x) ≡ Some l) c cs all)))
        ∙ ap (λ ks. keys_below a (queued target c) ++ ks) (keys-of_children l cs (All-tail (λ x. level_at a (key_of x) ≡ Some l) c cs all))

    -- another node's rows are those of its cells
    pub rows-inner : (l k : ℕ) → level_at a k ≡ Some (suc l) → rows_under a (suc l) k ≡ flat_map (rows_below a) (map (queued target) (cells_at a k))
    rows-inner l k at =
        ap (λ cells. map row_of cells ++ flat_map (leaf_rows a) (flat_map (λ c. keys_in a l (key_of c)) (cells_at a k))) (leaf-at_inner a k l at)
        ∙ rows-of_children l (cells_at a k) (levels-below t s k l at)

    -- another node's keys are its own and those of its cells
    pub keys-inner : (l k : ℕ) → level_at a k ≡ Some (suc l) → keys_in a (suc l) k ≡ k ∷ flat_map (keys_below a) (map (queued target) (cells_at a k))
    keys-inner l k at = ap (λ ks. k ∷ ks) (keys-of_children l (cells_at a k) (levels-below t s k l at))

    -- ---- branches
    pub children-near : (l k : ℕ) → level_at a k ≡ Some (suc l) → All (IsNear t target) (map (queued target) (cells_at a k))
    children-near l k at = All-map (IsNear t target) (queued target) (cells_at a k) (λ i d h.
        let c = get_or (cells_at a k) i d in
        let there = Contains-get_or (cells_at a k) i d h in
        let low : level_at a (key_of c) ≡ Some l = levels-below t s k l at i d h in
        let far : All (λ r. box_distance c.rect target ≤ box_distance r.rect target) (rows_under a l (key_of c)) =
        All-weaker (λ r. Holds (hull_at a (key_of c)) r.rect) (λ r. box_distance c.rect target ≤ box_distance r.rect target)
        (λ r held. distance-le c.rect r.rect target (subst (λ (b : List Interval). Holds b r.rect) (sym (child-hull t s k l at c there)) held))
        (rows_under a l (key_of c)) (held-below t s l (key_of c) low) in
        record {
          near = All-same (λ r. box_distance c.rect target ≤ box_distance r.rect target) (rows_below a (queued target c)) (rows_under a l (key_of c)) (rows-node a (queued target c) l low) far;
          node = (l, low);
        })
