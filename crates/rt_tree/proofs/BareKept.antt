-- A tree without rows.
use Rattle.std.proofs.Common.{◌≡◌, ℕ, ◌+◌, ◌≤◌, ◌^◌, ℤ, pos, Bool, not, cond, List, [], ◌∷◌, map, Option, None, Some, vec_capacity, eq-eqb, refl, ap, ◌∙◌}
use Rattle.std.specs.Map.{keys_of}
use Rattle.std.specs.Ordering.{int_eq}
use Rattle.slab.specs.Slab.{Slab, get, Updates}
use Rattle.indexmap.specs.IndexMap.{get as leaf_of}
use Rattle.rt_check.specs.declared.node.NodeRow.{NodeRow}
use Rattle.rt_check.specs.declared.node.RowEntry.{RowEntry}
use Rattle.rt_check.specs.Shadow.{ShadowLists}
use Rattle.rt_tree_node.specs.declared.arena.Arena.{Arena}
use Rattle.rt_tree_node.specs.Node.{NodeCells}
use Rattle.rt_tree_walk.specs.Preorder.{keys_in, tree_keys, number_in}
use Rattle.rt_tree_outside.specs.Outside.{node_row, row_entry, rising, outside}
use Rattle.rt_tree.specs.Bare.{IsBare}
use Rattle.rt_tree.specs.Kept.{IsKeptWith}
use Rattle.rt_tree.specs.Lists.{empty_lists}
use Rattle.rt_tree.proofs.Fresh.{fresh-kept}

module _ {D : ℕ} where
  -- a tree without rows keeps what a tree keeps
  pub bare-kept : (t : Arena D) → 1 ≤ D → D ≤ 3 → IsBare t → t.leaves.entries ≡ [] → 33 ≤ t.nodes.capacity → t.nodes.capacity ≤ 2 ^ 62 → 1152 ≤ vec_capacity t.pending →
      IsKeptWith t 0
  bare-kept t some few bare none room keys pending_room =
      let empty : Slab (NodeCells D) = record { slots = []; vacant_key = 0; capacity = 0 } in
      let u : Updates empty t.nodes t.root (Some record { level = 0; parent = None; cells = [] }) = record { changed = bare.leaf; others = bare.alone } in
      fresh-kept empty t.nodes t.root refl u t refl refl bare.level bare.idle none some few bare.cap room keys pending_room

  -- from outside it is a leaf without cells
  pub bare-shown : (t : Arena D) → IsBare t → t.leaves.entries ≡ [] → outside t ≡ empty_lists t.capacity
  bare-shown t bare none =
      let alone : List ℕ = t.root ∷ [] in
      let only : tree_keys t ≡ alone = ap (λ (l : ℕ). keys_in t.nodes l t.root) bare.level in
      let first : number_in alone t.root ≡ pos 1 = ap (λ (b : Bool). pos (cond (not b) 1 0 + 1)) (eq-eqb t.root t.root refl) in
      let leaf : ℤ → NodeRow D = λ n. record { number = n; level = 0; parent = None; cells = [] } in
      let nodes : (outside t).nodes ≡ leaf (pos 1) ∷ [] =
      ap (λ ks. map (λ key. node_row (number_in ks) key (get t.nodes key)) ks) only
      ∙ ap (λ (place : Option (NodeCells D)). node_row (number_in alone) t.root place ∷ []) bare.leaf
      ∙ ap (λ n. leaf n ∷ []) first in
      let rows : (outside t).rows ≡ [] = ap (λ es. map (row_entry (number_in (tree_keys t)) (leaf_of int_eq t.leaves)) (rising (keys_of es))) none in
      let make : List (NodeRow D) → List RowEntry → ShadowLists D = λ ns rs. record { capacity = t.capacity; root = pos 1; nodes = ns; rows = rs } in
      ap (λ ns. make ns (outside t).rows) nodes ∙ ap (make (leaf (pos 1) ∷ [])) rows
