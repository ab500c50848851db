-- A tree whose nodes and entries are those of a shadow.
use Rattle.std.proofs.Common.{◌≡◌, ℕ, ℤ, pos, List, [], map, Contains, refl, ap, sym, ◌∙◌}
use Rattle.std.specs.Ordering.{int_eq}
use Rattle.slab.specs.Slab.{get}
use Rattle.indexmap.specs.IndexMap.{get as leaf_of, keys}
use Rattle.rt_check.specs.declared.node.NodeRow.{NodeRow}
use Rattle.rt_check.specs.declared.node.RowEntry.{RowEntry}
use Rattle.rt_check.specs.Shadow.{ShadowLists}
use Rattle.rt_tree_node.specs.declared.arena.Arena.{Arena}
use Rattle.rt_tree_walk.specs.Preorder.{tree_keys, number_in}
use Rattle.rt_tree_outside.specs.Outside.{noted, node_row, row_entry, rising, outside}
use Rattle.rt_tree_walk.proofs.Progress.{IsSettled}
use Rattle.rt_tree_outside.proofs.Numbered.{outside-made}

module _ {D : ℕ} (t : Arena D) (s : IsSettled t) (numbers : List ℕ) (same : (key : ℕ) → Contains (tree_keys t) key → noted numbers key ≡ number_in (tree_keys t) key) where
  abbrev listed : List ℕ → List ℕ → List (NodeRow D)
  listed ns order = map (λ k. node_row (noted ns) k (get t.nodes k)) order

  abbrev entries : List ℕ → List ℤ → List RowEntry
  entries ns ids = map (row_entry (noted ns) (leaf_of int_eq t.leaves)) ids

  abbrev made : ℕ → ℤ → List (NodeRow D) → List RowEntry → ShadowLists D
  made c r n e = record { capacity = c; root = r; nodes = n; rows = e }

  module _ (ns order : List ℕ) (ids : List ℤ) (en : ns ≡ numbers) (eo : order ≡ tree_keys t) (ei : ids ≡ rising (keys t.leaves)) where
    shown : made t.capacity (pos 1) (listed ns order) (entries ns ids) ≡ outside t
    shown =
        let first : ShadowLists D = made t.capacity (pos 1) [] [] in
        let second : ShadowLists D = made t.capacity (pos 1) (listed ns order) [] in
        let third : ShadowLists D = made t.capacity (pos 1) (listed ns order) (entries ns ids) in
        outside-made t s numbers same ns ns order ids first second third en en eo ei refl refl refl

    pub seen-as : (shadow : ShadowLists D) → t.capacity ≡ shadow.capacity → shadow.root ≡ pos 1 → listed ns order ≡ shadow.nodes → entries ns ids ≡ shadow.rows →
        outside t ≡ shadow
    seen-as shadow capacity root nodes rows =
        sym shown ∙ ap (λ n. made t.capacity (pos 1) n (entries ns ids)) nodes ∙ ap (made t.capacity (pos 1) shadow.nodes) rows
        ∙ ap (λ c. made c (pos 1) shadow.nodes shadow.rows) capacity ∙ ap (λ r. made shadow.capacity r shadow.nodes shadow.rows) (sym root)

    pub nodes-as : (shadow : ShadowLists D) → outside t ≡ shadow → listed ns order ≡ shadow.nodes
    nodes-as shadow is = ap (λ (x : ShadowLists D). x.nodes) (shown ∙ is)

    pub rows-as : (shadow : ShadowLists D) → outside t ≡ shadow → entries ns ids ≡ shadow.rows
    rows-as shadow is = ap (λ (x : ShadowLists D). x.rows) (shown ∙ is)
