-- A new row before it is placed (own).
use Rattle.std.specs.Prelude.{◌≡◌, ◌≢◌, ℕ, suc, ◌≤◌, ℤ, [], ◌∷◌, ◌++◌, Some, vec_capacity}
use Rattle.std.specs.Ordering.{int_eq}
use Rattle.indexmap.specs.IndexMap.{IndexMap, get as leaf_of, spare, index_map_len}
use Rattle.rt_tree_node.specs.declared.arena.Arena.{Arena}
use Rattle.rt_tree_node.specs.declared.cell.Cell.{Cell}
use Rattle.rt_tree_node.specs.declared.cell.Pending.{Pending}

module _ {S : Type 0} where
  -- the map leads from the id to that leaf, and from each other id to the leaf that it led to
  pub record Learns (old new : IndexMap ℤ ℕ S) (id : ℤ) (leaf : ℕ) : Type 0 where
    pub here : leaf_of int_eq new id ≡ Some leaf
    pub others : (other : ℤ) → other ≢ id → leaf_of int_eq new other ≡ leaf_of int_eq old other
    pub len : index_map_len new ≡ suc (index_map_len old)
    pub room : spare old ≤ suc (spare new)

module _ {D : ℕ} where
  -- a row that is pending for a leaf
  abbrev pub pending_row : Cell D → Pending D
  pending_row cell = record { level = 0; cell = cell }

  -- the row is pending, and its entry leads to any leaf; the nodes are as before
  pub record AwaitsLeaf (old new : Arena D) (cell : Cell D) : Type 0 where
    pub leaf : ℕ
    pub learns : Learns old.leaves new.leaves cell.number leaf
    pub pending : new.pending.items ≡ old.pending.items ++ pending_row cell ∷ []
    pub pending_room : vec_capacity new.pending ≡ vec_capacity old.pending
    pub rest : new ≡ record old { leaves = new.leaves; pending = new.pending }
