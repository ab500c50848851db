-- The way from the root down to the node that a new box goes into (Beckmann, Kriegel, Schneider, Seeger 1990, section
-- 4.1), and trees that differ along a way alone (own).
use Rattle.std.specs.Prelude.{◌≡◌, ℕ, zero, suc, ◌+◌, List, [], ◌∷◌, Some, Contains, nat_eq, slice_get, slice_index_or}
use Rattle.slab.specs.Slab.{Slab}
use Rattle.rt_box.specs.declared.interval.Interval.{Interval}
use Rattle.rt_tree_subtree.specs.Subtree.{IsBestChild}
use Rattle.rt_tree_node.specs.declared.cell.Cell.{Cell}
use Rattle.rt_tree_node.specs.Node.{NodeCells}
use Rattle.rt_tree_node.specs.Places.{key_of, rects, numbers, cells_at, leaf_cells_at, level_at, parent_at}

module _ {D : ℕ} where
  -- ChooseSubtree: from the node at the key, best children lead a new box down by a number of steps to a node of the
  -- target level, through the nodes of the path: the key first, that node last
  abbrev pub LeadsTo : Slab (NodeCells D) → ℕ → ℕ → ℕ → List Interval → ℕ → List ℕ → Type 0
  LeadsTo a target zero key rect node path = (node ≡ key) × (path ≡ key ∷ [])
  LeadsTo a target (suc steps) key rect node path =
      (at : ℕ) × (c : Cell D) × (rest : List ℕ) × IsBestChild (nat_eq (target + steps) 0) (rects (cells_at a key)) rect at
      × (slice_get (cells_at a key) at ≡ Some c) × (path ≡ key ∷ rest) × LeadsTo a target steps (key_of c) rect node rest

  -- the node has the level, the parent and the cells that it had, except the boxes of cells that name a node of the
  -- path
  pub record KeepsShape (old new : Slab (NodeCells D)) (path : List ℕ) (key : ℕ) : Type 0 where
    pub level : level_at new key ≡ level_at old key
    pub parent : parent_at new key ≡ parent_at old key
    pub rows : leaf_cells_at new key ≡ leaf_cells_at old key
    pub numbers_same : numbers (cells_at new key) ≡ numbers (cells_at old key)
    pub boxes : (at : ℕ) (d : Cell D) → (Contains path (key_of (slice_index_or (cells_at old key) at d)) → ⊥) →
        slice_index_or (cells_at new key) at d ≡ slice_index_or (cells_at old key) at d
