-- A sound arena, node by node. `odd` may be a node that is out of shape for the time being: it may have too many
-- cells or too few, and the cell that names it may have another box than the least one around its cells.
use Rattle.std.specs.Prelude.{◌≡◌, ◌≢◌, ℕ, suc, ◌+◌, ◌≤◌, ◌<◌, ℤ, pos, List, length, Option, None, Some, IsSome, All}
use Rattle.slab.specs.Slab.{Slab}
use Rattle.rt_box.specs.Capacity.{IsCapacity, least_fill}
use Rattle.rt_box.specs.Rect.{IsBox}
use Rattle.rt_tree_node.specs.declared.cell.Cell.{Cell}
use Rattle.rt_tree_node.specs.declared.cell.Pending.{Pending}
use Rattle.rt_tree_node.specs.Node.{NodeCells}
use Rattle.rt_tree_node.specs.Places.{key_of, times_named, times_listed, cells_at, leaf_cells_at, level_at, parent_at, hull_at, cells_above, pending_rows, pending_nodes}

module _ {D : ℕ} where
  -- the cell names a node of that level
  pub record Names (a : Slab (NodeCells D)) (level : ℕ) (c : Cell D) : Type 0 where
    pub number_is : c.number ≡ pos (key_of c)
    pub level_is : level_at a (key_of c) ≡ Some level

  -- the cell names a node of that level, and the key is that of its parent
  pub record NamesChild (a : Slab (NodeCells D)) (level key : ℕ) (c : Cell D) : Type 0 where
    pub names : Names a level c
    pub parent_is : parent_at a (key_of c) ≡ Some key

  -- the nodes hang together: cells above the leaves name children, and each node but the root is named once, by
  -- its parent or by a pending cell
  pub record IsLinked (a : Slab (NodeCells D)) (root level : ℕ) (ws : List (Pending D)) : Type 0 where
    pub root_level : level_at a root ≡ Some level
    pub root_parent : parent_at a root ≡ None
    pub root_waits_not : times_named root (pending_nodes ws) ≡ 0
    pub levels : (key l : ℕ) → level_at a key ≡ Some l → l ≤ level
    pub children : (key l : ℕ) → level_at a key ≡ Some (suc l) → All (NamesChild a l key) (cells_at a key)
    pub named : (key l : ℕ) → level_at a key ≡ Some l → key ≢ root →
        times_named key (cells_above a key) + times_named key (pending_nodes ws) ≡ 1
    pub pending_levels : All (λ w. w.level ≤ level) ws
    pub pending_named : All (λ w. (l : ℕ) → w.level ≡ suc l → Names a l w.cell) ws

  -- nodes are filled, and each cell above the leaves has the least box around its child's cells
  pub record IsFitted (capacity : ℕ) (a : Slab (NodeCells D)) (root : ℕ) (ws : List (Pending D)) (odd : Option ℕ) : Type 0 where
    pub cap : IsCapacity capacity
    pub some : (key l : ℕ) → level_at a key ≡ Some (suc l) → 1 ≤ length (cells_at a key)
    pub least : (key l : ℕ) → level_at a key ≡ Some l → key ≢ root → odd ≢ Some key → least_fill capacity ≤ length (cells_at a key)
    pub most : (key l : ℕ) → level_at a key ≡ Some l → odd ≢ Some key → length (cells_at a key) ≤ capacity
    pub boxes : (key : ℕ) → All (λ c. IsBox D c.rect) (cells_at a key)
    pub hulls : (key l : ℕ) → level_at a key ≡ Some (suc l) →
        All (λ c. odd ≢ Some (key_of c) → c.rect ≡ hull_at a (key_of c)) (cells_at a key)
    pub pending_boxes : All (λ w. IsBox D w.cell.rect) ws
    pub pending_hulls : All (λ w. (l : ℕ) → w.level ≡ suc l → w.cell.rect ≡ hull_at a (key_of w.cell)) ws

  -- the map f leads from the id of each row to its leaf, and from no other id; a pending row keeps an entry, of any leaf
  pub record HasHomes (f : ℤ → Option ℕ) (a : Slab (NodeCells D)) (ws : List (Pending D)) : Type 0 where
    pub home : (key : ℕ) (id : ℤ) → 0 < times_listed id (leaf_cells_at a key) → f id ≡ Some key
    pub there : (key : ℕ) (id : ℤ) → f id ≡ Some key → times_listed id (leaf_cells_at a key) + times_listed id (pending_rows ws) ≡ 1
    pub pending : (id : ℤ) → 0 < times_listed id (pending_rows ws) → IsSome (f id)
