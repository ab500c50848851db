-- An arena in the middle of a change: some nodes are out of shape, and some cells are pending.
use Rattle.std.specs.Prelude.{◌≡◌, ◌≢◌, ℕ, suc, ◌≤◌, List, Some, length, All}
use Rattle.std.specs.Ordering.{int_eq}
use Rattle.indexmap.specs.IndexMap.{get}
use Rattle.slab.specs.Slab.{Slab}
use Rattle.rt_box.specs.Capacity.{IsCapacity, least_fill}
use Rattle.rt_box.specs.Rect.{IsBox}
use Rattle.rt_tree_node.specs.declared.arena.Arena.{Arena}
use Rattle.rt_tree_node.specs.declared.cell.Cell.{Cell}
use Rattle.rt_tree_node.specs.declared.cell.Pending.{Pending}
use Rattle.rt_tree_node.specs.Node.{NodeCells}
use Rattle.rt_tree_node.specs.Places.{key_of, cells_at, level_at, hull_at}
use Rattle.rt_tree_node.specs.Sound.{IsLinked, HasHomes}

module _ {D : ℕ} where
  -- the cell has the least box around its child's cells, unless the child is out of shape
  abbrev pub HasHull : (ℕ → Type 0) → Slab (NodeCells D) → Cell D → Type 0
  HasHull odd a c = (odd (key_of c) → ⊥) → c.rect ≡ hull_at a (key_of c)

  -- as `IsFitted`, except for the nodes that are odd
  pub record IsFittedBut (odd : ℕ → Type 0) (capacity : ℕ) (a : Slab (NodeCells D)) (root : ℕ) (ws : List (Pending D)) : Type 0 where
    pub cap : IsCapacity capacity
    pub some : (key l : ℕ) → level_at a key ≡ Some (suc l) → (odd key → ⊥) → 1 ≤ length (cells_at a key)
    pub least : (key l : ℕ) → level_at a key ≡ Some l → key ≢ root → (odd key → ⊥) → least_fill capacity ≤ length (cells_at a key)
    pub most : (key l : ℕ) → level_at a key ≡ Some l → (odd key → ⊥) → length (cells_at a key) ≤ capacity
    pub boxes : (key : ℕ) → All (λ c. IsBox D c.rect) (cells_at a key)
    pub hulls : (key l : ℕ) → level_at a key ≡ Some (suc l) → All (HasHull odd a) (cells_at a key)
    pub pending_boxes : All (λ w. IsBox D w.cell.rect) ws
    pub pending_hulls : All (λ w. (l : ℕ) → w.level ≡ suc l → HasHull odd a w.cell) ws

  -- sound except for the odd nodes, and with these pending cells, whether they stand in the arena's list or not
  pub record IsOpen (odd : ℕ → Type 0) (t : Arena D) (ws : List (Pending D)) : Type 0 where
    pub linked : IsLinked t.nodes t.root t.level ws
    pub fitted : IsFittedBut odd t.capacity t.nodes t.root ws
    pub homes : HasHomes (get int_eq t.leaves) t.nodes ws
