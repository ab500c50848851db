-- What is below a node (own).
use Rattle.std.specs.Prelude.{◌≡◌, ℕ, zero, suc, List, [], length, Option, Some, IfSome}
use Rattle.std.specs.List.{flat_map}
use Rattle.slab.specs.Slab.{Slab}
use Rattle.rt_tree_node.specs.declared.cell.Cell.{Cell}
use Rattle.rt_tree_node.specs.Node.{NodeCells}
use Rattle.rt_tree_node.specs.Places.{key_of, cells_at, level_at}
use Rattle.rt_tree_node.specs.Sound.{IsLinked}

module _ {D : ℕ} where
  -- the rows of a node of the level: a leaf's cells, or the rows of the children
  abbrev pub rows_below : Slab (NodeCells D) → ℕ → ℕ → List (Cell D)
  rows_below a zero key = cells_at a key
  rows_below a (suc l) key = flat_map (λ c. rows_below a l (key_of c)) (cells_at a key)

  -- how many rows there are below the node at a key, if that is known
  abbrev pub CountsBelow : Slab (NodeCells D) → ℕ → Option ℕ → Type 0
  CountsBelow a key known = (l : ℕ) → level_at a key ≡ Some l → IfSome known (λ count. count ≡ length (rows_below a l key))

  -- the nodes hang together, and no cell is pending
  pub record HangTogether (a : Slab (NodeCells D)) : Type 0 where
    pub root : ℕ
    pub level : ℕ
    pub linked : IsLinked a root level []
