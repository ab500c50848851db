-- A node, as clauses see it.
use Rattle.std.specs.Prelude.{ℕ, List, Option}
use Rattle.rt_tree_node.specs.declared.cell.Cell.{Cell}

-- a node's level from 0 at the leaves, the key of its parent, and its cells in their order
pub record NodeCells (D : ℕ) : Type 0 where
  pub level : ℕ
  pub parent : Option ℕ
  pub cells : List (Cell D)
