-- The bytes that a tree is written as (own).
use Rattle.std.specs.Prelude.{◌≡◌, ℕ, ◌≤◌, List, length, All, FitsSigned}
use Rattle.std.specs.Int.{w32, w64}
use Rattle.rt_box.specs.Capacity.{IsCapacity}
use Rattle.rt_check.specs.declared.node.NodeRow.{NodeRow}
use Rattle.rt_check.specs.declared.node.RawCell.{RawCell}
use Rattle.rt_check.specs.Shadow.{ShadowLists}
use Rattle.rt_tree_node.specs.Whole.{most_rows_of_a_tree}
use Rattle.rt_tree.specs.Lists.{IsInShape, rows_of}
use Rattle.rt_map.specs.TreeBytes.{tree_bytes}

-- the number has 64 bits; and there is a lo and a hi on each axis, of 32 bits
pub record IsCellWritten {D : ℕ} (cell : RawCell D) : Type 0 where
  pub number : FitsSigned w64 cell.number
  pub axes_lo : length cell.lo ≡ D
  pub axes_hi : length cell.hi ≡ D
  pub lo : All (FitsSigned w32) cell.lo
  pub hi : All (FitsSigned w32) cell.hi

module _ {D : ℕ} where
  -- so has each cell of the node
  abbrev pub IsNodeWritten : NodeRow D → Type 0
  IsNodeWritten node = All IsCellWritten node.cells

  -- the bytes are those of lists that a tree can have: sound, in preorder, and with no more rows than a tree may have; and each
  -- number fits its type
  pub record AreBytesOf (s : ShadowLists D) (bytes : List ℕ) : Type 0 where
    pub shape : IsInShape s
    pub capacity : IsCapacity s.capacity
    pub most : length (rows_of s) ≤ most_rows_of_a_tree
    pub cells : All IsNodeWritten s.nodes
    pub same : tree_bytes s ≡ bytes

-- the bytes are those of a tree of that many axes
abbrev pub IsTreeBytes : ℕ → List ℕ → Type 0
IsTreeBytes axes bytes = (s : ShadowLists axes) × AreBytesOf s bytes
