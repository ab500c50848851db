-- Trees as bytes (own; nodes in the manner of the blobs of SQLite's R*Tree module, whose cells have eight bytes for the number and
-- four for each coordinate, the highest byte first).
use Rattle.std.specs.Prelude.{ℕ, ℤ, List, [], ◌∷◌, ◌++◌, length}
use Rattle.std.specs.List.{flat_map}
use Rattle.std.specs.Int.{w32, w64, cast_unsigned, to_be_bytes}
use Rattle.rt_check.specs.declared.node.NodeRow.{NodeRow}
use Rattle.rt_check.specs.declared.node.RawCell.{RawCell}
use Rattle.rt_check.specs.Shadow.{ShadowLists}

-- a number of 64 bits, and one of 32, in two's complement
abbrev pub long_bytes : ℤ → List ℕ
long_bytes number = to_be_bytes w64 (cast_unsigned w64 number)

abbrev pub short_bytes : ℤ → List ℕ
short_bytes number = to_be_bytes w32 (cast_unsigned w32 number)

module _ {D : ℕ} where
  -- a cell: its number, its lo on each axis, its hi on each axis
  abbrev pub cell_bytes : RawCell D → List ℕ
  cell_bytes c = long_bytes c.number ++ flat_map short_bytes c.lo ++ flat_map short_bytes c.hi

  -- a node: its level, how many cells it has, and these
  abbrev pub node_bytes : NodeRow D → List ℕ
  node_bytes n = n.level ∷ length n.cells ∷ flat_map cell_bytes n.cells

-- "JDT", the form's version, the number of axes, and the most cells of a node
abbrev pub head_bytes : ℕ → ℕ → List ℕ
head_bytes axes capacity = 74 ∷ 68 ∷ 84 ∷ 1 ∷ axes ∷ capacity ∷ []

module _ {D : ℕ} where
  -- The head, and the nodes in their order. Numbers of nodes, parents and row entries are not written: in a sound tree whose
  -- nodes are in preorder, these tell them.
  abbrev pub tree_bytes : ShadowLists D → List ℕ
  tree_bytes s = head_bytes D s.capacity ++ flat_map node_bytes s.nodes
