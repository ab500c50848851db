-- What is read of the bytes of lists (own). No public clause cites this module.
use Rattle.std.specs.Prelude.{◌≡◌, ℕ, ◌+◌, ◌<◌, ◌++◌, true, List, length, map, All}
use Rattle.std.specs.List.{flat_map}
use Rattle.rt_box.specs.Capacity.{IsCapacity}
use Rattle.rt_check.specs.declared.node.NodeRow.{NodeRow}
use Rattle.rt_check.specs.declared.node.RawCell.{RawCell}
use Rattle.rt_check.specs.Shadow.{ShadowLists}
use Rattle.rt_check.specs.Conditions.{is_leaf, is_ordered, leaf_cells}
use Rattle.rt_tree.specs.Lists.{row_in, rows_of}
use Rattle.rt_tree_pack.specs.declared.fault.PackFault.{PackFault}
use Rattle.rt_tree_pack.specs.declared.fault.PackFault.TheVariants.{TooMany as AreTooMany, Repeated, Memory as IsOutOfMemory}
use Rattle.rt_map.specs.declared.bytes_fault.BytesFault.{BytesFault}
use Rattle.rt_map.specs.declared.bytes_fault.BytesFault.TheVariants.{Bad, TooMany, Memory}
use Rattle.rt_map.specs.declared.reading.Parts.{Parts}
use Rattle.rt_map.specs.declared.shape.Shape.{Shape}
use Rattle.rt_map.specs.TreeBytes.{node_bytes}
use Rattle.rt_map.specs.Written.{IsCellWritten}

-- the fault of bytes whose rows make no tree
abbrev pub fault_of_rows : PackFault → BytesFault
fault_of_rows AreTooMany = TooMany
fault_of_rows (Repeated at) = Bad
fault_of_rows IsOutOfMemory = Memory

module _ {D : ℕ} where
  -- how many cells a node has, and its level
  abbrev pub shape_in : NodeRow D → Shape
  shape_in n = record { level = n.level; cells = length n.cells }

  -- the cells are those of a leaf, with a box each
  pub record AreRows (cells : List (RawCell D)) : Type 0 where
    pub written : All IsCellWritten cells
    pub ordered : All (λ c. is_ordered c ≡ true) cells

  -- no node has more cells than a byte tells; their numbers fit, and those of a leaf have a box each
  pub record AreNodes (nodes : List (NodeRow D)) : Type 0 where
    pub few : All (λ n. length n.cells < 256) nodes
    pub written : All (λ n. All IsCellWritten n.cells) nodes
    pub ordered : All (λ n. is_leaf n ≡ true → All (λ c. is_ordered c ≡ true) n.cells) nodes

  -- the nodes' shapes and rows are added to the parts
  pub record ReadsNodes (old new : Parts D) (nodes : List (NodeRow D)) : Type 0 where
    pub capacity : new.capacity ≡ old.capacity
    pub shapes : new.shapes.items ≡ old.shapes.items ++ map shape_in nodes
    pub rows : new.rows.items ≡ old.rows.items ++ map row_in (leaf_cells nodes)

  -- the bytes are those of some nodes, whose rows are added
  abbrev pub CountsNodes : Parts D → Parts D → List ℕ → Type 0
  CountsNodes old new bytes = (nodes : List (NodeRow D)) × (flat_map node_bytes nodes ≡ bytes)
      × (length new.rows.items ≡ length old.rows.items + length (leaf_cells nodes)) × (new.capacity ≡ old.capacity)

  pub record AreParts (s : ShadowLists D) : Type 0 where
    pub capacity : IsCapacity s.capacity
    pub nodes : AreNodes s.nodes

  -- the capacity, the shapes and the rows of the lists
  pub record IsReadAs (parts : Parts D) (s : ShadowLists D) : Type 0 where
    pub capacity : parts.capacity ≡ s.capacity
    pub shapes : parts.shapes.items ≡ map shape_in s.nodes
    pub rows : parts.rows.items ≡ rows_of s
