-- Shadows in preorder: a node is listed right before what is below it, cell by cell (Knuth, The Art of Computer Programming, volume 1, section 2.3.1).
use Rattle.std.specs.Prelude.{◌≡◌, ℕ, zero, suc, ◌+◌, ◌<◌, ℤ, pos, List, [], ◌∷◌, length, slice_index_or, sum_by, ◌<ℤ◌}
use Rattle.std.specs.List.{AllPairs}
use Rattle.std.specs.Option.{option_map_or}
use Rattle.rt_check.specs.declared.node.NodeRow.{NodeRow}
use Rattle.rt_check.specs.declared.node.RawCell.{RawCell}
use Rattle.rt_check.specs.declared.node.RowEntry.{RowEntry}
use Rattle.rt_check.specs.Shadow.{ShadowLists}
use Rattle.rt_check.specs.Conditions.{node_of}

module _ {D : ℕ} where
  -- the cells of the node of that number
  abbrev pub cells_of_number : List (NodeRow D) → ℤ → List (RawCell D)
  cells_of_number nodes number = option_map_or (λ n. n.cells) (node_of nodes number) []

  -- how many nodes the subtree has of the node of that number, on the level l
  abbrev pub nodes_in : List (NodeRow D) → ℕ → ℤ → ℕ
  nodes_in nodes zero number = 1
  nodes_in nodes (suc l) number = 1 + sum_by (λ c. nodes_in nodes l c.number) (cells_of_number nodes number)

  -- the first cell names the node at the place, and each further one the first node after the subtree of the cell before
  abbrev pub AreInOrder : List (NodeRow D) → ℕ → ℕ → List (RawCell D) → Type 0
  AreInOrder nodes l place [] = Unit {0}
  AreInOrder nodes l place (c ∷ cs) = (c.number ≡ pos place) × AreInOrder nodes l (place + nodes_in nodes l c.number) cs

  -- numbers count the nodes from 1, the root's is 1, and the cells of each node above the leaves name the nodes that follow it
  pub record IsPreorder (s : ShadowLists D) : Type 0 where
    pub root_first : s.root ≡ pos 1
    pub numbered : (at : ℕ) (d : NodeRow D) → at < length s.nodes → (slice_index_or s.nodes at d).number ≡ pos (at + 1)
    pub followed : (at l : ℕ) (d : NodeRow D) → at < length s.nodes → (slice_index_or s.nodes at d).level ≡ suc l →
        AreInOrder s.nodes l (at + 2) (slice_index_or s.nodes at d).cells

-- entries by rising id
abbrev pub AreByRisingId : List RowEntry → Type 0
AreByRisingId rows = AllPairs (λ r s. r.id <ℤ s.id) rows
