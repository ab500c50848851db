-- Changes of one node of a slab.
use Rattle.std.specs.Prelude.{◌≡◌, ℕ, List, ◌++◌, Some}
use Rattle.slab.specs.Slab.{Slab, get, Updates, slab_len}
use Rattle.rt_tree_node.specs.declared.cell.Cell.{Cell}
use Rattle.rt_tree_node.specs.Node.{NodeCells}

module _ {D : ℕ} where
  -- the node at the key is now this one; every other place, the number of nodes and the room are the same
  pub record Puts (old new : Slab (NodeCells D)) (key : ℕ) (node : NodeCells D) : Type 0 where
    pub updates : Updates old new key (Some node)
    pub len : slab_len new ≡ slab_len old
    pub room : new.capacity ≡ old.capacity

  -- the same if the node is what `change` makes of the one before
  abbrev pub Changes : (NodeCells D → NodeCells D) → Slab (NodeCells D) → Slab (NodeCells D) → ℕ → Type 0
  Changes change old new key = (node : NodeCells D) → get old key ≡ Some node → Puts old new key (change node)

  -- the node with more cells at the end
  abbrev pub with_more : List (Cell D) → NodeCells D → NodeCells D
  with_more cells n = record n { cells = n.cells ++ cells }
