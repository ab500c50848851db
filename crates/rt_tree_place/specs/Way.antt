-- The way up from a node to the root.
use Rattle.std.specs.Prelude.{◌≡◌, ℕ, zero, suc, ◌<◌, Some}
use Rattle.slab.specs.Slab.{Slab}
use Rattle.rt_tree_node.specs.Node.{NodeCells}
use Rattle.rt_tree_node.specs.Places.{times_named, inner_cells_at, parent_at}

module _ {D : ℕ} where
  -- a number of steps up, each to the parent, which names the node, lead from the key to the root
  abbrev pub LeadsUp : Slab (NodeCells D) → ℕ → ℕ → ℕ → Type 0
  LeadsUp a root zero key = key ≡ root
  LeadsUp a root (suc n) key =
      (p : ℕ) × (parent_at a key ≡ Some p) × (0 < times_named key (inner_cells_at a p)) × LeadsUp a root n p
