-- The nodes above a node (own).
use Rattle.std.specs.Prelude.{ℕ, zero, suc, List, [], ◌∷◌}
use Rattle.std.specs.Option.{option_map_or}
use Rattle.slab.specs.Slab.{Slab}
use Rattle.rt_tree_node.specs.Node.{NodeCells}
use Rattle.rt_tree_node.specs.Places.{parent_at}

module _ {D : ℕ} where
  -- the key of a node, of its parent, and so on, by a number of levels up
  abbrev pub way_up : Slab (NodeCells D) → ℕ → ℕ → List ℕ
  way_up a zero key = key ∷ []
  way_up a (suc l) key = key ∷ option_map_or (way_up a l) (parent_at a key) []
