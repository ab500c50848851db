-- The rows of a tree, as a list.
use Rattle.std.specs.Prelude.{ℕ, List, map}
use Rattle.std.specs.List.{flat_map}
use Rattle.rt_tree_node.specs.declared.arena.Arena.{Arena}
use Rattle.rt_tree_node.specs.Places.{leaf_cells_at}
use Rattle.rt_tree_walk.specs.declared.searching.Row.{Row}
use Rattle.rt_tree_walk.specs.Search.{row_of}
use Rattle.rt_tree_walk.specs.Preorder.{tree_keys}

module _ {D : ℕ} where
  -- the rows of a tree, leaf by leaf in preorder
  abbrev pub rows_in : Arena D → List (Row D)
  rows_in t = flat_map (λ key. map row_of (leaf_cells_at t.nodes key)) (tree_keys t)
