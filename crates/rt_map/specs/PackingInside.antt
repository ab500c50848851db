-- How a tree is made of rows. No public clause cites this module.
use Rattle.std.specs.Prelude.{◌≡◌, ℕ, ◌≤◌, List, length, vec_capacity}
use Rattle.indexmap.specs.IndexMap.{index_map_len}
use Rattle.rt_tree_node.specs.declared.arena.Arena.{Arena}
use Rattle.rt_tree_node.specs.declared.cell.Cell.{Cell}
use Rattle.rt_tree_node.specs.Whole.{HasRoom}
use Rattle.rt_tree_pack.specs.Packing.{AreEntered}
use Rattle.rt_tree_walk.specs.declared.searching.Row.{Row}
use Rattle.rt_tree_outside.specs.Outside.{outside}
use Rattle.rt_map.specs.Packing.{IsPackedOf}
use Rattle.rt_tree.specs.Bare.{IsBare}
use Rattle.rt_tree.specs.Kept.{IsKeptWith}

module _ {D : ℕ} where
  -- the cell of a row
  abbrev pub cell_of : Row D → Cell D
  cell_of r = record { number = r.id; rect = r.rect }

  -- the tree has no rows; it has room for these, and an entry for each
  pub record IsReadyFor (t : Arena D) (capacity : ℕ) (rows : List (Cell D)) : Type 0 where
    pub bare : IsBare t
    pub entered : AreEntered t rows
    pub entries : index_map_len t.leaves ≡ length rows
    pub room : HasRoom t (length rows)
    pub pending_room : 1152 ≤ vec_capacity t.pending
    pub capacity_is : t.capacity ≡ capacity

  -- the nodes of a tree that has these rows
  pub record IsArenaOf (t : Arena D) (capacity : ℕ) (rows : List (Row D)) : Type 0 where
    pub kept : IsKeptWith t 0
    pub packed : IsPackedOf (outside t) capacity rows
