-- What a tree's nodes keep between two calls. Source: own.
use Rattle.std.specs.Prelude.{◌≡◌, ℕ, ◌+◌, ◌≤◌, [], vec_capacity}
use Rattle.indexmap.specs.IndexMap.{spare, index_map_len}
use Rattle.rt_tree_node.specs.declared.arena.Arena.{Arena}
use Rattle.rt_tree_node.specs.Whole.{IsWhole, IsBranched, HasRoom, row_count, most_rows_of_a_tree}

module _ {D : ℕ} where
  -- the nodes are sound and no cell is pending; there is room for the rows and for that many more
  pub record IsKeptWith (t : Arena D) (more : ℕ) : Type 0 where
    pub some : 1 ≤ D
    pub few : D ≤ 3
    pub whole : IsWhole t
    pub branched : IsBranched t
    pub idle : t.pending.items ≡ []
    pub ids : index_map_len t.leaves ≡ row_count t
    pub rows : row_count t ≤ most_rows_of_a_tree
    pub room : HasRoom t (row_count t + more)
    pub leaves_room : more ≤ spare t.leaves
    pub pending_room : 1152 ≤ vec_capacity t.pending
