-- A tree that is made of a list of rows (Leutenegger, Lopez and Edgington, STR: a simple and efficient algorithm for R-tree
-- packing, ICDE 1997; the bound of nodes is own).
use Rattle.std.specs.Prelude.{◌≡◌, ℕ, ◌≤◌, Bool, ℤ, List, length, map, count_by}
use Rattle.rt_check.specs.Shadow.{ShadowLists}
use Rattle.rt_tree_pack.specs.Packing.{most_packed_nodes}
use Rattle.rt_tree_walk.specs.declared.searching.Row.{Row}
use Rattle.rt_tree.specs.Lists.{rows_of}

module _ {D : ℕ} where
  -- the ids of rows
  abbrev pub ids : List (Row D) → List ℤ
  ids rows = map (λ r. r.id) rows

  -- the tree has these rows, and no others, and it has few nodes
  pub record IsPackedOf (s : ShadowLists D) (capacity : ℕ) (rows : List (Row D)) : Type 0 where
    pub rows_are : (test : Row D → Bool) → count_by test (rows_of s) ≡ count_by test rows
    pub entries : length s.rows ≡ length rows
    pub nodes : length s.nodes ≤ most_packed_nodes capacity (length rows)
    pub capacity_is : s.capacity ≡ capacity
