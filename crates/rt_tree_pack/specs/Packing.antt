-- What packing comes to (Leutenegger, Lopez and Edgington, STR: a simple and efficient algorithm for R-tree packing, ICDE
-- 1997: a level's cells are ordered, cut into runs, and each run is a node; the bound of nodes is own).
use Rattle.std.specs.Prelude.{◌≡◌, ℕ, ◌+◌, ◌/◌, ◌≤◌, ◌<◌, Bool, ℤ, List, length, take, slice_get, Some, is_some, All, count_by, if◌then◌else◌}
use Rattle.std.specs.Ordering.{int_eq}
use Rattle.indexmap.specs.IndexMap.{IndexMap, get as leaf_of}
use Rattle.slab.specs.Slab.{slab_len}
use Rattle.rt_box.specs.Rect.{IsBox}
use Rattle.rt_tree_node.specs.declared.arena.Arena.{Arena}
use Rattle.rt_tree_node.specs.declared.cell.Cell.{Cell}
use Rattle.rt_tree_node.specs.Places.{times_listed, count_rows}
use Rattle.rt_tree_node.specs.Whole.{IsWhole, IsBranched, most_rows_of_a_tree}
use Rattle.rt_tree_node.specs.Homes.{KeepsIds}
use Rattle.rt_tree_pack.specs.declared.fault.PackFault.{PackFault}
use Rattle.rt_tree_pack.specs.declared.fault.PackFault.TheVariants.{TooMany, Repeated, Memory}

-- Of a packed tree's nodes, only the root and the last two of each level may have fewer cells than the capacity. So there
-- is at most one node for each half capacity of rows, beside the root.
abbrev pub most_packed_nodes : ℕ → ℕ → ℕ
most_packed_nodes capacity rows = 1 + rows / (capacity / 2)

-- the id at the position stands earlier too, and is the first that does
pub record IsFirstRepeated (ids : List ℤ) (at : ℕ) : Type 0 where
  pub id : ℤ
  pub here : slice_get ids at ≡ Some id
  pub earlier : 0 < count_by (int_eq id) (take at ids)
  pub first : (other : ℤ) → count_by (int_eq other) (take at ids) ≤ 1

-- a fault that is said of rows with these ids holds of them; want of memory says nothing of them
abbrev pub IsFaultOf : List ℤ → PackFault → Type 0
IsFaultOf ids TooMany = most_rows_of_a_tree < length ids
IsFaultOf ids (Repeated at) = IsFirstRepeated ids at
IsFaultOf ids Memory = Unit {0}

module _ {D : ℕ} {S : Type 0} where
  -- no id stands twice among the rows, and these ids have an entry, and no others
  abbrev pub HasEntries : IndexMap ℤ ℕ S → List (Cell D) → Type 0
  HasEntries leaves rows = (id : ℤ) → times_listed id rows ≡ (if is_some (leaf_of int_eq leaves id) then 1 else 0)

module _ {D : ℕ} where
  -- each row has a box, and its id an entry
  pub record AreEntered (t : Arena D) (rows : List (Cell D)) : Type 0 where
    pub boxes : All (λ c. IsBox D c.rect) rows
    pub ids : HasEntries t.leaves rows

  -- the tree has these rows, and no others; it has few nodes
  pub record Packs (old new : Arena D) (rows : List (Cell D)) : Type 0 where
    pub whole : IsWhole new
    pub branched : IsBranched new
    pub pending : new.pending ≡ old.pending
    pub rows_are : (test : Cell D → Bool) → count_rows test new.nodes new.pending.items ≡ count_by test rows
    pub nodes : slab_len new.nodes ≤ most_packed_nodes new.capacity (length rows)
    pub ids : KeepsIds old.leaves new.leaves
    pub capacity : new.capacity ≡ old.capacity
    pub room : new.nodes.capacity ≡ old.nodes.capacity
