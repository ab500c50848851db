-- A tree from outside, and its rows.
use Rattle.std.specs.Prelude.{ℕ, ◌+◌, ◌-◌, ◌*◌, ◌/◌, ◌^◌, ℤ, List, Option, pos, [], ◌∷◌, None, length, ◌≡◌, ◌≢◌, Bool, Some, find, map, count_by, if◌then◌else◌}
use Rattle.std.specs.Option.{option_map, option_map_or}
use Rattle.rt_box.specs.Capacity.{least_fill}
use Rattle.rt_check.specs.Shadow.{ShadowLists}
use Rattle.rt_check.specs.Conditions.{node_of, IsSound, leaf_cells}
use Rattle.rt_tree_outside.specs.InOrder.{IsPreorder, AreByRisingId}
use Rattle.std.specs.Ordering.{int_eq}
use Rattle.rt_box.specs.declared.interval.Interval.{Interval}
use Rattle.rt_box.specs.Interval.{interval}
use Rattle.rt_check.specs.declared.node.RawCell.{RawCell}
use Rattle.rt_tree_walk.specs.declared.searching.Row.{Row}

-- its nodes and row entries, how many more rows it takes without asking for memory, and the order in which it tells its ids
pub record TreeLists (D : ℕ) : Type 0 where
  pub lists : ShadowLists D
  pub spare : ℕ
  pub ids : List ℤ

module _ {D : ℕ} where
  -- the level of the node of that number, if it is listed
  abbrev pub level_of_number : ShadowLists D → ℤ → Option ℕ
  level_of_number s number = option_map (λ n. n.level) (node_of s.nodes number)

  -- the level of the root
  abbrev pub root_level : ShadowLists D → ℕ
  root_level s = option_map_or (λ n. n.level) (node_of s.nodes s.root) 0

  -- the most nodes of a tree with that many rows: a node for each `least - 1` of them, and one more
  abbrev pub most_nodes : ShadowLists D → ℕ
  most_nodes s = 1 + length s.rows / (least_fill s.capacity - 1)

  -- the least rows of a tree with such a root above the leaves: the root has two cells, and each other node has `least`
  abbrev pub least_rows : ShadowLists D → ℕ
  least_rows s = 2 * least_fill s.capacity ^ root_level s

  -- no rows: the root is a leaf without cells
  abbrev pub empty_lists : ℕ → ShadowLists D
  empty_lists capacity = record {
    capacity = capacity;
    root = pos 1;
    nodes = record { number = pos 1; level = 0; parent = None; cells = [] } ∷ [];
    rows = [];
  }

  -- the checker finds no problem, the nodes are in preorder, and the row entries stand by rising id
  pub record IsInShape (s : ShadowLists D) : Type 0 where
    pub sound : IsSound s
    pub preorder : IsPreorder s
    pub rising : AreByRisingId s.rows

-- on each axis the interval from lo to hi
abbrev pub intervals : List ℤ → List ℤ → List Interval
intervals [] his = []
intervals (lo ∷ los) [] = []
intervals (lo ∷ los) (hi ∷ his) = interval lo hi ∷ intervals los his

module _ {D : ℕ} where
  -- the box of a cell
  abbrev pub box_in : RawCell D → List Interval
  box_in c = intervals c.lo c.hi

  -- the row of a leaf's cell
  abbrev pub row_in : RawCell D → Row D
  row_in c = record { id = c.number; rect = box_in c }

  -- the rows: the cells of the leaves
  abbrev pub rows_of : ShadowLists D → List (Row D)
  rows_of s = map row_in (leaf_cells s.nodes)

  -- the box of the row with that id, if there is one
  abbrev pub box_of : ShadowLists D → ℤ → Option (List Interval)
  box_of s id = option_map (λ r. r.rect) (find (λ r. int_eq id r.id) (rows_of s))

  -- the row came, and each that was there stays: as many rows pass any test as before, and this one beside them
  pub record GainsRow (old new : ShadowLists D) (id : ℤ) (rect : List Interval) : Type 0 where
    pub rows : (test : Row D → Bool) →
        count_by test (rows_of new) ≡ count_by test (rows_of old) + (if test record { id = id; rect = rect } then 1 else 0)
    pub here : box_of new id ≡ Some rect
    pub others : (other : ℤ) → other ≢ id → box_of new other ≡ box_of old other

  -- the row is gone, and each other one stays
  pub record LosesRow (old new : ShadowLists D) (id : ℤ) (rect : List Interval) : Type 0 where
    pub rows : (test : Row D → Bool) →
        count_by test (rows_of new) + (if test record { id = id; rect = rect } then 1 else 0) ≡ count_by test (rows_of old)
    pub was : box_of old id ≡ Some rect
    pub gone : box_of new id ≡ None
    pub others : (other : ℤ) → other ≢ id → box_of new other ≡ box_of old other
