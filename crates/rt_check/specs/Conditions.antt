-- The nine conditions on a shadow, and the list of its problems (own, in the manner of SQLite's
-- `rtreecheck`; the least fill by Beckmann, Kriegel, Schneider, Seeger 1990, section 4.2).
use Rattle.std.specs.Prelude.{◌≡◌, ℕ, zero, suc, ◌+◌, ℤ, pos, Bool, true, false, not, ◌&&◌, ◌||◌, List, [], ◌∷◌, ◌++◌, Option, None, Some, is_none, find, length, nat_le, ◌==◌, int_le, slice_index_or, count_by, map, filter, if◌then◌else◌}
use Rattle.std.specs.Ordering.{int_eq}
use Rattle.std.specs.Option.{option_map_or, option_eq}
use Rattle.std.specs.List.{flat_map, list_any, list_all, enumerate_from}
use Rattle.rt_box.specs.Capacity.{least_fill}
use Rattle.rt_check.specs.declared.node.NodeRow.{NodeRow}
use Rattle.rt_check.specs.declared.node.RawCell.{RawCell}
use Rattle.rt_check.specs.declared.node.RowEntry.{RowEntry}
use Rattle.rt_check.specs.declared.problem.Problem.{Problem}
use Rattle.rt_check.specs.declared.problem.Condition.{Condition}
use Rattle.rt_check.specs.declared.problem.Condition.TheVariants.{HasRoot, HasPlace, NamesChild, IsOrdered, HoldsChild, FitsChild, IsFilled, HasEntry, HasCell}
use Rattle.rt_check.specs.Shadow.{ShadowLists}

-- the number by which a condition is printed
abbrev pub code_of : Condition → ℕ
code_of HasRoot = 1
code_of HasPlace = 2
code_of NamesChild = 3
code_of IsOrdered = 4
code_of HoldsChild = 5
code_of FitsChild = 6
code_of IsFilled = 7
code_of HasEntry = 8
code_of HasCell = 9

-- each axis below n passes the test
abbrev pub each_axis : (ℕ → Bool) → ℕ → Bool
each_axis test zero = true
each_axis test (suc n) = each_axis test n && test n

-- the coordinate on an axis
abbrev pub coordinate : List ℤ → ℕ → ℤ
coordinate list axis = slice_index_or list axis (pos 0)

-- the row entry of that id, if it is listed
abbrev pub entry_of : List RowEntry → ℤ → Option RowEntry
entry_of rows id = find (λ r. int_eq id r.id) rows

module _ {D : ℕ} where
  -- leaves are on level 0
  abbrev pub is_leaf : NodeRow D → Bool
  is_leaf node = node.level == 0

  -- the node of that number, if it is listed
  abbrev pub node_of : List (NodeRow D) → ℤ → Option (NodeRow D)
  node_of nodes number = find (λ n. int_eq number n.number) nodes

  -- the cells of the leaves, which name rows
  abbrev pub leaf_cells : List (NodeRow D) → List (RawCell D)
  leaf_cells nodes = flat_map (λ n. if is_leaf n then n.cells else []) nodes

  -- the cells of the other nodes, which name nodes
  abbrev pub inner_cells : List (NodeRow D) → List (RawCell D)
  inner_cells nodes = flat_map (λ n. if is_leaf n then [] else n.cells) nodes

  -- how many of the cells name that number
  abbrev pub times_named : ℤ → List (RawCell D) → ℕ
  times_named number cells = count_by (λ c. int_eq number c.number) cells

  -- the root is the node with the root's number
  abbrev pub is_root : ShadowLists D → NodeRow D → Bool
  is_root s node = int_eq node.number s.root

  -- C1: the root's number is listed, without a parent
  abbrev pub has_root : ShadowLists D → Bool
  has_root s = option_map_or (λ root. is_none root.parent) (node_of s.nodes s.root) false

  -- the parent is listed, on the next level
  abbrev pub is_below : ShadowLists D → NodeRow D → Option ℤ → Bool
  is_below s node None = false
  is_below s node (Some parent) = option_map_or (λ p. p.level == node.level + 1) (node_of s.nodes parent) false

  -- C2: the node is the root; or its parent is listed, on the next level, and exactly one cell names it
  abbrev pub has_place : ShadowLists D → NodeRow D → Bool
  has_place s node = is_root s node || (is_below s node node.parent && (times_named node.number (inner_cells s.nodes) == 1))

  -- C3: the cell names a listed node whose parent is this node
  abbrev pub names_child : ShadowLists D → NodeRow D → RawCell D → Bool
  names_child s node cell = option_map_or (λ child. option_eq int_eq child.parent (Some node.number)) (node_of s.nodes cell.number) false

  -- C4: on each axis lo is at most hi
  abbrev pub is_ordered : RawCell D → Bool
  is_ordered cell = each_axis (λ axis. int_le (coordinate cell.lo axis) (coordinate cell.hi axis)) D

  -- on each axis the inner cell's range lies within the outer one's
  abbrev pub lies_in : RawCell D → RawCell D → Bool
  lies_in inner outer =
      each_axis (λ axis. int_le (coordinate outer.lo axis) (coordinate inner.lo axis)
      && int_le (coordinate inner.hi axis) (coordinate outer.hi axis)) D

  -- C5: if the cell names a listed node, that node's cells lie in the cell
  abbrev pub holds_child : ShadowLists D → RawCell D → Bool
  holds_child s cell = option_map_or (λ child. list_all (λ x. lies_in x cell) child.cells) (node_of s.nodes cell.number) true

  -- on each axis some of the cells reaches down to the cell's lo, and some up to its hi
  abbrev pub is_reached : RawCell D → List (RawCell D) → Bool
  is_reached cell cells =
      each_axis (λ axis. list_any (λ x. int_eq (coordinate x.lo axis) (coordinate cell.lo axis)) cells
      && list_any (λ x. int_eq (coordinate x.hi axis) (coordinate cell.hi axis)) cells) D

  -- no cell goes beyond the cell, and it is reached on each axis: it is their least lo and greatest hi
  abbrev pub is_hull : RawCell D → List (RawCell D) → Bool
  is_hull cell cells = list_all (λ x. lies_in x cell) cells && is_reached cell cells

  -- C6: if the cell names a listed node that has cells, the cell is their least lo and greatest hi
  abbrev pub fits_child : ShadowLists D → RawCell D → Bool
  fits_child s cell = option_map_or (λ child. (length child.cells == 0) || is_hull cell child.cells) (node_of s.nodes cell.number) true

  -- the least number of cells: a leaf that is the root may be empty, another root has two
  abbrev pub least_cells : ShadowLists D → NodeRow D → ℕ
  least_cells s node = if is_root s node then (if is_leaf node then 0 else 2) else least_fill s.capacity

  -- C7: the node has at most as many cells as the capacity, and its least number of them
  abbrev pub is_filled : ShadowLists D → NodeRow D → Bool
  is_filled s node = nat_le (length node.cells) s.capacity && nat_le (least_cells s node) (length node.cells)

  -- C8: the cell has a row entry with its id and this node as leaf
  abbrev pub has_entry : ShadowLists D → NodeRow D → RawCell D → Bool
  has_entry s node cell = option_map_or (λ r. int_eq r.leaf node.number) (entry_of s.rows cell.number) false

  -- C9: the entry's id is that of exactly one cell of the leaves
  abbrev pub has_cell : ShadowLists D → RowEntry → Bool
  has_cell s row = times_named row.id (leaf_cells s.nodes) == 1

-- what is listed of the elements that fail a test
abbrev pub failing : {X P : Type 0} → (X → Bool) → (X → P) → List X → List P
failing test entry xs = map entry (filter (λ x. not (test x)) xs)

-- the list's elements with their positions, counted from 1
abbrev pub numbered : {X : Type 0} → List X → List (ℕ × X)
numbered xs = enumerate_from 1 xs

module _ {D : ℕ} where
  -- the problem of a root that isn't there, or has a parent
  abbrev pub root_problems : ShadowLists D → List Problem
  root_problems s = if has_root s then [] else record { condition = HasRoot; node = s.root; position = 0 } ∷ []

  -- the problems of the nodes that fail a test
  abbrev pub node_problems : Condition → (NodeRow D → Bool) → List (NodeRow D) → List Problem
  node_problems condition test nodes = failing test (λ n. record { condition = condition; node = n.number; position = 0 }) nodes

  -- the problems of the cells of a node that fail a test
  abbrev pub cell_problems_of : Condition → (NodeRow D → RawCell D → Bool) → NodeRow D → List Problem
  cell_problems_of condition test node =
      failing (λ c. test node c.1) (λ c. record { condition = condition; node = node.number; position = c.0 }) (numbered node.cells)

  -- the problems of all cells that fail a test
  abbrev pub cell_problems : Condition → (NodeRow D → RawCell D → Bool) → List (NodeRow D) → List Problem
  cell_problems condition test nodes = flat_map (cell_problems_of condition test) nodes

-- the problems of the row entries that fail a test
abbrev pub row_problems : Condition → (RowEntry → Bool) → List RowEntry → List Problem
row_problems condition test rows = failing (λ r. test r.1) (λ r. record { condition = condition; node = r.1.leaf; position = r.0 }) (numbered rows)

module _ {D : ℕ} where
  -- the problems of a shadow: by condition, and then in the order of its lists
  abbrev pub problems_of : ShadowLists D → List Problem
  problems_of s = root_problems s
      ++ node_problems HasPlace (has_place s) s.nodes
      ++ cell_problems NamesChild (λ n c. is_leaf n || names_child s n c) s.nodes
      ++ cell_problems IsOrdered (λ n c. is_ordered c) s.nodes
      ++ cell_problems HoldsChild (λ n c. is_leaf n || holds_child s c) s.nodes
      ++ cell_problems FitsChild (λ n c. is_leaf n || fits_child s c) s.nodes
      ++ node_problems IsFilled (is_filled s) s.nodes
      ++ cell_problems HasEntry (λ n c. not (is_leaf n) || has_entry s n c) s.nodes
      ++ row_problems HasCell (has_cell s) s.rows

  -- a shadow without a problem
  abbrev pub IsSound : ShadowLists D → Type 0
  IsSound s = problems_of s ≡ []
