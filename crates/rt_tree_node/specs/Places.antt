-- What stands at the keys of a slab of nodes.
use Rattle.std.specs.Prelude.{ℕ, zero, suc, ◌+◌, Bool, ℤ, List, [], ◌∷◌, Option, None, Some, map, count_by, sum_by, nat_eq, unsigned_abs, pos, slice_index_or}
use Rattle.std.specs.Ordering.{int_eq}
use Rattle.std.specs.Option.{option_map_or}
use Rattle.std.specs.List.{flat_map}
use Rattle.slab.specs.Slab.{Slab, get}
use Rattle.rt_box.specs.declared.interval.Interval.{Interval}
use Rattle.rt_box.specs.Hull.{hull}
use Rattle.rt_tree_node.specs.declared.cell.Cell.{Cell}
use Rattle.rt_tree_node.specs.declared.cell.Pending.{Pending}
use Rattle.rt_tree_node.specs.Node.{NodeCells}

module _ {D : ℕ} where
  -- the key of the node that a cell above the leaves names
  abbrev pub key_of : Cell D → ℕ
  key_of c = unsigned_abs c.number

  abbrev pub rects : List (Cell D) → List (List Interval)
  rects cells = map (λ c. c.rect) cells

  abbrev pub numbers : List (Cell D) → List ℤ
  numbers cells = map (λ c. c.number) cells

  -- the cells at some positions, in the order of the positions; `no_cell` is read past the end alone
  abbrev pub no_cell : Cell D
  no_cell = record { number = pos 0; rect = [] }

  abbrev pub picked : List (Cell D) → List ℕ → List (Cell D)
  picked cells positions = map (λ p. slice_index_or cells p no_cell) positions

  -- the number of the cell at a position; `d` is read past the end alone
  abbrev pub number_at : List (Cell D) → ℕ → Cell D → ℤ
  number_at cells at d = (slice_index_or cells at d).number

  -- how many of the cells name the node at the key
  abbrev pub times_named : ℕ → List (Cell D) → ℕ
  times_named key cells = count_by (λ c. nat_eq (key_of c) key) cells

  -- how many of the cells have that id
  abbrev pub times_listed : ℤ → List (Cell D) → ℕ
  times_listed id cells = count_by (λ c. int_eq id c.number) cells

  -- the cells of a place: none if it is vacant
  abbrev pub cells_of : Option (NodeCells D) → List (Cell D)
  cells_of None = []
  cells_of (Some n) = n.cells

  -- the cells if the node is a leaf, and if it isn't
  abbrev pub leaf_part : ℕ → List (Cell D) → List (Cell D)
  leaf_part zero cells = cells
  leaf_part (suc l) cells = []

  abbrev pub inner_part : ℕ → List (Cell D) → List (Cell D)
  inner_part zero cells = []
  inner_part (suc l) cells = cells

  abbrev pub leaf_cells_of : Option (NodeCells D) → List (Cell D)
  leaf_cells_of None = []
  leaf_cells_of (Some n) = leaf_part n.level n.cells

  abbrev pub inner_cells_of : Option (NodeCells D) → List (Cell D)
  inner_cells_of None = []
  inner_cells_of (Some n) = inner_part n.level n.cells

  abbrev pub level_of : Option (NodeCells D) → Option ℕ
  level_of None = None
  level_of (Some n) = Some n.level

  abbrev pub parent_of : Option (NodeCells D) → Option ℕ
  parent_of None = None
  parent_of (Some n) = n.parent

  -- the same at a key
  abbrev pub cells_at : Slab (NodeCells D) → ℕ → List (Cell D)
  cells_at a key = cells_of (get a key)

  abbrev pub leaf_cells_at : Slab (NodeCells D) → ℕ → List (Cell D)
  leaf_cells_at a key = leaf_cells_of (get a key)

  abbrev pub inner_cells_at : Slab (NodeCells D) → ℕ → List (Cell D)
  inner_cells_at a key = inner_cells_of (get a key)

  abbrev pub level_at : Slab (NodeCells D) → ℕ → Option ℕ
  level_at a key = level_of (get a key)

  abbrev pub parent_at : Slab (NodeCells D) → ℕ → Option ℕ
  parent_at a key = parent_of (get a key)

  -- the least box around the cells of the node
  abbrev pub hull_at : Slab (NodeCells D) → ℕ → List Interval
  hull_at a key = hull (rects (cells_at a key))

  -- the cells of the parent, which is above the leaves
  abbrev pub cells_above : Slab (NodeCells D) → ℕ → List (Cell D)
  cells_above a key = option_map_or (inner_cells_at a) (parent_at a key) []

  -- cells that are pending for a node of a level
  abbrev pub pending_at : ℕ → List (Cell D) → List (Pending D)
  pending_at l cells = map (λ c. record { level = l; cell = c }) cells

  -- the pending cells for a leaf, which are rows, and those for another node
  abbrev pub pending_rows : List (Pending D) → List (Cell D)
  pending_rows ws = flat_map (λ w. leaf_part w.level (w.cell ∷ [])) ws

  abbrev pub pending_nodes : List (Pending D) → List (Cell D)
  pending_nodes ws = flat_map (λ w. inner_part w.level (w.cell ∷ [])) ws

  -- a number for each place, summed over the slab
  abbrev pub sum_over : (Option (NodeCells D) → ℕ) → Slab (NodeCells D) → ℕ
  sum_over measure a = sum_by measure a.slots

  -- how many rows pass the test, in the leaves and among the pending cells
  abbrev pub count_rows : (Cell D → Bool) → Slab (NodeCells D) → List (Pending D) → ℕ
  count_rows test a ws = sum_over (λ place. count_by test (leaf_cells_of place)) a + count_by test (pending_rows ws)
