-- The nested tree that shapes and rows are those of, and what of it is made (own). No public clause cites this module.
use Rattle.std.specs.Prelude.{◌≡◌, ℕ, zero, suc, ◌+◌, ◌-◌, ◌*◌, ◌≤◌, List, [], ◌∷◌, ◌++◌, ◌==◌, length, map, All}
use Rattle.std.specs.List.{filter, flat_map}
use Rattle.slab.specs.Slab.{slab_len, HasRoomFor}
use Rattle.rt_box.specs.Capacity.{least_fill}
use Rattle.rt_tree_node.specs.declared.arena.Arena.{Arena}
use Rattle.rt_tree_node.specs.declared.cell.Cell.{Cell}
use Rattle.rt_tree_rules.specs.Nested.{Row, Entry, Tree}
use Rattle.rt_tree_node.specs.Whole.{most_rows_of_a_tree}
use Rattle.rt_tree_walk.specs.declared.searching.Row.{Row as ListedRow}
use Rattle.rt_tree_pack.specs.Packing.{IsFirstRepeated}
use Rattle.rt_tree_obeys.specs.View.{entry_in, tree_in}
use Rattle.rt_map.specs.declared.shape.Shape.{Shape}
use Rattle.rt_map.specs.Packing.{ids}

-- how many cells each node of the level has
abbrev pub sizes_at : ℕ → List Shape → List ℕ
sizes_at level shapes = map (λ s. s.cells) (filter (λ s. s.level == level) shapes)

-- the cells of the nodes, one node after the other
abbrev pub cells_in : (l : ℕ) → List (Entry (suc l)) → List (Entry l)
cells_in l nodes = flat_map {X = List (Entry l)} (λ n. n) nodes

-- a node below the root may have that many cells
pub record IsNodeSize (capacity count : ℕ) : Type 0 where
  pub least : least_fill capacity ≤ count
  pub most : count ≤ capacity

module _ {D : ℕ} where
  -- of the nodes of a level some are made, named by the cells `next`; the cells that are left are those of the others, which have
  -- these sizes, and there is room for them
  pub record Awaits (t : Arena D) (level : ℕ) (sizes : List ℕ) (left next : List (Cell D)) (nodes : List (Entry (suc level))) : Type 0 where
    pub others : List (Entry (suc level))
    pub nodes_are : nodes ≡ map (entry_in t.nodes (suc level)) next ++ others
    pub sizes_are : sizes ≡ map (length {A = Entry level}) others
    pub cells_are : map (entry_in t.nodes level) left ≡ cells_in level others
    pub fit : All (λ n. IsNodeSize t.capacity (length {A = Entry level} n)) others
    pub room : HasRoomFor t.nodes (length others)

-- the root may have that many cells
pub record IsRootSize (capacity level count : ℕ) : Type 0 where
  pub most : count ≤ capacity
  pub branched : 1 ≤ level → 2 ≤ count

-- the cells of a level are those of nodes that have the sizes of the shapes, which are in turn the cells of the next level; and after so
-- many levels they are those of the root
abbrev pub LeadsTo : ℕ → List Shape → Tree → ℕ → (l : ℕ) → List (Entry l) → Type 0
LeadsTo capacity shapes tree zero l cells =
    (record { level = l; root = cells } ≡ tree) × IsRootSize capacity l (length {A = Entry l} cells)
LeadsTo capacity shapes tree (suc steps) l cells =
    (nodes : List (Entry (suc l))) × (cells ≡ cells_in l nodes) × (sizes_at l shapes ≡ map (length {A = Entry l}) nodes)
    × All (λ n. IsNodeSize capacity (length {A = Entry l} n)) nodes × LeadsTo capacity shapes tree steps (suc l) nodes

-- the level of the first shape
abbrev pub top_level : List Shape → ℕ
top_level [] = 0
top_level (s ∷ shapes) = s.level

-- the nested tree has nodes of these shapes, and these rows
pub record IsMeant (capacity : ℕ) (shapes : List Shape) (rows : List Row) (tree : Tree) : Type 0 where
  pub top : top_level shapes ≡ tree.level
  pub leads : LeadsTo capacity shapes tree tree.level 0 rows

module _ {D : ℕ} where
  -- the rows of the cells
  abbrev pub rows_in : List (Cell D) → List Row
  rows_in cells = map (λ c. record { id = c.number; rect = c.rect }) cells

  -- the levels below the arena's root are made as the nested tree has them, of so many rows: each node took `least_fill` cells at least
  pub record IsMadeBelow (t : Arena D) (shapes : List Shape) (count : ℕ) (cells : List (Cell D)) (tree : Tree) : Type 0 where
    pub steps : ℕ
    pub levels : t.level + steps ≡ tree.level
    pub leads : LeadsTo t.capacity shapes tree steps t.level (map (entry_in t.nodes t.level) cells)
    pub few : (least_fill t.capacity - 1) * slab_len t.nodes + length cells ≤ count + (least_fill t.capacity - 1)

  -- the rows of a list
  abbrev pub rows_among : List (ListedRow D) → List Row
  rows_among rows = map (λ r. record { id = r.id; rect = r.rect }) rows

  -- the nested tree has nodes of these shapes and these rows: no more than a tree may have, and no id twice
  pub record IsListed (capacity : ℕ) (shapes : List Shape) (rows : List (ListedRow D)) (tree : Tree) : Type 0 where
    pub meant : IsMeant capacity shapes (rows_among rows) tree
    pub most : length rows ≤ most_rows_of_a_tree
    pub once : (at : ℕ) → ¬ IsFirstRepeated (ids rows) at

  -- the arena's nodes are those of the nested tree
  pub record IsMade (t : Arena D) (capacity : ℕ) (tree : Tree) : Type 0 where
    pub tree_is : tree_in t ≡ tree
    pub capacity_is : t.capacity ≡ capacity
