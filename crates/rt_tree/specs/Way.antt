-- The way from the root to a leaf, and trees that differ along a way alone.
use Rattle.std.specs.Prelude.{◌≡◌, ◌≢◌, ℕ, zero, suc, ℤ, List, [], ◌∷◌, ◌++◌, Option, None, Some, map, nat_eq, slice_get, remove, Contains, if◌then◌else◌}
use Rattle.std.specs.Option.{option_map_or}
use Rattle.std.specs.List.{AllZip}
use Rattle.std.specs.Ordering.{int_eq}
use Rattle.rt_box.specs.declared.interval.Interval.{Interval}
use Rattle.rt_box.specs.Rect.{los, his}
use Rattle.rt_check.specs.declared.node.NodeRow.{NodeRow}
use Rattle.rt_check.specs.declared.node.RawCell.{RawCell}
use Rattle.rt_check.specs.Shadow.{ShadowLists}
use Rattle.rt_check.specs.Conditions.{node_of, entry_of}
use Rattle.rt_tree_subtree.specs.Subtree.{IsBestChild}
use Rattle.rt_tree_outside.specs.InOrder.{cells_of_number}
use Rattle.rt_tree.specs.Lists.{root_level, box_in}

module _ {D : ℕ} where
  -- the boxes of the cells
  abbrev pub boxes_in : List (RawCell D) → List (List Interval)
  boxes_in cells = map box_in cells

  -- the cell of a row
  abbrev pub cell_with : ℤ → List Interval → RawCell D
  cell_with id rect = record { number = id; lo = los rect; hi = his rect }

  -- from the node of the number, best children lead a new box down by a number of levels to the leaf, through the nodes of
  -- the path: the number first, the leaf last (Beckmann, Kriegel, Schneider, Seeger 1990, section 4.1)
  abbrev pub LeadsTo : List (NodeRow D) → ℕ → ℤ → List Interval → ℤ → List ℤ → Type 0
  LeadsTo nodes zero number rect leaf path = (leaf ≡ number) × (path ≡ number ∷ [])
  LeadsTo nodes (suc l) number rect leaf path =
      (at : ℕ) × (c : RawCell D) × (rest : List ℤ) × IsBestChild (nat_eq l 0) (boxes_in (cells_of_number nodes number)) rect at
      × (slice_get (cells_of_number nodes number) at ≡ Some c) × (path ≡ number ∷ rest) × LeadsTo nodes l c.number rect leaf rest

  -- the number of the node's parent
  abbrev pub parent_of_number : List (NodeRow D) → ℤ → Option ℤ
  parent_of_number nodes number = option_map_or (λ n. n.parent) (node_of nodes number) None

  -- the number of a node, of its parent, and so on, by a number of levels up
  abbrev pub way_up : List (NodeRow D) → ℕ → ℤ → List ℤ
  way_up nodes zero number = number ∷ []
  way_up nodes (suc l) number = number ∷ option_map_or (way_up nodes l) (parent_of_number nodes number) []

  -- the cell names what it named; it has the box that it had, unless it names a node of the path
  pub record KeepsCell (path : List ℤ) (old new : RawCell D) : Type 0 where
    pub number : new.number ≡ old.number
    pub box : (Contains path old.number → ⊥) → new ≡ old

  -- the node has the number, the level, the parent and the cells that it had; above the leaves the cells that name a
  -- node of the path may have other boxes
  pub record KeepsNode (path : List ℤ) (old new : NodeRow D) : Type 0 where
    pub number : new.number ≡ old.number
    pub level : new.level ≡ old.level
    pub parent : new.parent ≡ old.parent
    pub rows : old.level ≡ 0 → new.cells ≡ old.cells
    pub cells : AllZip (KeepsCell path) old.cells new.cells

  -- the node with other cells, if it has that number
  abbrev pub with_cells : ℤ → (List (RawCell D) → List (RawCell D)) → NodeRow D → NodeRow D
  with_cells number change node = if int_eq number node.number then record node { cells = change node.cells } else node

  -- the leaf's cells changed, and of all else only boxes of cells that name a node of the path
  pub record ChangesLeaf (old new : ShadowLists D) (leaf : ℤ) (path : List ℤ) (change : List (RawCell D) → List (RawCell D)) : Type 0 where
    pub root : new.root ≡ old.root
    pub nodes : AllZip (KeepsNode path) (map (with_cells leaf change) old.nodes) new.nodes

  -- the row is the leaf's last cell and has its entry; of all else only the boxes of the cells above it changed
  pub record JoinsLeaf (old new : ShadowLists D) (leaf : ℤ) (path : List ℤ) (cell : RawCell D) : Type 0 where
    pub changes : ChangesLeaf old new leaf path (λ cells. cells ++ cell ∷ [])
    pub here : entry_of new.rows cell.number ≡ Some record { id = cell.number; leaf = leaf }
    pub others : (other : ℤ) → other ≢ cell.number → entry_of new.rows other ≡ entry_of old.rows other

  -- the cell left its leaf, and its entry is gone; of all else only the boxes of the cells above it changed
  pub record LeavesLeaf (old new : ShadowLists D) (leaf : ℤ) (at : ℕ) (cell : RawCell D) : Type 0 where
    pub was : slice_get (cells_of_number old.nodes leaf) at ≡ Some cell
    pub changes : ChangesLeaf old new leaf (way_up old.nodes (root_level old) leaf) (λ cells. remove cells at)
    pub gone : entry_of new.rows cell.number ≡ None
    pub others : (other : ℤ) → other ≢ cell.number → entry_of new.rows other ≡ entry_of old.rows other
