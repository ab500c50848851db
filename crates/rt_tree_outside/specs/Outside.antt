-- A tree from outside: its nodes in preorder, numbered from 1, and its row entries by rising id.
use Rattle.std.specs.Prelude.{◌≡◌, ℕ, zero, suc, ◌<◌, ℤ, pos, List, [], ◌∷◌, ◌++◌, map, Contains, Option, int_le, if◌then◌else◌, slice_index, unwrap_or, All}
use Rattle.std.specs.Option.{option_map, option_map_or, ForSome}
use Rattle.std.specs.Ordering.{int_eq}
use Rattle.slab.specs.Slab.{Slab, get}
use Rattle.indexmap.specs.IndexMap.{IndexMap, get as leaf_of, keys}
use Rattle.rt_box.specs.Rect.{los, his}
use Rattle.rt_check.specs.declared.node.NodeRow.{NodeRow}
use Rattle.rt_check.specs.declared.node.RawCell.{RawCell}
use Rattle.rt_check.specs.declared.node.RowEntry.{RowEntry}
use Rattle.rt_check.specs.Shadow.{ShadowLists}
use Rattle.rt_tree_node.specs.declared.arena.Arena.{Arena}
use Rattle.rt_tree_node.specs.declared.cell.Cell.{Cell}
use Rattle.rt_tree_node.specs.Node.{NodeCells}
use Rattle.rt_tree_node.specs.Places.{key_of, level_of, parent_of, cells_of}
use Rattle.rt_tree_walk.specs.Preorder.{tree_keys, number_in}

-- the number into its place in a rising list
abbrev pub inserted : ℤ → List ℤ → List ℤ
inserted x [] = x ∷ []
inserted x (y ∷ ys) = if int_le x y then x ∷ y ∷ ys else y ∷ inserted x ys

-- the numbers in rising order
abbrev pub rising : List ℤ → List ℤ
rising [] = []
rising (x ∷ xs) = inserted x (rising xs)

-- the row's leaf by its number
abbrev pub row_entry : (ℕ → ℤ) → (ℤ → Option ℕ) → ℤ → RowEntry
row_entry number leaf id = record { id = id; leaf = option_map_or number (leaf id) (pos 0) }

module _ {D : ℕ} where
  -- a leaf's cell names a row by its id, and another cell a node by its number
  abbrev pub cell_number : (ℕ → ℤ) → ℕ → Cell D → ℤ
  cell_number number zero c = c.number
  cell_number number (suc l) c = number (key_of c)

  abbrev pub cell_row : (ℕ → ℤ) → ℕ → Cell D → RawCell D
  cell_row number l c = record { number = cell_number number l c; lo = los c.rect; hi = his c.rect }

  -- what stands at a key, with numbers in the place of keys
  abbrev pub node_row : (ℕ → ℤ) → ℕ → Option (NodeCells D) → NodeRow D
  node_row number key place = record {
    number = number key;
    level = unwrap_or (level_of place) 0;
    parent = option_map number (parent_of place);
    cells = map (cell_row number (unwrap_or (level_of place) 0)) (cells_of place);
  }

  abbrev pub outside : Arena D → ShadowLists D
  outside t =
      let number = number_in (tree_keys t) in
      record {
        capacity = t.capacity;
        root = pos 1;
        nodes = map (λ key. node_row number key (get t.nodes key)) (tree_keys t);
        rows = map (row_entry number (leaf_of int_eq t.leaves)) (rising (keys t.leaves));
      }

-- the number noted for a key
abbrev pub noted : List ℕ → ℕ → ℤ
noted numbers key = pos (slice_index numbers key)

-- each listed key has its number noted
abbrev pub HasNumbers : List ℕ → List ℕ → Type 0
HasNumbers order numbers = (key : ℕ) → Contains order key → noted numbers key ≡ number_in order key

-- the entry of a row, by noted numbers
abbrev pub noted_entry : {S : Type 0} → List ℕ → IndexMap ℤ ℕ S → ℤ → RowEntry
noted_entry numbers leaves id = row_entry (noted numbers) (leaf_of int_eq leaves) id

module _ {D : ℕ} where
  -- the node at a key, by noted numbers
  abbrev pub noted_node : List ℕ → Slab (NodeCells D) → ℕ → NodeRow D
  noted_node numbers a key = node_row (noted numbers) key (get a key)

  -- the nodes at the keys are the listed ones, by noted numbers
  abbrev pub AreNoted : List ℕ → Slab (NodeCells D) → List ℕ → List (NodeRow D) → Type 0
  AreNoted numbers a order listed = map (noted_node numbers a) order ≡ listed

  -- the shadow with more nodes, or with more rows
  abbrev pub with_nodes : ShadowLists D → List (NodeRow D) → ShadowLists D
  with_nodes s nodes = record s { nodes = s.nodes ++ nodes }

  abbrev pub with_rows : ShadowLists D → List RowEntry → ShadowLists D
  with_rows s rows = record s { rows = s.rows ++ rows }

  -- the node's own key, its parent's and its children's are below the bound
  pub record AreKnown (bound key : ℕ) (n : NodeCells D) : Type 0 where
    pub own : key < bound
    pub parent : ForSome n.parent (λ p. p < bound)
    pub children : All (λ c. 0 < n.level → key_of c < bound) n.cells
