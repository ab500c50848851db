-- A tree seen from outside, as lists (in the manner of the shadow tables of SQLite's R*Tree module:
-- `%_node`, `%_parent` and `%_rowid`).
use Rattle.std.specs.Prelude.{ℕ, ◌-◌, ℤ, List, [], ◌∷◌, ◌++◌, map, length, slice_get, slice_set}
use Rattle.std.specs.Option.{option_map_or}
use Rattle.rt_check.specs.declared.node.NodeRow.{NodeRow}
use Rattle.rt_check.specs.declared.node.RowEntry.{RowEntry}
use Rattle.rt_check.specs.declared.node.RawCell.{RawCell}

-- a capacity, the root's number, the nodes and the row entries
pub record ShadowLists (D : ℕ) : Type 0 where
  pub capacity : ℕ
  pub root : ℤ
  pub nodes : List (NodeRow D)
  pub rows : List RowEntry

module _ {D : ℕ} where
  -- the numbers of the nodes
  abbrev pub numbers_of : List (NodeRow D) → List ℤ
  numbers_of nodes = map (λ n. n.number) nodes

-- the ids of the row entries
abbrev pub ids_of : List RowEntry → List ℤ
ids_of rows = map (λ r. r.id) rows

-- the list with its last element changed
abbrev pub with_last : {X : Type 0} → (X → X) → List X → List X
with_last change xs = option_map_or (λ x. slice_set xs (length xs - 1) (change x)) (slice_get xs (length xs - 1)) xs

module _ {D : ℕ} where
  -- the last node has one cell more
  abbrev pub with_cell : ShadowLists D → RawCell D → ShadowLists D
  with_cell s cell = record s { nodes = with_last (λ n. record n { cells = n.cells ++ cell ∷ [] }) s.nodes }
