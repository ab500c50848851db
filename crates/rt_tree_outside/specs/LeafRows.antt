-- The rows of a tree from outside are those of its arena (own).
use Rattle.std.specs.Prelude.{◌≡◌, ℕ, Bool, count_by}
use Rattle.rt_box.specs.Rect.{los, his}
use Rattle.rt_check.specs.declared.node.RawCell.{RawCell}
use Rattle.rt_check.specs.Shadow.{ShadowLists}
use Rattle.rt_check.specs.Conditions.{leaf_cells}
use Rattle.rt_tree_node.specs.declared.arena.Arena.{Arena}
use Rattle.rt_tree_node.specs.declared.cell.Cell.{Cell}
use Rattle.rt_tree_node.specs.Places.{count_rows}

module _ {D : ℕ} where
  -- a row as a cell
  abbrev pub row_cell : Cell D → RawCell D
  row_cell c = record { number = c.number; lo = los c.rect; hi = his c.rect }

  -- the leaves' cells are the rows: for each test as many pass it
  abbrev pub HasRows : ShadowLists D → Arena D → Type 0
  HasRows s t = (test : RawCell D → Bool) → count_by test (leaf_cells s.nodes) ≡ count_rows (λ c. test (row_cell c)) t.nodes t.pending.items
