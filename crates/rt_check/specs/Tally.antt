-- How often cells name numbers, counted once for all of the numbers.
use Rattle.std.specs.Prelude.{ℕ, ℤ, Bool, true, false, List, map, min}
use Rattle.rt_check.specs.declared.node.NodeRow.{NodeRow}
use Rattle.rt_check.specs.declared.node.RawCell.{RawCell}
use Rattle.rt_check.specs.declared.tally.Named.{Named}
use Rattle.rt_check.specs.declared.tally.Named.TheVariants.{Nodes, Rows}
use Rattle.rt_check.specs.Shadow.{ShadowLists, numbers_of, ids_of}
use Rattle.rt_check.specs.Conditions.{times_named, leaf_cells, inner_cells}

-- leaves name rows, and the other nodes name nodes
abbrev pub are_named_by_leaves : Named → Bool
are_named_by_leaves Nodes = false
are_named_by_leaves Rows = true

module _ {D : ℕ} where
  -- for each number how many of the cells name it; 2 stands for more
  abbrev pub tallies : List ℤ → List (RawCell D) → List ℕ
  tallies numbers cells = map (λ n. min 2 (times_named n cells)) numbers

  -- the numbers of the nodes, or the ids of the row entries
  abbrev pub named_numbers : Named → ShadowLists D → List ℤ
  named_numbers Nodes s = numbers_of s.nodes
  named_numbers Rows s = ids_of s.rows

  -- the cells that name nodes, or rows
  abbrev pub cells_naming : Named → List (NodeRow D) → List (RawCell D)
  cells_naming Nodes nodes = inner_cells nodes
  cells_naming Rows nodes = leaf_cells nodes

  -- for each node, or for each row entry, how many cells name it
  abbrev pub tallies_of : Named → ShadowLists D → List ℕ
  tallies_of named s = tallies (named_numbers named s) (cells_naming named s.nodes)
