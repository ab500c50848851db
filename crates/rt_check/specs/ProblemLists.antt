-- The list of problems in parts, as the checker finds them. No public clause cites this module.
use Rattle.std.specs.Prelude.{ℕ, Bool, not, ◌||◌, List}
use Rattle.rt_check.specs.declared.node.NodeRow.{NodeRow}
use Rattle.rt_check.specs.declared.node.RawCell.{RawCell}
use Rattle.rt_check.specs.declared.conditions.CellCondition.{CellCondition}
use Rattle.rt_check.specs.declared.conditions.CellCondition.TheVariants.{Names, Ordered, Holds, Fits, Entered}
use Rattle.rt_check.specs.declared.problem.Problem.{Problem}
use Rattle.rt_check.specs.declared.problem.Condition.{Condition}
use Rattle.rt_check.specs.declared.problem.Condition.TheVariants.{HasPlace, NamesChild, IsOrdered, HoldsChild, FitsChild, IsFilled, HasEntry, HasCell}
use Rattle.rt_check.specs.Shadow.{ShadowLists}
use Rattle.rt_check.specs.Conditions.{is_leaf, has_place, names_child, is_ordered, holds_child, fits_child, is_filled, has_entry, has_cell, node_problems, cell_problems_of, cell_problems, row_problems}

abbrev pub condition_of : CellCondition → Condition
condition_of Names = NamesChild
condition_of Ordered = IsOrdered
condition_of Holds = HoldsChild
condition_of Fits = FitsChild
condition_of Entered = HasEntry

-- whether a cell of a node meets the condition
abbrev pub meets_condition : {D : ℕ} → ShadowLists D → CellCondition → NodeRow D → RawCell D → Bool
meets_condition s Names node cell = is_leaf node || names_child s node cell
meets_condition s Ordered node cell = is_ordered cell
meets_condition s Holds node cell = is_leaf node || holds_child s cell
meets_condition s Fits node cell = is_leaf node || fits_child s cell
meets_condition s Entered node cell = not (is_leaf node) || has_entry s node cell

module _ {D : ℕ} where
  -- the problems of the nodes that don't stand at their place
  abbrev pub place_problems : ShadowLists D → List Problem
  place_problems s = node_problems HasPlace (has_place s) s.nodes

  -- the problems of the cells of a node under a condition
  abbrev pub problems_in : ShadowLists D → CellCondition → NodeRow D → List Problem
  problems_in s condition node = cell_problems_of (condition_of condition) (meets_condition s condition) node

  -- the problems of all cells under a condition
  abbrev pub problems_under : ShadowLists D → CellCondition → List Problem
  problems_under s condition = cell_problems (condition_of condition) (meets_condition s condition) s.nodes

  -- the problems of the nodes that have too many cells, or too few
  abbrev pub fill_problems : ShadowLists D → List Problem
  fill_problems s = node_problems IsFilled (is_filled s) s.nodes

  -- the problems of the row entries that don't have exactly one cell
  abbrev pub entry_problems : ShadowLists D → List Problem
  entry_problems s = row_problems HasCell (has_cell s) s.rows
