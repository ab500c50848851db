use Rattle.std.proofs.Common.{◌≡◌, take, map}
use Rattle.rt_tree_outside.specs.Outside.{noted, cell_row}
use Rattle.rt_tree_outside.proofs.outside.cell_rows.Given as goal

abbrev pub invariant-loop-at : goal.invariant-loop-at
invariant-loop-at g l = l.rows ≡ map (cell_row (noted l.numbers) l.node.level) (take l.at l.node.cells)
