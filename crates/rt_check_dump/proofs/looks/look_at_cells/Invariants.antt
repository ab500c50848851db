use Rattle.std.proofs.Common.{take}
use Rattle.std.specs.List.{All}
use Rattle.rt_check_dump.specs.InRange.{IsCellInRange}
use Rattle.rt_check_dump.proofs.looks.look_at_cells.Given as goal

-- the cells so far are in range
abbrev pub invariant-loop-cell : goal.invariant-loop-cell
invariant-loop-cell g l = All IsCellInRange (take l.cell-index l.cells)
