use Rattle.std.proofs.Common.{take}
use Rattle.std.specs.List.{All}
use Rattle.rt_check_dump.specs.InRange.{IsRowInRange}
use Rattle.rt_check_dump.proofs.looks.look_at_rows.Given as goal

-- the rows so far are in range
abbrev pub invariant-loop-row : goal.invariant-loop-row
invariant-loop-row l = All IsRowInRange (take l.row-index l.rows)
