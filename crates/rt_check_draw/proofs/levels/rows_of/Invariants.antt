use Rattle.std.proofs.Common.{◌≡◌, ◌++◌, map, length}
use Rattle.rt_check_draw.specs.Levels.{row_of, down_from}
use Rattle.rt_check_draw.proofs.Drawn.{levels_left}
use Rattle.rt_check_draw.proofs.levels.rows_of.Given as goal

-- the rows so far, and those of the levels that are left
abbrev pub invariant-loop-next : goal.invariant-loop-next
invariant-loop-next g l = l.rows.items ++ map (row_of l.axes l.shadow) (levels_left l.next) ≡ map (row_of l.axes l.shadow) (down_from l.top)

abbrev pub decreases-loop-next : goal.decreases-loop-next
decreases-loop-next g l = length (levels_left l.next)
