use Rattle.std.proofs.Common.{◌≡◌, take}
use Rattle.rt_check_draw.specs.Levels.{boxes_of}
use Rattle.rt_check_draw.proofs.levels.boxes_of.Given as goal

-- the cells of the rows so far
abbrev pub invariant-loop-row : goal.invariant-loop-row
invariant-loop-row l = l.boxes ≡ boxes_of l.choice (take l.row-index l.rows)
