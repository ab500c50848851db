use Rattle.std.proofs.Common.{◌≡◌, take, map, filter}
use Rattle.rt_check_draw.specs.Levels.{is_drawn}
use Rattle.rt_check_draw.proofs.levels.levels_of.Given as goal

-- the levels of the rows so far
abbrev pub invariant-loop-row : goal.invariant-loop-row
invariant-loop-row l = l.levels.items ≡ map (λ row. row.level) (filter (λ row. is_drawn l.choice l.rows row.level) (take l.row-index l.rows))
