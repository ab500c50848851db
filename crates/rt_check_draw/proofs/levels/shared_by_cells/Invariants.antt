use Rattle.std.proofs.Common.{◌≡◌, take, min, length}
use Rattle.rt_check_draw.specs.Levels.{shared_from}
use Rattle.rt_check_draw.proofs.levels.shared_by_cells.Given as goal

-- the areas so far, and those of the cells that are left
abbrev pub invariant-loop-rest : goal.invariant-loop-rest
invariant-loop-rest g l = shared_from l.axes l.area l.rest ≡ shared_from l.axes 0 (take (min (length l.node.cells) l.most) l.node.cells)

abbrev pub decreases-loop-rest : goal.decreases-loop-rest
decreases-loop-rest g l = length l.rest
