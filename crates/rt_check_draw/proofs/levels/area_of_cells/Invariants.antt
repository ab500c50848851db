use Rattle.std.proofs.Common.{◌≡◌, take}
use Rattle.rt_check_draw.specs.Levels.{area_of}
use Rattle.rt_check_draw.proofs.levels.area_of_cells.Given as goal

-- the areas of the cells so far
abbrev pub invariant-loop-cell : goal.invariant-loop-cell
invariant-loop-cell g l = l.area ≡ area_of l.axes (take l.cell-index l.node.cells)
