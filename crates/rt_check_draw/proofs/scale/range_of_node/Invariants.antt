use Rattle.std.proofs.Common.{◌≡◌, take}
use Rattle.rt_check_draw.specs.Scale.{range_from}
use Rattle.rt_check_draw.proofs.scale.range_of_node.Given as goal

-- the range of the cells so far
abbrev pub invariant-loop-cell : goal.invariant-loop-cell
invariant-loop-cell g l = l.range ≡ range_from l.fn.start (take l.cell-index l.node.cells) l.axis
