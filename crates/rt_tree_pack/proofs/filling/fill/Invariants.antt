use Rattle.std.proofs.Common.{take}
use Rattle.rt_tree_pack.specs.Steps.{Fills}
use Rattle.rt_tree_pack.proofs.filling.fill.Given as goal

abbrev pub invariant-loop-cell : goal.invariant-loop-cell
invariant-loop-cell g l = Fills l.fn.tree l.tree l.key l.level (take l.cell-index l.cells)
