use Rattle.std.proofs.Common.{take}
use Rattle.rt_check.specs.Fits.{AllFit}
use Rattle.rt_check.proofs.fits.fitting_cells.Given as goal

-- the nodes so far have their cells
abbrev pub invariant-loop-node : goal.invariant-loop-node
invariant-loop-node g l = AllFit (take l.node-index l.nodes) l.fits.items
