use Rattle.std.proofs.Common.{◌≡◌, take}
use Rattle.rt_check.specs.Fits.{least_lo}
use Rattle.rt_check.proofs.fits.least_lo.Given as goal

-- the least of the cells so far
abbrev pub invariant-loop-cell : goal.invariant-loop-cell
invariant-loop-cell g l = l.least ≡ least_lo l.first (take l.cell-index l.others) l.axis
