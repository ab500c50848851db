use Rattle.std.proofs.Common.{◌≡◌, take}
use Rattle.rt_check.specs.Fits.{greatest_hi}
use Rattle.rt_check.proofs.fits.greatest_hi.Given as goal

-- the greatest of the cells so far
abbrev pub invariant-loop-cell : goal.invariant-loop-cell
invariant-loop-cell g l = l.greatest ≡ greatest_hi l.first (take l.cell-index l.others) l.axis
