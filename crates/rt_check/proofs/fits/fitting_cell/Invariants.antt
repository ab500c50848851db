use Rattle.std.proofs.Common.{◌≡◌, ℕ, ◌<◌, length}
use Rattle.rt_check.specs.Conditions.{coordinate}
use Rattle.rt_check.specs.Fits.{least_lo, greatest_hi}
use Rattle.rt_check.proofs.fits.fitting_cell.Given as goal

-- the axes so far are those of the hull
abbrev pub invariant-loop-axis : goal.invariant-loop-axis
invariant-loop-axis g l = record {
  long_lo : length l.fit.lo ≡ g.row.D;
  long_hi : length l.fit.hi ≡ g.row.D;
  fits : (k : ℕ) → k < l.axis → (coordinate l.fit.lo k ≡ least_lo l.first l.others k) × (coordinate l.fit.hi k ≡ greatest_hi l.first l.others k);
}
