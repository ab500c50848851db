use Rattle.std.proofs.Common.{◌<◌, ◌∙◌, length, arith, rules, w32, take, drop, ◌-◌}
use Rattle.std.proofs.Math.Facts.{to_z-of_z}
use Rattle.std.proofs.lemmas.List.{length-set}
use Rattle.std.specs.Int.RustNames.{FitsSigned}
use Rattle.rt_check.specs.Fits.{least_lo, greatest_hi}
use Rattle.rt_check.proofs.Axes.{coordinates-more}
use Rattle.rt_check.proofs.fits.fitting_cell.Goals as goal

pub loop-axis-preserved : goal.loop-axis-preserved
loop-axis-preserved g c =
    let cells = c.args.cells.now in
    let first = c.first-item.result in
    let others = take (length cells - 1) (drop 1 cells) in
    let fit = c.loop-axis.fit in
    let axis = c.loop-axis.axis in
    let so_far = c.loop-axis.invariant in
    let fits_lo : FitsSigned w32 c.least_lo.result = search rules in
    let fits_hi : FitsSigned w32 c.greatest_hi.result = search rules in
    let inside_lo : axis < length fit.lo = omega (arith, c.loop-axis-test.true, c.axes-axis-end.ensures.value, so_far.long_lo) in
    let inside_hi : axis < length fit.hi = omega (arith, c.loop-axis-test.true, c.axes-axis-end.ensures.value, so_far.long_hi) in
    record {
      long_lo = length-set fit.lo axis _ ∙ so_far.long_lo;
      long_hi = length-set fit.hi axis _ ∙ so_far.long_hi;
      fits = λ k within. (
        coordinates-more fit.lo (least_lo first others) axis _ inside_lo (to_z-of_z fits_lo ∙ c.least_lo.ensures)
            (λ j below. (so_far.fits j below).0) k within,
        coordinates-more fit.hi (greatest_hi first others) axis _ inside_hi (to_z-of_z fits_hi ∙ c.greatest_hi.ensures)
            (λ j below. (so_far.fits j below).1) k within,
      );
    }
