use Rattle.std.proofs.Common.{arith, ◌≡◌, ap}
use Rattle.std.specs.Int.{int_min, int_max}
use Rattle.std.proofs.lemmas.Int.{ints, clamps}
use Rattle.rt_box.proofs.window.Ends.core.Goals as goal

pub returns : goal.returns
returns c =
    let self = c.args.self in
    let least_is : c.common_part-both.result.lo ≡ int_max self.lo.lo self.hi.lo = ap (λ i. i.lo) c.common_part-both.ensures in
    let greatest_is : c.common_part-both.result.hi ≡ int_min self.lo.hi self.hi.hi = ap (λ i. i.hi) c.common_part-both.ensures in
    λ side fits. (
      (λ a. (
        (omega (arith, ints, clamps, least_is, a.0), omega (arith, ints, clamps, greatest_is, a.1)),
        (omega (arith, ints, clamps, least_is, a.0), omega (arith, ints, clamps, greatest_is, a.1)),
      )),
      (λ w. (
        (omega (arith, ints, clamps, least_is, w.0, w.1), omega (arith, ints, fits.0)),
        (omega (arith, ints, fits.1), omega (arith, ints, clamps, greatest_is, w.0, w.1)),
      )),
    )
