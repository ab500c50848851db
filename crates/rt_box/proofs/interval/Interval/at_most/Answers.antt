use Rattle.std.proofs.Common.{◌≡◌, w32, FitsSigned, arith, rules}
use Rattle.std.proofs.lemmas.Int.{ints, clamps}
use Rattle.rt_box.proofs.interval.Interval.at_most.Goals as goal

pub returns-in-Ok : goal.returns-in-Ok
returns-in-Ok c =
    let lo_fits : FitsSigned w32 c.args.self.lo = search rules in
    let hi_fits : FitsSigned w32 c.args.self.hi = search rules in
    let least_fits : FitsSigned w32 c.min.result = search rules in
    let bound_fits : FitsSigned w32 c.in-Ok.bound = search rules in
    let bound_is : c.in-Ok.bound ≡ c.args.value = omega (arith, ints, c.in-Ok.ensures) in
    λ z. (
      (λ h. ((omega (arith, ints, h.0), omega (arith, ints, h.1)), omega (arith, ints, h.1))),
      (λ h. (omega (arith, ints, h), omega (arith, ints, clamps, h))),
    )
