use Rattle.std.proofs.Common.{◌≡◌, ◌*◌, ◌^◌, ◌≤◌, ◌+ℤ◌, ◌-ℤ◌, unsigned_abs, w32, FitsSigned, arith, rules, ap}
use Rattle.std.proofs.Math.Nat.{mul-le-mul}
use Rattle.std.proofs.lemmas.Int.{ints}
use Rattle.rt_box.proofs.interval.Interval.apart.Goals as goal
use Rattle.rt_box.proofs.interval.Interval.apart.Goals.{After-from-distance}

distance_is : (c : After-from-distance) →
    c.from-distance.result ≡ unsigned_abs ((c.args.self.lo +ℤ c.args.self.hi) -ℤ (c.args.other.lo +ℤ c.args.other.hi))
distance_is c =
    let lo_fits : FitsSigned w32 c.args.self.lo = search rules in
    let hi_fits : FitsSigned w32 c.args.self.hi = search rules in
    let other_lo_fits : FitsSigned w32 c.args.other.lo = search rules in
    let other_hi_fits : FitsSigned w32 c.args.other.hi = search rules in
    omega (arith, ints)

distance_bound : (c : After-from-distance) → c.from-distance.result ≤ 2 ^ 33
distance_bound c =
    let lo_fits : FitsSigned w32 c.args.self.lo = search rules in
    let hi_fits : FitsSigned w32 c.args.self.hi = search rules in
    let other_lo_fits : FitsSigned w32 c.args.other.lo = search rules in
    let other_hi_fits : FitsSigned w32 c.args.other.hi = search rules in
    omega (arith, ints, distance_is c)

pub returns-clause-value : goal.returns-clause-value
returns-clause-value c = ap (λ d. d * d) (distance_is c)

pub returns-clause-bound : goal.returns-clause-bound
returns-clause-bound c = mul-le-mul (distance_bound c) (distance_bound c)
