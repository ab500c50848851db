use Rattle.std.proofs.Common.{rules, arith, ◌≡◌, true, false, ℤ, ◌≤ℤ◌, w32, FitsSigned, to_z-of_z}
use Rattle.std.specs.Int.{int_min, int_max}
use Rattle.std.proofs.lemmas.Bool.{iff_false}
use Rattle.std.proofs.lemmas.Int.{ints, clamps}
use lib.Signed.{le_z}
use Rattle.rt_box.proofs.Windows.{MayHoldSide-some, MayHoldSide-from}
use Rattle.rt_box.proofs.window.Ends.reach.Goals as goal
use Rattle.rt_box.proofs.window.Ends.reach.Goals.{else-has_numbers-via-then-has_numbers+then-has_numbers-2+else-self, else-has_numbers-via-then-has_numbers+else-has_numbers-2, else-has_numbers-via-else-has_numbers}

refused : (a b : ℤ) → le_z a b ≡ false → a ≤ℤ b → ⊥
refused a b h le = grind (arith, ints)

passed : (a b : ℤ) → le_z a b ≡ true → a ≤ℤ b
passed a b h = grind (arith, ints)

pub returns-then-self : goal.returns-then-self
returns-then-self c =
    let least_fits : FitsSigned w32 c.min.result = search rules in
    let greatest_fits : FitsSigned w32 c.max.result = search rules in
    let lo_fits : FitsSigned w32 c.args.self.lo.lo = search rules in
    let hi_fits : FitsSigned w32 c.args.self.hi.hi = search rules in
    let lo_hi_fits : FitsSigned w32 c.args.self.lo.hi = search rules in
    let hi_lo_fits : FitsSigned w32 c.args.self.hi.lo = search rules in
    let min_is : c.min.result ≡ int_min c.args.self.lo.hi c.args.self.hi.hi = omega (arith, ints, clamps) in
    let max_is : c.max.result ≡ int_max c.args.self.lo.lo c.args.self.hi.lo = omega (arith, ints, clamps) in
    let lo = c.has_numbers.ensures.0 c.if-has_numbers.true in
    let hi = c.has_numbers-then-has_numbers.ensures.0 c.if-has_numbers-2.true in
    let both = passed c.args.self.lo.lo c.args.self.hi.hi (rw (to_z-of_z lo_fits, to_z-of_z hi_fits) at c.if-self.true) in
    rw (to_z-of_z least_fits, to_z-of_z greatest_fits) (λ side fits ordered. (
      (λ a. MayHoldSide-from c.args.self side ordered lo hi both
          (omega (arith, ints, clamps, min_is, a.0)) (omega (arith, ints, clamps, min_is, a.0))
          (omega (arith, ints, clamps, max_is, a.1)) (omega (arith, ints, clamps, max_is, a.1))),
      (λ m. (
        (omega (arith, ints, fits.0), omega (arith, ints, clamps, min_is, m.1, m.2, m.3.0, m.3.1)),
        (omega (arith, ints, clamps, max_is, m.1, m.2, m.3.0, m.3.1), omega (arith, ints, fits.1)),
      )),
    ))

pub returns : goal.returns
returns c = λ side fits ordered. (
  (λ a. absurd (omega (arith, ints, a.0))),
  (λ m.
      let some = MayHoldSide-some c.args.self side m in
      let lo_fits : FitsSigned w32 c.args.self.lo.lo = search rules in
      let hi_fits : FitsSigned w32 c.args.self.hi.hi = search rules in
      elim c.else-has_numbers.branch [
        | else-has_numbers-via-then-has_numbers+then-has_numbers-2+else-self w ↦
            absurd (refused c.args.self.lo.lo c.args.self.hi.hi (rw (to_z-of_z lo_fits, to_z-of_z hi_fits) at w.if-self.false) some.2)
        | else-has_numbers-via-then-has_numbers+else-has_numbers-2 w ↦ absurd (iff_false w.has_numbers-then-has_numbers.ensures w.if-has_numbers-2.false some.1)
        | else-has_numbers-via-else-has_numbers w ↦ absurd (iff_false c.has_numbers.ensures w.if-has_numbers.false some.0)
      ]),
)
