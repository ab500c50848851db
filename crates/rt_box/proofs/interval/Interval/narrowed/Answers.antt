use Rattle.std.proofs.Common.{w64, FitsSigned, arith, rules}
use Rattle.std.proofs.lemmas.Int.{ints}
use Rattle.rt_box.proofs.interval.Interval.narrowed.Goals as goal

pub returns-in-Le : goal.returns-in-Le
returns-in-Le c = rw c.in-Le.is (λ z. (
  (λ h. let k = (c.at_most-in-Le.ensures z).0 h in (k.0, omega (arith, ints, k.1))),
  (λ h. (c.at_most-in-Le.ensures z).1 (h.0, omega (arith, ints, h.1))),
))

pub returns-in-Ge : goal.returns-in-Ge
returns-in-Ge c = rw c.in-Ge.is (λ z. (
  (λ h. let k = (c.at_least-in-Ge.ensures z).0 h in (k.0, omega (arith, ints, k.1))),
  (λ h. (c.at_least-in-Ge.ensures z).1 (h.0, omega (arith, ints, h.1))),
))

pub returns-in-Some : goal.returns-in-Some
returns-in-Some c =
    let fits : FitsSigned w64 c.in-Some.bound = search rules in
    rw c.in-Lt.is (λ z. (
      (λ h. let k = (c.at_most-in-Some.ensures z).0 h in (k.0, omega (arith, ints, k.1, c.in-Some.ensures))),
      (λ h. (c.at_most-in-Some.ensures z).1 (h.0, omega (arith, ints, h.1, c.in-Some.ensures))),
    ))

pub returns-in-Some-checked_add : goal.returns-in-Some-checked_add
returns-in-Some-checked_add c =
    let fits : FitsSigned w64 c.in-Some-checked_add.bound = search rules in
    rw c.in-Gt.is (λ z. (
      (λ h. let k = (c.at_least-in-Some-checked_add.ensures z).0 h in (k.0, omega (arith, ints, k.1, c.in-Some-checked_add.ensures))),
      (λ h. (c.at_least-in-Some-checked_add.ensures z).1 (h.0, omega (arith, ints, h.1, c.in-Some-checked_add.ensures))),
    ))

pub returns-in-Eq : goal.returns-in-Eq
returns-in-Eq c = rw c.in-Eq.is (λ z. (
  (λ h. let k = (c.at_most.ensures z).0 h in let j = (c.at_least.ensures z).0 k.0 in (j.0, omega (arith, ints, k.1, j.1))),
  (λ h. (c.at_most.ensures z).1 ((c.at_least.ensures z).1 (h.0, omega (arith, ints, h.1)), omega (arith, ints, h.1))),
))
