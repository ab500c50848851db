use Rattle.std.proofs.Common.{arith, ◌<◌, refl, pos, subst, length, get_or, inl, inr, ◌∙◌}
use Rattle.std.proofs.lemmas.Bool.{cases_eq}
use Rattle.std.proofs.lemmas.List.{length-set, get_or_default, get_or-set_same, get_or-set_other}
use Rattle.rt_box.specs.declared.window.Ends.{Ends}
use Rattle.rt_box.specs.Interval.{interval}
use Rattle.rt_box.specs.Ends.{HasCore}
use Rattle.rt_box.proofs.Windows.{IsCore-all}
use Rattle.rt_box.proofs.window.Window.core.Goals as goal

-- what a read past the end would give
abbrev read : Ends
read = record { lo = interval (pos 0) (pos 0); hi = interval (pos 0) (pos 0) }

pub loop-axis-init : goal.loop-axis-init
loop-axis-init g c = (c.self.told, (λ i e r below. absurd (omega (arith, below))), (λ i e above. refl))

pub loop-axis-preserved : goal.loop-axis-preserved
loop-axis-preserved g c =
    let before = c.loop-axis.invariant in
    let axes = c.loop-axis.axes in
    let axis = c.loop-axis.axis in
    let within : axis < length axes = omega (arith, before.0, c.loop-axis-test.true) in
    let here : (e : Ends) → HasCore (get_or axes axis e) c.core.result = λ e. subst (λ x. HasCore x c.core.result) (get_or_default axes axis read e within) c.core.ensures in (
      length-set axes axis c.core.result ∙ before.0,
      (λ i e r below.
          elim (cases_eq i axis) [
            | inl same ↦ rw (same, get_or-set_same axes axis c.core.result r within, ← before.2 axis e (omega arith)) (here e)
            | inr ne ↦ rw (get_or-set_other axes axis i c.core.result r ne) (before.1 i e r (omega (arith, below, ne)))
          ]),
      (λ i e above. get_or-set_other axes axis i c.core.result e (omega (arith, above)) ∙ before.2 i e (omega (arith, above))),
    )

pub invariant_of-result : goal.invariant_of-result
invariant_of-result g c = c.loop-axis.invariant.0

pub returns : goal.returns
returns g c = IsCore-all g.row.D c.self.inside.axes c.loop-axis.axes c.args.self.now c.self.view_is c.self.told c.loop-axis.invariant.0
    (λ i e r l. c.loop-axis.invariant.1 i e r (omega (arith, c.loop-axis-test.false)))
