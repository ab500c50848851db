use Rattle.std.proofs.Common.{arith, ◌<◌, subst, length, get_or, inl, inr, ◌∙◌}
use Rattle.std.proofs.lemmas.Bool.{cases_eq}
use Rattle.std.proofs.lemmas.List.{length-set, get_or_default, get_or-set_same, get_or-set_other}
use Rattle.rt_box.specs.declared.interval.Interval.{Interval}
use Rattle.rt_box.specs.Ends.{AreAround}
use Rattle.rt_box.proofs.Windows.{IsAround-all}
use Rattle.rt_box.proofs.window.Window.around.Goals as goal

pub loop-axis-preserved : goal.loop-axis-preserved
loop-axis-preserved g c =
    let before = c.loop-axis.invariant in
    let axes = c.loop-axis.axes in
    let axis = c.loop-axis.axis in
    let rect = c.args.rect.now in
    let side = c.side.result.now in
    let within : axis < length axes = omega (arith, before.0, c.loop-axis-test.true) in
    let in_rect : axis < length rect = omega (arith, c.facts.ensures.axes_are, c.loop-axis-test.true) in
    let here : (d : Interval) → AreAround (get_or rect axis d) c.around.result =
    λ d. subst (λ x. AreAround x c.around.result) (c.side.ensures.value ∙ get_or_default rect axis side d in_rect) c.around.ensures in (
      length-set axes axis c.around.result ∙ before.0,
      (λ i e d below.
          elim (cases_eq i axis) [
            | inl same ↦ rw (same, get_or-set_same axes axis c.around.result e within) (here d)
            | inr ne ↦ rw (get_or-set_other axes axis i c.around.result e ne) (before.1 i e d (omega (arith, below, ne)))
          ]),
    )

pub returns : goal.returns
returns g c = IsAround-all g.row.D c.loop-axis.axes c.args.rect.now c.loop-axis.invariant.0 c.facts.ensures.axes_are
    (λ i e d l. c.loop-axis.invariant.1 i e d (omega (arith, c.loop-axis-test.false)))
