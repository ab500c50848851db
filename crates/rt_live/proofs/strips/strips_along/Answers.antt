use Rattle.std.proofs.Common.{rules, arith, ◌∙◌, ap, sym, set, w32, FitsSigned}
use Rattle.rt_box.specs.declared.interval.Interval.{Interval}
use Rattle.rt_live.proofs.Covering.{strips-cover, held-between}
use Rattle.rt_live.proofs.Found.{same_box-Decides}
use Rattle.rt_live.proofs.strips.strips_along.Goals as goal

pub returns : goal.returns
returns g c =
    let was = c.args.was.now in
    let axis = c.args.axis in
    let before = c.range-before.result in
    let after = c.range-after.result in
    let before_lo : FitsSigned w32 before.lo = search rules in
    let before_hi : FitsSigned w32 before.hi = search rules in
    let after_lo : FitsSigned w32 after.lo = search rules in
    let after_hi : FitsSigned w32 after.hi = search rules in
    let same = (same_box-Decides c.in_ok-moved.moved c.args.is.now).0 (sym c.is_same.ensures ∙ c.if-not-is_same.false) in
    strips-cover was c.args.is.now c.in_ok-low.low c.in_ok-high.high axis before after
    (sym c.range-before.ensures.value) (omega (arith, c.requires, c.range-before.ensures.is_box.axes_are))
    (sym same ∙ c.in_ok-moved.ensures)
    (c.in_ok-low.ensures ∙ ap (λ (i : Interval). set was axis i) (c.between.ensures ∙ held-between before.lo after.lo before_lo after_lo))
    (c.in_ok-high.ensures ∙ ap (λ (i : Interval). set was axis i) (c.between-2.ensures ∙ held-between before.hi after.hi before_hi after_hi))
