use Rattle.std.proofs.Common.{◌≡◌, ℕ, ◌<◌, length, get_or, arith, ap, sym, subst, inl, inr}
use Rattle.std.proofs.lemmas.Bool.{cases_eq}
use Rattle.std.proofs.lemmas.Int.{ints}
use Rattle.std.proofs.lemmas.List.{get_or_read}
use Rattle.rt_box.specs.declared.interval.Interval.{Interval}
use Rattle.std.specs.Prelude.{◌<ℤ◌}
use Rattle.rt_box.proofs.Lists.{AllZip-from_places}
use Rattle.rt_tree_remove.proofs.condense.lies_inside.Goals as goal

pub loop-axis-preserved : goal.loop-axis-preserved
loop-axis-preserved g c i below d e =
    let outer = c.args.outer.now in
    let inner = c.args.inner.now in
    let axis = c.loop-axis.axis in
    let first : axis < length outer = omega (arith, c.loop-axis-test.true, c.axes-axis-end.ensures.value, c.axes-axis-end.ensures.is_box.axes_are) in
    let second : axis < length inner = omega (arith, c.loop-axis-test.true, c.axes-axis-end.ensures.value, c.facts.ensures.axes_are) in
    let wide : c.range-wide.result ≡ get_or outer axis d = get_or_read outer axis c.range-wide.result first c.range-wide.ensures.value d in
    let narrow : c.range-narrow.result ≡ get_or inner axis e = get_or_read inner axis c.range-narrow.result second c.range-narrow.ensures.value e in
    let low : (get_or outer axis d).lo <ℤ (get_or inner axis e).lo =
    omega (arith, ints, ap (λ (x : Interval). x.lo) wide, ap (λ (x : Interval). x.lo) narrow, c.if-wide-narrow.false) in
    let high : (get_or inner axis e).hi <ℤ (get_or outer axis d).hi =
    omega (arith, ints, ap (λ (x : Interval). x.hi) wide, ap (λ (x : Interval). x.hi) narrow, c.if-narrow-wide.false) in
    elim (cases_eq i axis) [
      | inl same ↦ subst (λ (k : ℕ). ((get_or outer k d).lo <ℤ (get_or inner k e).lo) × ((get_or inner k e).hi <ℤ (get_or outer k d).hi)) (sym same) (low, high)
      | inr other ↦ c.loop-axis.invariant i (omega (arith, below, other)) d e
    ]

pub returns : goal.returns
returns g c yields =
    let outer_long = c.axes-axis-end.ensures.is_box.axes_are in
    let inner_long = c.facts.ensures.axes_are in
    AllZip-from_places (λ o i. (o.lo <ℤ i.lo) × (i.hi <ℤ o.hi)) c.args.outer.now c.args.inner.now (omega (arith, outer_long, inner_long))
    (λ i d e within. c.loop-axis.invariant i (omega (arith, within, outer_long, c.loop-axis-test.false, c.axes-axis-end.ensures.value)) d e)
