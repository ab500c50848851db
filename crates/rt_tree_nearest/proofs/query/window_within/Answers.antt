use Rattle.std.proofs.Common.{rules, ℤ, pos, ◌+ℤ◌, ◌-ℤ◌, arith, ap, ◌∙◌, FitsSigned, to_z, of_z, w32, w64}
use Rattle.std.proofs.lemmas.Int.{to_z-of_z}
use Rattle.rt_tree_nearest.proofs.Aimed.{aimed-all, aimed-more}
use Rattle.rt_tree_nearest.proofs.query.window_within.Goals as goal

pub returns-in_default : goal.returns-in_default
returns-in_default g c = aimed-all g.row.D c.args.target.now c.all-window.result c.args.limit c.all-window.ensures

pub loop-axis-init : goal.loop-axis-init
loop-axis-init g c = record { long = c.all-window.ensures.long; near = aimed-all g.row.D c.args.target.now c.all-window.result c.args.limit c.all-window.ensures }

pub loop-axis-preserved : goal.loop-axis-preserved
loop-axis-preserved g c =
    let before = c.loop-axis.invariant in
    let side = c.range-range.result in
    let hi_fits : FitsSigned w32 side.hi = search rules in
    let lo_fits : FitsSigned w32 side.lo = search rules in
    let hi_long : FitsSigned w64 c.above.result = search rules in
    let lo_long : FitsSigned w64 c.below.result = search rules in
    let hi_is = to_z-of_z w64 c.above.result hi_long ∙ c.above.ensures ∙ ap (λ (z : ℤ). z +ℤ pos c.isqrt-gap.result) (to_z-of_z w32 side.hi hi_fits) in
    let lo_is = to_z-of_z w64 c.below.result lo_long ∙ c.below.ensures ∙ ap (λ (z : ℤ). z -ℤ pos c.isqrt-gap.result) (to_z-of_z w32 side.lo lo_fits) in
    record {
      long = c.narrow-in-loop-axis.ensures.long ∙ c.narrow.ensures.long ∙ before.long;
      near = aimed-more g.row.D c.loop-axis.axis c.isqrt-gap.result c.args.limit c.args.target.now c.loop-axis.window c.narrow.new.self c.narrow-in-loop-axis.new.self
          c.range-range.result (to_z w64 (of_z w64 c.above.result)) (to_z w64 (of_z w64 c.below.result)) hi_is lo_is (omega (arith, c.in-Ok.ensures, c.isqrt-gap.ensures.next_square_gt)) c.loop-axis-test.true
          c.facts.ensures.axes_are before.long c.range-range.ensures.value c.narrow.ensures c.narrow-in-loop-axis.ensures before.near;
    }
