use Rattle.std.proofs.Common.{rules, arith, ◌∙◌, FitsSigned, to_z, of_z, w32, w64}
use Rattle.std.proofs.lemmas.Int.{to_z-of_z}
use Rattle.rt_box.proofs.Narrowing.{Admits-unlimited}
use Rattle.rt_tree_join.proofs.Boxes.{touches-more, touching-all}
use Rattle.rt_live.proofs.touching.touching.Goals as goal

pub loop-axis-init : goal.loop-axis-init
loop-axis-init g c = record {
  long = c.all-window.ensures.long;
  touches = λ b is. ((λ admitted. λ k d e less. absurd (omega arith)), (λ meets. Admits-unlimited g.row.D c.all-window.result b c.all-window.ensures is));
}

pub loop-axis-preserved : goal.loop-axis-preserved
loop-axis-preserved g c =
    let before = c.loop-axis.invariant in
    let side = c.range-range.result in
    let hi_fits : FitsSigned w32 side.hi = search rules in
    let lo_fits : FitsSigned w32 side.lo = search rules in
    let hi_long : FitsSigned w64 c.from.result = search rules in
    let lo_long : FitsSigned w64 c.from-in-loop-axis.result = search rules in
    let hi_is = to_z-of_z w64 c.from.result hi_long ∙ c.from.ensures ∙ to_z-of_z w32 side.hi hi_fits in
    let lo_is = to_z-of_z w64 c.from-in-loop-axis.result lo_long ∙ c.from-in-loop-axis.ensures ∙ to_z-of_z w32 side.lo lo_fits in
    record {
      long = c.narrow-in-loop-axis.ensures.long ∙ c.narrow.ensures.long ∙ before.long;
      touches = touches-more g.row.D c.loop-axis.axis c.args.rect.now c.loop-axis.window c.narrow.new.self c.narrow-in-loop-axis.new.self c.range-range.result
          (to_z w64 (of_z w64 c.from.result)) (to_z w64 (of_z w64 c.from-in-loop-axis.result)) hi_is lo_is c.loop-axis-test.true c.facts.ensures.axes_are before.long
          c.range-range.ensures.value c.narrow.ensures c.narrow-in-loop-axis.ensures before.touches;
    }

pub returns : goal.returns
returns g c = touching-all g.row.D c.args.rect.now c.loop-axis.window c.facts.ensures.axes_are
    (λ b is.
    let so = c.loop-axis.invariant.touches b is in
    ((λ admitted. λ k d e less. so.0 admitted k d e (omega (arith, less, c.loop-axis-test.false))), (λ meets. so.1 (λ k d e less. meets k d e (omega (arith, less, c.loop-axis.auto))))))
