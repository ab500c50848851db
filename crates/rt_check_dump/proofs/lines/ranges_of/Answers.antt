use Rattle.std.proofs.Common.{◌≡◌, sym, ◌∙◌, ap, arith, ◌-◌, ◌+◌, take, set, ◌<◌, length, length-set, to_z, of_z, w32, FitsSigned, rules}
use Rattle.std.proofs.Math.Facts.{to_z-of_z}
use Rattle.rt_check_dump.specs.Lines.{ranges_of}
use Rattle.rt_check_dump.proofs.Ranges.{joined, ranges-next, ranges-done}
use Rattle.rt_check_dump.proofs.lines.ranges_of.Goals as goal

pub loop-axis-preserved : goal.loop-axis-preserved
loop-axis-preserved g c =
    let i = c.loop-axis.axis in
    let r = c.in_ok-range.range in
    let ws = c.loop-axis.words in
    let lo_fits : FitsSigned w32 r.lo = search rules in
    let hi_fits : FitsSigned w32 r.hi = search rules in
    let lo_same : to_z w32 (of_z w32 r.lo) ≡ r.lo = to_z-of_z lo_fits in
    let hi_same : to_z w32 (of_z w32 r.hi) ≡ r.hi = to_z-of_z hi_fits in
    let low : i < length c.loop-axis.lo = omega (arith, c.loop-axis.invariant.low, c.loop-axis-test.true) in
    let high : i < length c.loop-axis.hi = omega (arith, c.loop-axis.invariant.high, c.loop-axis-test.true) in
    record {
      low = length-set _ _ _ ∙ c.loop-axis.invariant.low;
      high = length-set _ _ _ ∙ c.loop-axis.invariant.high;
      same =
          ap (λ x. joined (take (i + 1) (set c.loop-axis.lo i x)) (take (i + 1) (set c.loop-axis.hi i (to_z w32 (of_z w32 r.hi))))
          (ranges_of (g.row.D - (i + 1)) c.first_range.new.words)) lo_same
          ∙ ap (λ x. joined (take (i + 1) (set c.loop-axis.lo i r.lo)) (take (i + 1) (set c.loop-axis.hi i x))
          (ranges_of (g.row.D - (i + 1)) c.first_range.new.words)) hi_same
          ∙ ap (λ l. joined (take (i + 1) (set c.loop-axis.lo i r.lo)) (take (i + 1) (set c.loop-axis.hi i r.hi))
          (ranges_of (g.row.D - (i + 1)) l)) c.in_ok-range.ensures.rest
          ∙ ranges-next g.row.D i c.loop-axis.lo c.loop-axis.hi ws r c.loop-axis-test.true low high c.in_ok-range.ensures.value
          ∙ c.loop-axis.invariant.same;
    }

pub returns : goal.returns
returns g c =
    let ended : c.loop-axis.axis ≡ g.row.D = omega (arith, c.loop-axis-test.false, c.loop-axis.auto.axis-end) in
    ranges-done g.row.D c.loop-axis.lo c.loop-axis.hi c.loop-axis.words _ c.loop-axis.invariant.low c.loop-axis.invariant.high
    (ap (λ k. joined (take k c.loop-axis.lo) (take k c.loop-axis.hi) (ranges_of (g.row.D - k) c.loop-axis.words)) (sym ended) ∙ c.loop-axis.invariant.same)
