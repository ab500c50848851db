use Rattle.std.proofs.Common.{◌≡◌, ◌+◌, ◌*◌, ◌<◌, length, take, arith, ◌∙◌, sym}
use Rattle.rt_box.specs.Rect.{area, common_box}
use Rattle.rt_box.proofs.Measures.{FitsSide-box, overlap-take_bound, overlap_more, overlap_all}
use Rattle.rt_box.proofs.rect.Rect.overlap.Given.{Over}
use Rattle.rt_box.proofs.rect.Rect.overlap.Goals as goal
use Rattle.rt_box.proofs.rect.Rect.overlap.Goals.{After-from-area}

step : (g : Over) (c : After-from-area g) →
    c.loop-axis.area * c.from-area.result ≡ area (take (c.loop-axis.axis + 1) (common_box c.args.self.now c.args.other.now))
step g c =
    let within : c.loop-axis.axis < length c.args.self.now = omega arith in
    let other_within : c.loop-axis.axis < length c.args.other.now = omega arith in
    rw (c.loop-axis.invariant, c.from-area.ensures, c.length-in-loop-axis.ensures, c.common_part.ensures)
    (sym (overlap_more _ _ _ _ _ within other_within c.range-in-loop-axis.ensures.value c.range-in-loop-axis-2.ensures.value))

pub overflow_mul-area : goal.overflow_mul-area
overflow_mul-area g c =
    let is = c.axes-axis-end.ensures.is_box in
    omega (arith, step g c, overlap-take_bound c.args.self.now c.args.other.now (c.loop-axis.axis + 1) (FitsSide-box _ _ is) (omega arith))

pub loop-axis-preserved : goal.loop-axis-preserved
loop-axis-preserved g c = step g c

pub returns-clause-value : goal.returns-clause-value
returns-clause-value g c =
    c.loop-axis.invariant ∙ overlap_all c.args.self.now c.args.other.now c.loop-axis.axis (omega arith)

pub returns-clause-bound : goal.returns-clause-bound
returns-clause-bound g c =
    let is = c.axes-axis-end.ensures.is_box in
    omega (arith, c.loop-axis.invariant, overlap-take_bound c.args.self.now c.args.other.now c.loop-axis.axis (FitsSide-box _ _ is) (omega arith))
