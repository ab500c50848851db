use Rattle.std.proofs.Common.{◌≡◌, ◌+◌, ◌*◌, ◌<◌, length, take, arith}
use Rattle.rt_box.specs.Rect.{area}
use Rattle.rt_box.proofs.Measures.{FitsSide-box, area-take_bound, area_more}
use Rattle.rt_box.proofs.rect.Rect.area.Given.{Over}
use Rattle.rt_box.proofs.rect.Rect.area.Goals as goal
use Rattle.rt_box.proofs.rect.Rect.area.Goals.{After-from-area}

step : (g : Over) (c : After-from-area g) →
    c.loop-axis.area * c.from-area.result ≡ area (take (c.loop-axis.axis + 1) c.args.self.now)
step g c =
    let within : c.loop-axis.axis < length c.args.self.now = omega arith in
    let e = area_more c.args.self.now c.loop-axis.axis c.range-in-loop-axis.result within in cc

pub overflow_mul-area : goal.overflow_mul-area
overflow_mul-area g c =
    let is = c.axes-axis-end.ensures.is_box in
    omega (arith, step g c, area-take_bound c.args.self.now (c.loop-axis.axis + 1) (FitsSide-box _ _ is) (omega arith))

pub loop-axis-preserved : goal.loop-axis-preserved
loop-axis-preserved g c = step g c

pub returns-clause-bound : goal.returns-clause-bound
returns-clause-bound g c =
    let is = c.axes-axis-end.ensures.is_box in
    omega (arith, c.loop-axis.invariant, area-take_bound c.args.self.now c.loop-axis.axis (FitsSide-box _ _ is) (omega arith))
