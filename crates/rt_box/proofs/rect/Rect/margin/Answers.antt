use Rattle.std.proofs.Common.{◌≡◌, ◌+◌, ◌<◌, length, take, arith}
use Rattle.std.proofs.lemmas.List.Sums.{sum_by_more}
use Rattle.rt_box.specs.Interval.{side}
use Rattle.rt_box.specs.Rect.{margin}
use Rattle.rt_box.proofs.Measures.{FitsSide-box, margin-take_bound}
use Rattle.rt_box.proofs.rect.Rect.margin.Given.{Over}
use Rattle.rt_box.proofs.rect.Rect.margin.Goals as goal
use Rattle.rt_box.proofs.rect.Rect.margin.Goals.{After-from-margin}

step : (g : Over) (c : After-from-margin g) →
    c.loop-axis.margin + c.from-margin.result ≡ margin (take (c.loop-axis.axis + 1) c.args.self.now)
step g c =
    let within : c.loop-axis.axis < length c.args.self.now = omega arith in
    let e = sum_by_more side c.args.self.now c.loop-axis.axis c.range.result within in cc

pub overflow_add-margin : goal.overflow_add-margin
overflow_add-margin g c =
    let is = c.axes-axis-end.ensures.is_box in
    omega (arith, step g c, margin-take_bound c.args.self.now (c.loop-axis.axis + 1) (FitsSide-box _ _ is) (omega arith))

pub returns-clause-bound : goal.returns-clause-bound
returns-clause-bound g c =
    let is = c.axes-axis-end.ensures.is_box in
    omega (arith, c.loop-axis.invariant, margin-take_bound c.args.self.now c.loop-axis.axis (FitsSide-box _ _ is) (omega arith))
