use Rattle.std.proofs.Common.{◌<◌, ◌*◌, ◌+◌, length, arith, ap, ◌∙◌, sym}
use Rattle.rt_tree_nearest.specs.Nearest.{squared_gap_between}
use Rattle.rt_tree_nearest.proofs.Distances.{box_distance_more, box_distance_all}
use Rattle.rt_tree_nearest.proofs.distance.squared_distance.Goals as goal

pub loop-axis-preserved : goal.loop-axis-preserved
loop-axis-preserved g c =
    let within : c.loop-axis.axis < length c.args.one.now = omega arith in
    let other_within : c.loop-axis.axis < length c.args.other.now = omega arith in
    let so_far = c.loop-axis.distance in
    record {
      value = ap (λ n. so_far + n) (c.square-distance.ensures.value ∙ ap (λ n. n * n) c.gap.ensures)
          ∙ ap (λ n. n + squared_gap_between c.range.result c.range-in-loop-axis.result) c.loop-axis.invariant.value
          ∙ sym (box_distance_more c.args.one.now c.args.other.now c.loop-axis.axis c.range.result c.range-in-loop-axis.result within other_within c.range.ensures.value c.range-in-loop-axis.ensures.value);
      bound = omega (arith, c.square-distance.ensures.bound, c.loop-axis.invariant.bound);
    }

pub returns : goal.returns
returns g c =
    c.loop-axis.invariant.value ∙ box_distance_all c.args.one.now c.args.other.now c.loop-axis.axis (omega arith)
