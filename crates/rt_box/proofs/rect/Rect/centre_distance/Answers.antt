use Rattle.std.proofs.Common.{◌<◌, length, arith, ◌∙◌, sym}
use Rattle.rt_box.proofs.Measures.{centre_distance_more, centre_distance_all}
use Rattle.rt_box.proofs.rect.Rect.centre_distance.Goals as goal

pub loop-axis-preserved : goal.loop-axis-preserved
loop-axis-preserved g c =
    let within : c.loop-axis.axis < length c.args.self.now = omega arith in
    let other_within : c.loop-axis.axis < length c.args.other.now = omega arith in
    record {
      value = rw (c.loop-axis.invariant.value, c.apart-distance.ensures.value)
          (sym (centre_distance_more _ _ _ _ _ within other_within c.range.ensures.value c.range-in-loop-axis.ensures.value));
      bound = omega arith;
    }

pub returns-clause-value : goal.returns-clause-value
returns-clause-value g c =
    c.loop-axis.invariant.value ∙ centre_distance_all c.args.self.now c.args.other.now c.loop-axis.axis (omega arith)
