use Rattle.std.proofs.Common.{◌+◌, ◌*◌, take, drop, refl, sym, ap, subst, ◌∙◌, below_more}
use Rattle.rt_calls.specs.Numbers.{AreOrdered}
use Rattle.rt_calls.proofs.Writing.{times_more}
use Rattle.rt_calls.proofs.numbers.first_bad.Goals as goal

pub loop-place-preserved : goal.loop-place-preserved
loop-place-preserved g c = record {
  from = ap (λ n. n + 2 * g.row.D) c.loop-place.invariant.from ∙ sym (times_more c.loop-place.place (2 * g.row.D));
  ordered = below_more _ _ c.loop-place.invariant.ordered
      (subst (λ n. AreOrdered g.row.D (take (2 * g.row.D) (drop n c.args.boxes.now))) c.loop-place.invariant.from (c.in-Some.ensures.ordered.0 refl));
}
