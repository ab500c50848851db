use Rattle.std.proofs.Common.{◌+◌, ◌≤◌, take, sum_by, arith, ap, ◌∙◌, sym}
use Rattle.std.proofs.lemmas.List.Sums.{sum_by_more}
use Rattle.rt_box.specs.Rect.{overlap}
use Rattle.rt_box.proofs.Holding.{overlap-le_left}
use Rattle.rt_tree_subtree.proofs.Growth.{growth-none}
use Rattle.rt_tree_subtree.proofs.subtree.common_growth.Given.{Over}
use Rattle.rt_tree_subtree.proofs.subtree.common_growth.Goals as goal
use Rattle.rt_tree_subtree.proofs.subtree.common_growth.Goals.{After-overlap}

grows : (g : Over) (c : After-overlap g) → c.overlap.result ≤ c.overlap-common.result
grows g c =
    omega (arith, overlap-le_left c.args.widened.now c.args.own.now c.other-item.result c.requires.wider)

pub overflow_sub-growth : goal.overflow_sub-growth
overflow_sub-growth g c = grows g c

pub overflow_add-growth : goal.overflow_add-growth
overflow_add-growth g c = omega (arith, c.overlap-common.ensures.bound, c.loop-other.invariant.bound, c.requires.few)

pub loop-other-preserved-then-common-eq0 : goal.loop-other-preserved-then-common-eq0
loop-other-preserved-then-common-eq0 g c = record {
  value = growth-none c.args.others.now c.args.own.now c.args.widened.now c.other-item.result c.loop-other.other-index c.loop-other.growth _
      c.loop-other-test.true c.other-item.is c.requires.wider c.overlap-common.ensures.value c.if-common-eq0.true c.loop-other.invariant.value;
  bound = omega (arith, c.loop-other.invariant.bound);
}

pub loop-other-preserved : goal.loop-other-preserved
loop-other-preserved g c =
    let own = c.args.own.now in
    let widened = c.args.widened.now in
    let own_more = sum_by_more (overlap own) c.args.others.now c.loop-other.other-index c.other-item.result c.loop-other-test.true
    ∙ ap (λ x. sum_by (overlap own) (take c.loop-other.other-index c.args.others.now) + overlap own x) (sym c.other-item.is) in
    let widened_more = sum_by_more (overlap widened) c.args.others.now c.loop-other.other-index c.other-item.result c.loop-other-test.true
    ∙ ap (λ x. sum_by (overlap widened) (take c.loop-other.other-index c.args.others.now) + overlap widened x) (sym c.other-item.is) in
    record {
      value = omega (arith, grows g c, own_more, widened_more, c.overlap-common.ensures.value, c.overlap.ensures.value, c.loop-other.invariant.value);
      bound = omega (arith, c.overlap-common.ensures.bound, c.loop-other.invariant.bound);
    }
