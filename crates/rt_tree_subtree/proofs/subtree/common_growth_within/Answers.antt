use Rattle.std.proofs.Common.{arith}
use Rattle.rt_box.proofs.Holding.{overlap-le_left}
use Rattle.rt_tree_subtree.proofs.Growth.{growth-more, growth-none, growth-exceeds}
use Rattle.rt_tree_subtree.proofs.subtree.common_growth_within.Goals as goal

pub overflow_sub-grown : goal.overflow_sub-grown
overflow_sub-grown g c =
    omega (arith, overlap-le_left c.args.widened.now c.args.own.now c.other-item.result c.requires)

pub returns-then-grown-limit : goal.returns-then-grown-limit
returns-then-grown-limit g c =
    growth-exceeds c.args.others.now c.args.own.now c.args.widened.now c.other-item.result c.loop-other.other-index c.loop-other.growth c.args.limit _ _
    c.loop-other-test.true c.other-item.is c.requires c.overlap-common.ensures.value c.overlap.ensures.value
    c.loop-other.invariant.value c.loop-other.invariant.small c.if-grown-limit.true

pub loop-other-preserved-then-common-eq0 : goal.loop-other-preserved-then-common-eq0
loop-other-preserved-then-common-eq0 g c = record {
  value = growth-none c.args.others.now c.args.own.now c.args.widened.now c.other-item.result c.loop-other.other-index c.loop-other.growth _
      c.loop-other-test.true c.other-item.is c.requires c.overlap-common.ensures.value c.if-common-eq0.true c.loop-other.invariant.value;
  small = c.loop-other.invariant.small;
}

pub loop-other-preserved : goal.loop-other-preserved
loop-other-preserved g c = record {
  value = growth-more c.args.others.now c.args.own.now c.args.widened.now c.other-item.result c.loop-other.other-index c.loop-other.growth _ _
      c.loop-other-test.true c.other-item.is c.requires c.overlap-common.ensures.value c.overlap.ensures.value c.loop-other.invariant.value;
  small = omega arith;
}
