use Rattle.std.proofs.Common.{arith}
use Rattle.rt_box.proofs.Holding.{overlap-le_left}
use Rattle.rt_tree_subtree.proofs.Growth.{Holds-widened, growth-near_above, growth-before_above, growth-after_above, overlap_enlargement-from_parts}
use Rattle.rt_tree_subtree.proofs.subtree.overlap_growth_within.Goals as goal

pub common_growth_within-requires : goal.common_growth_within-requires
common_growth_within-requires g c =
    (omega (arith, c.facts.ensures.few), Holds-widened _ _ _ _ c.facts.ensures c.facts-2.ensures c.union-widened.ensures)

pub common_growth_within-requires-2 : goal.common_growth_within-requires-2
common_growth_within-requires-2 g c =
    (omega (arith, c.facts.ensures.few), Holds-widened _ _ _ _ c.facts.ensures c.facts-2.ensures c.union-widened.ensures)

pub returns-in_err-before : goal.returns-in_err-before
returns-in_err-before g c =
    rw c.from_residual.ensures
    (growth-before_above c.args.boxes.now c.args.position c.args.new_box.now c.index-boxes-position.result c.union-widened.result c.args.limit
    c.requires.within c.index-boxes-position.is c.union-widened.ensures
    (Holds-widened _ _ _ _ c.facts.ensures c.facts-2.ensures c.union-widened.ensures) c.in_err-before.ensures)

pub returns-in_err-after : goal.returns-in_err-after
returns-in_err-after g c =
    rw c.from_residual-in_err-after.ensures
    (growth-after_above c.args.boxes.now c.args.position c.args.new_box.now c.index-boxes-position.result c.union-widened.result c.args.limit
    c.in_ok-before.before c.requires.within c.index-boxes-position.is c.union-widened.ensures c.in_ok-before.ensures.0 c.in_ok-before.ensures.1
    c.in_err-after.ensures)

pub returns : goal.returns
returns g c =
    overlap_enlargement-from_parts c.args.boxes.now c.args.position c.args.new_box.now c.index-boxes-position.result c.union-widened.result _ _
    c.requires.within c.index-boxes-position.is c.union-widened.ensures c.in_ok-before.ensures.1 c.in_ok-after.ensures.1

pub overflow_sub-overlap : goal.overflow_sub-overlap
overflow_sub-overlap g c =
    omega (
      arith,
      overlap-le_left c.union-widened.result c.index-boxes-position.result c.index-boxes-near.result
          (Holds-widened _ _ _ _ c.facts.ensures c.facts-2.ensures c.union-widened.ensures),
    )

pub returns-then-overlap-limit : goal.returns-then-overlap-limit
returns-then-overlap-limit g c =
    growth-near_above c.args.boxes.now c.args.position c.args.near c.args.new_box.now c.index-boxes-position.result c.union-widened.result
    c.index-boxes-near.result c.args.limit _ _ c.requires.within c.requires.near_in c.requires.other c.index-boxes-position.is c.union-widened.ensures
    (Holds-widened _ _ _ _ c.facts.ensures c.facts-2.ensures c.union-widened.ensures)
    c.index-boxes-near.is c.overlap.ensures.value c.overlap-2.ensures.value c.if-overlap-limit.true
