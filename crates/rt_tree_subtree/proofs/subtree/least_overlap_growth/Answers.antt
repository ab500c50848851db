use Rattle.std.proofs.Common.{get_or, arith, ap, ◌∙◌, sym}
use Rattle.std.proofs.lemmas.Bool.{false≢true}
use Rattle.rt_tree_subtree.proofs.Growth.{overlap-still}
use Rattle.rt_tree_subtree.proofs.Children.{no-growth-best, grows-more, costs-less, costs-no-less, least-best, costs-from}
use Rattle.rt_tree_subtree.proofs.subtree.least_overlap_growth.Goals as goal
use Rattle.rt_tree_subtree.proofs.subtree.least_overlap_growth.Goals.{in-Some+then-is_less, in-Some+else-is_less, in_default}

pub returns-then-contains : goal.returns-then-contains
returns-then-contains g c =
    let boxes = c.args.boxes.now in
    let new = c.args.new_box.now in
    let start = c.least_enlargement-start.result in
    no-growth-best boxes new start c.least_enlargement-start.ensures
    (overlap-still boxes new start c.index-boxes-start.result c.least_enlargement-start.ensures.below_high c.index-boxes-start.is
    (c.contains.ensures.0 c.if-contains.true))

pub returns-then-least-eq0 : goal.returns-then-least-eq0
returns-then-least-eq0 g c =
    no-growth-best c.args.boxes.now c.args.new_box.now c.least_enlargement-start.result c.least_enlargement-start.ensures
    (sym (ap (λ xs. get_or xs 0 0) c.cost_of-least.ensures) ∙ c.if-least-eq0.true)

pub loop-position-preserved : goal.loop-position-preserved
loop-position-preserved g c =
    let boxes = c.args.boxes.now in
    let new = c.args.new_box.now in
    let start = c.least_enlargement-start.result in
    let n = c.loop-position.position in
    let best = c.loop-position.best in
    let least = c.loop-position.least in
    let inv = c.loop-position.invariant in
    elim c.match-overlap_growth_within.branch [
      | in-Some+then-is_less w ↦
          let cost_is = costs-from boxes new n w.in-Some.overlap w.enlargement.result w.area.result _ _ c.loop-position-test.true
          w.index-boxes-position.is w.index-boxes-position-in-Some.is w.in-Some.ensures w.enlargement.ensures.value w.area.ensures.value in
          rw (w.best-is, w.least-is)
          (costs-less boxes new start n best least _ c.loop-position-test.true cost_is (w.is_less.ensures.0 w.if-is_less.true) inv)
      | in-Some+else-is_less w ↦
          let cost_is = costs-from boxes new n w.in-Some.overlap w.enlargement.result w.area.result _ _ c.loop-position-test.true
          w.index-boxes-position.is w.index-boxes-position-in-Some.is w.in-Some.ensures w.enlargement.ensures.value w.area.ensures.value in
          rw (w.best-is, w.least-is)
          (costs-no-less boxes new start n best least record { overlap = w.in-Some.overlap; enlargement = w.enlargement.result; area = w.area.result }
          c.least_enlargement-start.ensures c.loop-position-test.true c.if-position-best.false cost_is
          (λ less. false≢true (sym w.if-is_less.false ∙ w.is_less.ensures.1 less)) inv)
      | in_default w ↦
          rw (w.best-is, w.least-is) (grows-more boxes new start n best least w.in_default.ensures inv)
    ]

pub returns : goal.returns
returns g c =
    least-best c.args.boxes.now c.args.new_box.now c.least_enlargement-start.result c.loop-position.position c.loop-position.best c.loop-position.least
    (omega arith) c.loop-position.invariant
