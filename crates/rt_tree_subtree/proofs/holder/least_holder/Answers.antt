use Rattle.std.proofs.Common.{ℕ, arith}
use lib.Count.{count_trailing_zeros}
use Rattle.rt_tree_subtree.proofs.Bits.{next-is}
use Rattle.rt_tree_subtree.proofs.Holders.{HoldsNew, begins, takes, keeps, ends}
use Rattle.rt_tree_subtree.proofs.holder.least_holder.Goals as goal
use Rattle.rt_tree_subtree.proofs.holder.least_holder.Goals.{then-area-least, else-area-least}

pub bounds-boxes-best : goal.bounds-boxes-best
bounds-boxes-best g c =
    (next-is (HoldsNew c.args.new_box.now) 64 0 c.args.boxes.now c.holders-rest.result (omega (arith, c.requires.few)) (omega (arith, c.if-rest-eq0.false)) c.holders-rest.ensures.told).within

pub offset_bounds-boxes-best : goal.offset_bounds-boxes-best
offset_bounds-boxes-best g c =
    let below = (next-is (HoldsNew c.args.new_box.now) 64 0 c.args.boxes.now c.holders-rest.result (omega (arith, c.requires.few)) (omega (arith, c.if-rest-eq0.false)) c.holders-rest.ensures.told).within in
    omega (arith, below)

pub loop-rest-init : goal.loop-rest-init
loop-rest-init g c =
    let boxes = c.args.boxes.now in
    let new = c.args.new_box.now in
    let bits = c.holders-rest.result in
    begins g.row.D boxes new c.holders-rest.ensures.boxes c.facts.ensures c.requires.stay bits (count_trailing_zeros 64 bits) c.area-least.result c.index-boxes-best.result
    (next-is (HoldsNew new) 64 0 boxes bits (omega (arith, c.requires.few)) (omega (arith, c.if-rest-eq0.false)) c.holders-rest.ensures.told)
    c.index-boxes-best.is c.area-least.ensures.value

pub bounds-boxes-position : goal.bounds-boxes-position
bounds-boxes-position g c =
    let before = c.loop-rest.invariant in
    (next-is (HoldsNew c.args.new_box.now) 64 before.n c.args.boxes.now c.loop-rest.rest (omega (arith, c.requires.few)) (omega (arith, c.loop-rest-test.true)) before.told).within

pub offset_bounds-boxes-position : goal.offset_bounds-boxes-position
offset_bounds-boxes-position g c =
    let before = c.loop-rest.invariant in
    let below = (next-is (HoldsNew c.args.new_box.now) 64 before.n c.args.boxes.now c.loop-rest.rest (omega (arith, c.requires.few)) (omega (arith, c.loop-rest-test.true)) before.told).within in
    omega (arith, below)

pub loop-rest-preserved : goal.loop-rest-preserved
loop-rest-preserved g c =
    let boxes = c.args.boxes.now in
    let new = c.args.new_box.now in
    let rest : ℕ = c.loop-rest.rest in
    let before = c.loop-rest.invariant in
    let next = next-is (HoldsNew new) 64 before.n boxes rest (omega (arith, c.requires.few)) (omega (arith, c.loop-rest-test.true)) before.told in
    elim c.if-area-least.branch [
      | then-area-least w ↦ rw (w.best-is, w.least-is) (takes g.row.D boxes new c.holders-rest.ensures.boxes c.facts.ensures c.requires.stay rest c.loop-rest.least c.loop-rest.best _ _ _
          before next c.index-boxes-position.is c.area-area.ensures.value w.if-area-least.true)
      | else-area-least w ↦ rw (w.best-is, w.least-is) (keeps g.row.D boxes new c.holders-rest.ensures.boxes c.facts.ensures c.requires.stay rest c.loop-rest.least c.loop-rest.best _ _ _
          before next c.index-boxes-position.is c.area-area.ensures.value w.if-area-least.false)
    ]

pub returns : goal.returns
returns g c =
    ends g.row.D c.args.boxes.now c.args.new_box.now c.holders-rest.ensures.boxes c.facts.ensures c.requires.stay c.loop-rest.rest c.loop-rest.least c.loop-rest.best
    (omega (arith, c.loop-rest-test.false)) c.loop-rest.invariant
