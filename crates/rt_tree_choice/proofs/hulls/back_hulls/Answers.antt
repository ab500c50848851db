use Rattle.std.proofs.Common.{arith, refl}
use Rattle.std.proofs.lemmas.List.{get_or-replicate}
use Rattle.rt_tree_choice.proofs.Covering.{IsBackFrom-one, IsBackFrom-more}
use Rattle.rt_tree_choice.proofs.hulls.back_hulls.Goals as goal

pub loop-back-init : goal.loop-back-init
loop-back-init g c =
    IsBackFrom-one c.args.boxes.now c.args.order.now _ c.index-boxes-order.result c.requires.some c.requires.within refl c.requires.few
    (λ k d h. get_or-replicate 52 k c.index-boxes-order.result d h) c.index-boxes-order.is

pub loop-back-preserved : goal.loop-back-preserved
loop-back-preserved g c =
    IsBackFrom-more c.args.boxes.now c.args.order.now c.loop-back.hulls c.loop-back.hull c.union-hull.result c.index-boxes-order-in-loop-back.result
    c.loop-back.back _ (omega arith) (omega arith) (omega arith) c.requires.few c.requires.within
    c.index-boxes-order-in-loop-back.is c.union-hull.ensures c.loop-back.invariant
