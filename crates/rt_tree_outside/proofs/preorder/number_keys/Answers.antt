use Rattle.std.proofs.Common.{◌≡◌, ◌-◌, ◌<◌, length, get_or, arith, refl, sym, ◌∙◌, subst}
use Rattle.std.proofs.lemmas.List.{get_or_read}
use Rattle.rt_tree_outside.proofs.Numbering.{AreNoted-step}
use Rattle.rt_tree_outside.proofs.preorder.number_keys.Goals as goal

pub loop-back-preserved : goal.loop-back-preserved
loop-back-preserved c =
    let order = c.args.order.now in
    let at = length order - 1 - c.loop-back.back in
    let listed : c.index.result ≡ get_or order at 0 = c.index.ensures ∙ get_or_read order at c.index-order-at.result (omega (arith, c.loop-back-test.true)) c.index-order-at.is 0 in
    AreNoted-step order c.args.bound c.loop-back.numbers.items c.loop-back.back at c.index.result c.loop-back.invariant c.loop-back-test.true refl listed
    (subst (λ k. k < c.args.bound) (sym listed) (c.requires.within at 0 (omega (arith, c.loop-back-test.true))))
