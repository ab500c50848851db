use Rattle.std.proofs.Common.{◌∙◌}
use Rattle.rt_calls.specs.Pairs.{Joins}
use Rattle.capi.proofs.Told.{told_of_both}
use Rattle.capi.proofs.pairs.juicedelta_tree_join.Goals as goal

pub returns-clause-joined : goal.returns-clause-joined
returns-clause-joined c =
    let call = c.join_held-code in
    told_of_both (λ D. Joins {D = D} c.args.left.now call.new.left c.args.right.now call.new.right c.args.total.now call.new.total)
    _ _ _ _ _ _ (c.peek.ensures ∙ c.open-one_lease.ensures.1) (c.peek-2.ensures ∙ c.open-other_lease.ensures.1) c.hand_back_both.ensures.0 call.ensures.joined
