use Rattle.std.proofs.Common.{◌∙◌}
use Rattle.rt_calls.specs.Pairs.{JoinsItself}
use Rattle.capi.proofs.Told.{told_of}
use Rattle.capi.proofs.pairs.juicedelta_tree_join_self.Goals as goal

pub returns-clause-told : goal.returns-clause-told
returns-clause-told c =
    let call = c.join_self_in-code in
    told_of (λ D. JoinsItself {D = D} c.args.left.now call.new.left c.args.right.now call.new.right c.args.total.now call.new.total)
    _ _ _ _ (c.peek.ensures ∙ c.open-lease.ensures.1) c.hand_back.ensures.0 call.ensures.told
