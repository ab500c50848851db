use Rattle.std.proofs.Common.{◌∙◌, length}
use Rattle.rt_calls.specs.Many.{OfWindows, CountsEach}
use Rattle.capi.proofs.Told.{told_of}
use Rattle.capi.proofs.many.juicedelta_tree_count_many.Goals as goal

pub returns-clause-told : goal.returns-clause-told
returns-clause-told c =
    let call = c.count_each_in-code in
    told_of (λ D. OfWindows {D = D} c.args.relation (length c.args.counts.now) c.args.windows.now (CountsEach {D = D} c.args.counts.now call.new.counts))
    _ _ _ _ (c.peek.ensures ∙ c.open-lease.ensures.1) c.hand_back.ensures.0 call.ensures.told
