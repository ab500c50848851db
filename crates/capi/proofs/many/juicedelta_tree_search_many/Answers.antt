use Rattle.std.proofs.Common.{◌∙◌, length}
use Rattle.rt_calls.specs.Many.{OfWindows, SearchesEach}
use Rattle.capi.proofs.Told.{told_of}
use Rattle.capi.proofs.many.juicedelta_tree_search_many.Goals as goal

pub returns-clause-told : goal.returns-clause-told
returns-clause-told c =
    let call = c.search_each_in-code in
    told_of (λ D. OfWindows {D = D} c.args.relation (length c.args.starts.now) c.args.windows.now (SearchesEach {D = D} c.args.starts.now call.new.starts c.args.ids.now call.new.ids c.args.total.now call.new.total))
    _ _ _ _ (c.peek.ensures ∙ c.open-lease.ensures.1) c.hand_back.ensures.0 call.ensures.told
