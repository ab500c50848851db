use Rattle.std.proofs.Common.{to_z-of_z, ◌∙◌}
use Rattle.rt_calls.specs.Live.{TellsSeen}
use Rattle.capi.proofs.Told.{told_of_live_by_id}
use Rattle.capi.proofs.changes.juicedelta_live_rows.Goals as goal

pub returns-clause-told : goal.returns-clause-told
returns-clause-told c =
    let call = c.seen_in-code in
    told_of_live_by_id (λ id D. TellsSeen {D = D} id c.args.ids.now call.new.ids call.new.total)
    _ _ _ _ _ _ (to_z-of_z c.ranges.window) (c.peek.ensures ∙ c.open-lease.ensures.1) c.hand_back.ensures.0 call.ensures.told
