use Rattle.std.proofs.Common.{ap, ◌∙◌}
use Rattle.rt_calls.specs.Codes.{number_of}
use Rattle.rt_calls.specs.Live.{TellsChanges}
use Rattle.capi.proofs.Told.{told_of_live}
use Rattle.capi.proofs.changes.juicedelta_live_changes.Goals as goal

pub returns-clause-told : goal.returns-clause-told
returns-clause-told c =
    let call = c.changes_in-code in
    told_of_live (λ D. TellsChanges {D = D} c.args.windows.now call.new.windows c.args.ids.now call.new.ids c.args.kinds.now call.new.kinds call.new.total)
    _ _ _ _ (c.peek.ensures ∙ c.open-lease.ensures.1) c.hand_back.ensures.0 call.ensures.told

pub returns-clause-kept : goal.returns-clause-kept
returns-clause-kept c other small =
    c.changes_in-code.ensures.kept (λ e. other (c.hand_back.ensures.0 ∙ ap number_of e)) (λ e. small (c.hand_back.ensures.0 ∙ ap number_of e))
