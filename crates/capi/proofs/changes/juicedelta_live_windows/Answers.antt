use Rattle.std.proofs.Common.{◌∙◌}
use Rattle.rt_calls.specs.Live.{TellsWindows}
use Rattle.capi.proofs.Told.{told_of_live}
use Rattle.capi.proofs.changes.juicedelta_live_windows.Goals as goal

pub returns-clause-told : goal.returns-clause-told
returns-clause-told c =
    let call = c.windows_in-code in
    told_of_live (λ D. TellsWindows {D = D} c.args.from c.args.ids.now call.new.ids c.args.boxes.now call.new.boxes call.new.total)
    _ _ _ _ (c.peek.ensures ∙ c.open-lease.ensures.1) c.hand_back.ensures.0 call.ensures.told
