use Rattle.std.proofs.Common.{◌∙◌}
use Rattle.rt_calls.specs.Near.{FindsRowsNearTo}
use Rattle.capi.proofs.Told.{told_of}
use Rattle.capi.proofs.near.juicedelta_tree_nearest_to.Goals as goal

pub returns-clause-told : goal.returns-clause-told
returns-clause-told c =
    let call = c.nearest_to_in-code in
    told_of (λ D. FindsRowsNearTo {D = D} c.args.numbers.now c.args.ids.now call.new.ids c.args.boxes.now call.new.boxes c.args.total.now call.new.total)
    _ _ _ _ (c.peek.ensures ∙ c.open-lease.ensures.1) c.hand_back.ensures.0 call.ensures.found
