use Rattle.std.proofs.Common.{◌∙◌}
use Rattle.rt_calls.specs.Many.{FindsNearestMany}
use Rattle.capi.proofs.Told.{told_of}
use Rattle.capi.proofs.many.juicedelta_tree_nearest_many.Goals as goal

pub returns-clause-told : goal.returns-clause-told
returns-clause-told c =
    let call = c.nearest_each_in-code in
    told_of (λ D. FindsNearestMany {D = D} c.args.k c.args.starts.now call.new.starts c.args.ids.now call.new.ids c.args.total.now call.new.total c.args.points.now)
    _ _ _ _ (c.peek.ensures ∙ c.open-lease.ensures.1) c.hand_back.ensures.0 call.ensures.told
