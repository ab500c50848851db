use Rattle.std.proofs.Common.{arith}
use Rattle.rt_table_view.proofs.Refreshing.{same_views, all_kept}
use Rattle.rt_table_view.proofs.refresh.refresh_each.Goals as goal

pub returns-clause-views : goal.returns-clause-views
returns-clause-views c =
    same_views c.args.views.now.items c.loop-at.views.items (omega (arith, c.loop-at.invariant.long))
    (λ k w within. let fresh = c.loop-at.invariant.before k w (omega (arith, within, c.loop-at-test.false, c.len-at-end.ensures)) in (fresh.name_is, fresh.filter_is))

pub returns-clause-kept : goal.returns-clause-kept
returns-clause-kept c = λ columns before after awaited kept.
    all_kept columns before after c.args.views.now.items c.loop-at.views.items (omega (arith, c.loop-at.invariant.long))
    (λ k w within. c.loop-at.invariant.before k w (omega (arith, within, c.loop-at-test.false, c.len-at-end.ensures))) awaited kept
