use Rattle.std.proofs.Common.{◌≡◌, map, ap, refl, ◌∙◌, arith, lit<, Option, Some, None}
use Rattle.std.specs.Prelude.{is_some}
use Rattle.std.specs.Borrow.{Bor}
use Rattle.std.specs.Ordering.{int_cmp}
use Rattle.std.specs.BTreeMap.{get}
use Rattle.std.proofs.lemmas.List.{with_items_is}
use Rattle.rt_table_row.specs.declared.entry.Entry.{Entry}
use Rattle.rt_table_row.specs.Edits.{outcome}
use Rattle.rt_table_row.specs.Entries.{step_of}
use Rattle.rt_table_view.specs.Fates.{fate_of, rows_after}
use Rattle.rt_table_view.specs.Preparing.{DifferAt}
use Rattle.rt_table_view.specs.Watching.{view_of}
use Rattle.rt_table_view.proofs.Fates.{differ_known, rising_outcome}
use Rattle.rt_table_view.proofs.Deltas.{deltas_staged}
use Rattle.rt_table_view.proofs.Refreshing.{same_views, still_kept, all_await}
use Rattle.rt_table_view.proofs.changes.stage.Goals as goal

some_fate : {D : _} (f : Option (Option (Bor (Entry D)))) → is_some f ≡ is_some (fate_of f)
some_fate None = refl
some_fate (Some r) = refl

pub stage_each-requires : goal.stage_each-requires
stage_each-requires g c = (lit< tt, (omega arith, rw c.as_mut_slice.ensures.value c.requires))

pub returns-in_err-staged-clause-views : goal.returns-in_err-staged-clause-views
returns-in_err-staged-clause-views g c =
    ap (map view_of) (with_items_is c.args.views.now c.stage_each.new.views (omega arith))
    ∙ same_views c.as_mut_slice.result.now c.stage_each.new.views (omega arith) (λ k w within. let same = c.in_err-staged.ensures.same k w within in (same.name_is, same.filter_is))
    ∙ ap (map view_of) c.as_mut_slice.ensures.value

pub returns-in_err-staged-clause-kept : goal.returns-in_err-staged-clause-kept
returns-in_err-staged-clause-kept g c = λ columns rows kept.
    rw (with_items_is c.args.views.now c.stage_each.new.views (omega arith))
    (still_kept columns rows c.as_mut_slice.result.now c.stage_each.new.views (omega arith) c.in_err-staged.ensures.same (rw c.as_mut_slice.ensures.value kept))

pub returns-clause-views : goal.returns-clause-views
returns-clause-views g c =
    ap (map view_of) (with_items_is c.args.views.now c.stage_each.new.views (omega arith))
    ∙ same_views c.as_mut_slice.result.now c.stage_each.new.views (omega arith) (λ k w within. let same = c.in_ok-staged.ensures.same k w within in (same.name_is, same.filter_is))
    ∙ ap (map view_of) c.as_mut_slice.ensures.value

pub returns-clause-kept : goal.returns-clause-kept
returns-clause-kept g c = λ columns rows kept.
    rw (with_items_is c.args.views.now c.stage_each.new.views (omega arith))
    (still_kept columns rows c.as_mut_slice.result.now c.stage_each.new.views (omega arith) c.in_ok-staged.ensures.same (rw c.as_mut_slice.ensures.value kept))

pub returns-clause-changes : goal.returns-clause-changes
returns-clause-changes g c = λ columns kept.
    let after = outcome c.args.store.now.rows (map step_of c.args.plan.now) in
    let differ : DifferAt c.in_ok-ids.ids.items c.args.store.now.rows after =
    differ_known c.args.store.now.rows after c.in_ok-ids.ids.items (λ q. fate_of (get int_cmp c.in_ok-fates.fates q)) (c.in_ok-fates.ensures c.args.store.now.rows)
    (λ q. c.in_ok-ids.ensures.all q ∙ some_fate (get int_cmp c.in_ok-fates.fates q)) in
    c.in_ok-staged.ensures.changes
    ∙ rw (c.as_slice.ensures.value, c.as_mut_slice.ensures.value)
    (deltas_staged columns c.args.store.now.rows after c.in_ok-ids.ids.items (rows_after c.args.store.now.rows c.in_ok-fates.fates)
    c.facts.ensures.rising (rising_outcome c.args.store.now.rows (map step_of c.args.plan.now) c.facts.ensures.rising) c.in_ok-ids.ensures.rising differ (c.in_ok-fates.ensures c.args.store.now.rows) c.args.views.now.items kept)

pub returns-clause-awaited : goal.returns-clause-awaited
returns-clause-awaited g c = λ columns kept.
    let after = outcome c.args.store.now.rows (map step_of c.args.plan.now) in
    let differ : DifferAt c.in_ok-ids.ids.items c.args.store.now.rows after =
    differ_known c.args.store.now.rows after c.in_ok-ids.ids.items (λ q. fate_of (get int_cmp c.in_ok-fates.fates q)) (c.in_ok-fates.ensures c.args.store.now.rows)
    (λ q. c.in_ok-ids.ensures.all q ∙ some_fate (get int_cmp c.in_ok-fates.fates q)) in
    rw (with_items_is c.args.views.now c.stage_each.new.views (omega arith))
    (all_await columns c.args.store.now.rows after (rows_after c.args.store.now.rows c.in_ok-fates.fates) (c.in_ok-fates.ensures c.args.store.now.rows)
    c.in_ok-ids.ids.items differ c.as_mut_slice.result.now c.stage_each.new.views (omega arith) c.in_ok-staged.ensures.same
    (rw c.as_slice.ensures.value at c.in_ok-staged.ensures.shifts) c.in_ok-staged.ensures.room (rw c.as_mut_slice.ensures.value kept))
