use Rattle.std.proofs.Common.{◌≡◌, ◌+◌, ◌≤◌, ◌++◌, Bool, is_some, List, Vec, Global, length, vec_capacity, take, ap, ap₂, sym, ◌∙◌, le_refl, le_trans, le_of_eq, append-nil, falls, take_all}
use Rattle.std.specs.List.{filter}
use Rattle.std.proofs.lemmas.Result.{IfOk-from_err}
use Rattle.rt_tree_walk.specs.declared.searching.Row.{Row}
use Rattle.rt_live.specs.Changes.{told_of_window}
use Rattle.rt_live.specs.Finding.{is_told}
use Rattle.rt_live.proofs.Stepwise.{passed-more, passed-over}
use Rattle.rt_live.proofs.finding.push_rows_told.Goals.{then-is_some+in_ok-push, else-is_some}
use Rattle.rt_live.proofs.finding.push_rows_told.Goals as goal

pub loop-row-init : goal.loop-row-init
loop-row-init g c = record { rows = sym (append-nil c.args.found.now.items); capacity = le_refl _ }

pub offset_bounds-rows-row-index : goal.offset_bounds-rows-row-index
offset_bounds-rows-row-index g c = c.loop-row.auto.row-index-end

pub bounds-rows-row-index : goal.bounds-rows-row-index
bounds-rows-row-index g c = c.loop-row-test.true

pub loop-row-smaller : goal.loop-row-smaller
loop-row-smaller g c = falls (length c.args.rows.now) c.loop-row.row-index c.loop-row-test.true

pub loop-row-preserved : goal.loop-row-preserved
loop-row-preserved g c =
    let rows = c.args.rows.now in
    let i = c.loop-row.row-index in
    let row : Row g.row.D = c.row-item.result in
    let tells : Row g.row.D → Bool = is_told c.args.was.now c.args.is.now in
    let old = c.args.found.now in
    let before = c.loop-row.invariant in
    let after = c.if-is_some.found in
    let told : tells row ≡ c.is_some.result =
    sym (c.is_some.ensures ∙ ap is_some (c.told_of_window.ensures ∙ ap₂ told_of_window c.is_touched-was_in.ensures c.is_touched-is_in.ensures)) in
    let both : (after.items ≡ old.items ++ filter tells (take (i + 1) rows)) × (vec_capacity old ≤ vec_capacity after) =
    elim c.if-is_some.branch as (λ b. (after.items ≡ old.items ++ filter tells (take (i + 1) rows)) × (vec_capacity old ≤ vec_capacity after)) [
      | then-is_some+in_ok-push w ↦ (
        passed-more rows i row c.loop-row-test.true c.row-item.is tells old.items c.loop-row.found.items after.items (told ∙ w.if-is_some.true) before.rows
            (ap (λ (v : Vec (Row g.row.D) Global). v.items) w.found-is ∙ w.in_ok-push.ensures.items),
        le_trans before.capacity (le_trans w.push.ensures.capacity (le_of_eq (sym (ap vec_capacity w.found-is)))),
      )
      | else-is_some w ↦ (
        ap (λ (v : Vec (Row g.row.D) Global). v.items) w.found-is
            ∙ passed-over rows i row c.loop-row-test.true c.row-item.is tells old.items c.loop-row.found.items (told ∙ w.if-is_some.false) before.rows,
        le_trans before.capacity (le_of_eq (sym (ap vec_capacity w.found-is))),
      )
    ] in
    record { rows = both.0; capacity = both.1 }

pub returns-in_err-push-clause-rows : goal.returns-in_err-push-clause-rows
returns-in_err-push-clause-rows g c = IfOk-from_err _ _ c.from_residual.ensures.0

pub returns-in_err-push-clause-capacity : goal.returns-in_err-push-clause-capacity
returns-in_err-push-clause-capacity g c = le_trans c.loop-row.invariant.capacity c.push.ensures.capacity

pub returns-clause-rows : goal.returns-clause-rows
returns-clause-rows g c =
    c.loop-row.invariant.rows
    ∙ ap (λ (rows : List (Row g.row.D)). c.args.found.now.items ++ filter (is_told c.args.was.now c.args.is.now) rows) (take_all c.loop-row.row-index c.args.rows.now c.loop-row-test.false)

pub returns-clause-capacity : goal.returns-clause-capacity
returns-clause-capacity g c = c.loop-row.invariant.capacity
