use Rattle.std.proofs.Common.{◌≡◌, ◌+◌, ◌≤◌, ◌++◌, Bool, true, not, List, Vec, Global, length, vec_capacity, arith, ap, sym, ◌∙◌, take, le_refl, le_trans, le_of_eq, append-nil, falls, take_all}
use Rattle.std.specs.Prelude.{filter}
use Rattle.std.proofs.lemmas.List.{length-append}
use Rattle.std.proofs.lemmas.Result.{IfOk-from_err}
use Rattle.rt_tree_walk.specs.declared.searching.Row.{Row}
use Rattle.rt_live.specs.Finding.{is_apart}
use Rattle.rt_live.proofs.Counting.{filter-long, count-more}
use Rattle.rt_live.proofs.Room.{err-without}
use Rattle.rt_live.proofs.Stepwise.{passed-more, passed-over}
use Rattle.rt_live.proofs.finding.push_apart.Goals.{then-not-is_touched+in_ok-push, else-not-is_touched}
use Rattle.rt_live.proofs.finding.push_apart.Goals as goal

pub returns-in_err-push-clause-full : goal.returns-in_err-push-clause-full
returns-in_err-push-clause-full g c =
    let rows = c.args.rows.now in
    let i = c.loop-row.row-index in
    let apart : Row g.row.D → Bool = is_apart c.args.except.now in
    let passes : apart c.row-item.result ≡ true = ap not (sym c.is_touched.ensures ∙ c.if-not-is_touched.true) in
    let more = count-more apart rows i c.row-item.result (omega (arith, c.loop-row-test.true)) c.row-item.is passes in
    err-without c.from_residual.result c.from_residual.ensures.0
    (omega (
      arith,
      more,
      filter-long apart (take i rows),
      filter-long apart rows,
      ap length c.loop-row.invariant.rows,
      length-append c.args.found.now.items (filter apart (take i rows)),
      c.loop-row.invariant.capacity,
      c.in_err-push.ensures.full,
    ))

pub loop-row-init : goal.loop-row-init
loop-row-init g c = record { rows = sym (append-nil c.args.found.now.items); capacity = le_refl _ }

pub offset_bounds-rows-row-index : goal.offset_bounds-rows-row-index
offset_bounds-rows-row-index g c = c.loop-row.auto.row-index-end

pub bounds-rows-row-index : goal.bounds-rows-row-index
bounds-rows-row-index g c = c.loop-row-test.true

pub loop-row-smaller : goal.loop-row-smaller
loop-row-smaller g c = falls (length c.args.rows.now) c.loop-row.row-index c.loop-row-test.true

pub loop-row-preserved : goal.loop-row-preserved
loop-row-preserved g c =
    let rows = c.args.rows.now in
    let i = c.loop-row.row-index in
    let row : Row g.row.D = c.row-item.result in
    let apart : Row g.row.D → Bool = is_apart c.args.except.now in
    let old = c.args.found.now in
    let before = c.loop-row.invariant in
    let after = c.if-not-is_touched.found in
    let both : (after.items ≡ old.items ++ filter apart (take (i + 1) rows)) × (vec_capacity old ≤ vec_capacity after) =
    elim c.if-not-is_touched.branch as (λ b. (after.items ≡ old.items ++ filter apart (take (i + 1) rows)) × (vec_capacity old ≤ vec_capacity after)) [
      | then-not-is_touched+in_ok-push w ↦ (
        passed-more rows i row c.loop-row-test.true c.row-item.is apart old.items c.loop-row.found.items after.items
            (ap not (sym c.is_touched.ensures ∙ w.if-not-is_touched.true)) before.rows
            (ap (λ (v : Vec (Row g.row.D) Global). v.items) w.found-is ∙ w.in_ok-push.ensures.items),
        le_trans before.capacity (le_trans w.push.ensures.capacity (le_of_eq (sym (ap vec_capacity w.found-is)))),
      )
      | else-not-is_touched w ↦ (
        ap (λ (v : Vec (Row g.row.D) Global). v.items) w.found-is
            ∙ passed-over rows i row c.loop-row-test.true c.row-item.is apart old.items c.loop-row.found.items (ap not (sym c.is_touched.ensures ∙ w.if-not-is_touched.false)) before.rows,
        le_trans before.capacity (le_of_eq (sym (ap vec_capacity w.found-is))),
      )
    ] in
    record { rows = both.0; capacity = both.1 }

pub returns-in_err-push-clause-rows : goal.returns-in_err-push-clause-rows
returns-in_err-push-clause-rows g c = IfOk-from_err _ _ c.from_residual.ensures.0

pub returns-in_err-push-clause-capacity : goal.returns-in_err-push-clause-capacity
returns-in_err-push-clause-capacity g c = le_trans c.loop-row.invariant.capacity c.push.ensures.capacity

pub returns-clause-rows : goal.returns-clause-rows
returns-clause-rows g c =
    c.loop-row.invariant.rows
    ∙ ap (λ (rows : List (Row g.row.D)). c.args.found.now.items ++ filter (is_apart c.args.except.now) rows) (take_all c.loop-row.row-index c.args.rows.now c.loop-row-test.false)

pub returns-clause-full : goal.returns-clause-full
returns-clause-full g c = tt

pub returns-clause-capacity : goal.returns-clause-capacity
returns-clause-capacity g c = c.loop-row.invariant.capacity
