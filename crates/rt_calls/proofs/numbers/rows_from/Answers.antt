use Rattle.std.proofs.Common.{◌+◌, ◌*◌, ◌≤◌, length, take, drop, rules, sym, ap, subst, ◌∙◌, Fits-le, falls}
use Rattle.std.proofs.lemmas.List.{take_all}
use Rattle.std.proofs.lemmas.Result.{IfOk-from_err}
use Rattle.rt_calls.specs.Numbers.{AreOrdered}
use Rattle.rt_calls.proofs.Rowing.{rows_none, rows_more}
use Rattle.rt_calls.proofs.Writing.{times_more, none_yet, from_within, none_behind, twice_fits}
use Rattle.rt_calls.proofs.numbers.rows_from.Goals as goal

pub loop-place-preserved : goal.loop-place-preserved
loop-place-preserved g c = record {
  from = ap (λ n. n + 2 * g.row.D) c.loop-place.invariant.from ∙ sym (times_more c.loop-place.place (2 * g.row.D));
  rows = rows_more c.args.ids.now c.args.boxes.now c.loop-place.rows.items _ c.row_at.result c.loop-place.place c.loop-place.from c.loop-place-test.true c.row_at.ensures.id c.row_at.ensures.numbers c.row_at.ensures.is_box c.in_ok-push.ensures.items c.loop-place.invariant.rows;
}

-- Automation finds these too, but by a search over all that is known in the loop.

pub loop-place-init : goal.loop-place-init
loop-place-init g c = record { from = none_yet (2 * g.row.D); rows = rows_none c.args.ids.now c.args.boxes.now _ c.in_ok-rows.ensures.items }

pub row_at-requires : goal.row_at-requires
row_at-requires g c =
    let room : c.loop-place.from + 2 * g.row.D ≤ length c.args.boxes.now =
    from_within c.loop-place.place (length c.args.ids.now) (2 * g.row.D) _ _ c.loop-place.invariant.from c.requires.matched c.loop-place-test.true in
    let ordered : AreOrdered g.row.D (take (2 * g.row.D) (drop c.loop-place.from c.args.boxes.now)) =
    subst (λ n. AreOrdered g.row.D (take (2 * g.row.D) (drop n c.args.boxes.now))) (sym c.loop-place.invariant.from) (c.requires.ordered c.loop-place.place c.loop-place-test.true) in
    search rules

pub overflow_mul-from : goal.overflow_mul-from
overflow_mul-from g c = twice_fits g.row.D c.requires.few

pub overflow_add-from : goal.overflow_add-from
overflow_add-from g c =
    Fits-le (from_within c.loop-place.place (length c.args.ids.now) (2 * g.row.D) _ _ c.loop-place.invariant.from c.requires.matched c.loop-place-test.true)
    (record { fits = c.well_formed.1.1.0.0 })

pub loop-place-smaller : goal.loop-place-smaller
loop-place-smaller g c = falls (length c.args.ids.now) c.loop-place.place c.loop-place-test.true

pub returns-in_err-rows : goal.returns-in_err-rows
returns-in_err-rows g c = IfOk-from_err _ _ c.from_residual.ensures.0

pub returns-in_err-push : goal.returns-in_err-push
returns-in_err-push g c = IfOk-from_err _ _ c.from_residual-in_err-push.ensures.0

pub returns : goal.returns
returns g c =
    let rows = c.loop-place.invariant.rows in
    let end = none_behind c.loop-place.place (length c.args.ids.now) (2 * g.row.D) _ _ c.loop-place.invariant.from c.requires.matched c.loop-place-test.false in
    (rows.0 ∙ take_all c.loop-place.place c.args.ids.now c.loop-place-test.false, rows.1 ∙ take_all c.loop-place.from c.args.boxes.now end, rows.2)
