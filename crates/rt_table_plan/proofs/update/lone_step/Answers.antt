use Rattle.std.proofs.Common.{◌≡◌, [], ◌∷◌, refl}
use Rattle.std.specs.List.{filter_map}
use Rattle.std.proofs.lemmas.Result.{err_from_is_err_and}
use Rattle.rt_table_row.specs.Entries.{step_of, view_row}
use Rattle.rt_table_plan.specs.Drafts.{known_of, row_of}
use Rattle.rt_table_plan.proofs.Drafting.{knows_none, set_one, set_one_refused}
use Rattle.rt_table_plan.proofs.update.lone_step.Goals as goal

pub returns-in_err-step : goal.returns-in_err-step
returns-in_err-step g c =
    let rows = c.args.store.now.rows in
    let p = err_from_is_err_and c.from_residual.result c.from_residual.ensures.1 in
    let found : filter_map (row_of rows) (c.args.row.now ∷ []) ≡ view_row c.view.result ∷ [] = rw (← c.view.ensures) refl in
    rw (p.1, p.2)
    (set_one_refused g.row.D c.args.settings.now rows (filter_map (row_of rows) (c.args.row.now ∷ [])) (view_row c.view.result) c.in_err-step.field-0.0 found
    (c.in_err-step.ensures rows (knows_none rows (known_of c.new-draft.result) c.new-draft.ensures.known)))

pub returns : goal.returns
returns g c =
    let rows = c.args.store.now.rows in
    let found : filter_map (row_of rows) (c.args.row.now ∷ []) ≡ view_row c.view.result ∷ [] = rw (← c.view.ensures) refl in
    rw (c.push_reserved.ensures.items, c.in_ok-steps.ensures.items)
    (set_one g.row.D c.args.settings.now rows (filter_map (row_of rows) (c.args.row.now ∷ [])) (view_row c.view.result) (step_of c.in_ok-step.step) found
    (c.in_ok-step.ensures rows (knows_none rows (known_of c.new-draft.result) c.new-draft.ensures.known)))
