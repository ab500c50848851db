use Rattle.std.proofs.Common.{◌≡◌, arith, ◌+◌, ◌<◌, List, [], Some, map, length, drop, rules, sym, ap, subst}
use Rattle.std.specs.List.{filter_map}
use Rattle.std.proofs.lemmas.List.{at_drop_all}
use Rattle.std.proofs.lemmas.Result.{err_from_is_err_and}
use Rattle.rt_tree_walk.specs.declared.searching.Row.{Row}
use Rattle.rt_table_row.specs.Rows.{TableRow}
use Rattle.rt_table_row.specs.Edits.{outcome}
use Rattle.rt_table_row.specs.Entries.{step_of, view_row}
use Rattle.rt_table_store.specs.Picking.{Stands}
use Rattle.rt_table_plan.specs.Drafts.{known_of, row_of, set_all}
use Rattle.rt_table_plan.proofs.Drafting.{begun, knows_begun, knows_more, left_some, set_more, set_refused, set_all_done}
use Rattle.rt_table_plan.proofs.update.all_steps.Goals as goal

pub view-requires : goal.view-requires
view-requires g c = (
  search rules,
  (
    search rules,
    (
      search rules,
      subst (λ (r : Row g.row.D). Stands c.args.store.now.rows r) (sym c.row-item.is) (c.requires.stand c.loop-row.row-index c.row-item.result c.loop-row-test.true),
    ),
  ),
)

pub loop-row-init : goal.loop-row-init
loop-row-init g c =
    let rows = c.args.store.now.rows in
    let none : map step_of c.new-draft.result.steps.items ≡ [] = ap (map step_of) c.new-draft.ensures.steps in
    record {
      knows = knows_begun rows (known_of c.new-draft.result) (map step_of c.new-draft.result.steps.items) c.new-draft.ensures.known none;
      rest = begun (λ (now : List TableRow). set_all g.row.D c.args.settings.now now (filter_map (row_of rows) c.args.rows.now)) rows (map step_of c.new-draft.result.steps.items) none;
    }

pub returns-in_err-step : goal.returns-in_err-step
returns-in_err-step g c =
    let rows = c.args.store.now.rows in
    let found = c.args.rows.now in
    let at = c.loop-row.row-index in
    let within : at < length found = omega arith in
    let p = err_from_is_err_and c.from_residual.result c.from_residual.ensures.1 in
    rw (p.1, p.2)
    (set_refused g.row.D c.args.settings.now rows (set_all g.row.D c.args.settings.now rows (filter_map (row_of rows) found)) (map step_of c.loop-row.draft.steps.items) c.in_err-step.field-0.0
    (view_row c.view.result) (filter_map (row_of rows) (drop at found)) (filter_map (row_of rows) (drop (at + 1) found)) c.loop-row.invariant.rest
    (left_some (row_of rows) found at c.row-item.result (view_row c.view.result) within (subst (λ (r : Row g.row.D). row_of rows r ≡ Some (view_row c.view.result)) c.row-item.is (sym c.view.ensures)))
    (c.in_err-step.ensures (outcome rows (map step_of c.loop-row.draft.steps.items)) c.loop-row.invariant.knows))

pub loop-row-preserved : goal.loop-row-preserved
loop-row-preserved g c =
    let rows = c.args.store.now.rows in
    let found = c.args.rows.now in
    let at = c.loop-row.row-index in
    let within : at < length found = omega arith in
    record {
      knows = knows_more rows (known_of c.loop-row.draft) (known_of c.push.new.self) (map step_of c.loop-row.draft.steps.items)
          (map step_of c.push.new.self.steps.items) (step_of c.in_ok-step.step) c.loop-row.invariant.knows c.in_ok-push.ensures.steps c.in_ok-push.ensures.known;
      rest = set_more g.row.D c.args.settings.now rows (set_all g.row.D c.args.settings.now rows (filter_map (row_of rows) found)) (map step_of c.loop-row.draft.steps.items)
          (map step_of c.push.new.self.steps.items) (step_of c.in_ok-step.step) (view_row c.view.result) (filter_map (row_of rows) (drop at found))
          (filter_map (row_of rows) (drop (at + 1) found)) c.loop-row.invariant.rest
          (left_some (row_of rows) found at c.row-item.result (view_row c.view.result) within (subst (λ (r : Row g.row.D). row_of rows r ≡ Some (view_row c.view.result)) c.row-item.is (sym c.view.ensures)))
          (c.in_ok-step.ensures (outcome rows (map step_of c.loop-row.draft.steps.items)) c.loop-row.invariant.knows) c.in_ok-push.ensures.steps;
    }

pub returns : goal.returns
returns g c =
    let rows = c.args.store.now.rows in
    let found = c.args.rows.now in
    set_all_done g.row.D c.args.settings.now rows (set_all g.row.D c.args.settings.now rows (filter_map (row_of rows) found)) (map step_of c.loop-row.draft.steps.items)
    (filter_map (row_of rows) (drop c.loop-row.row-index found)) c.loop-row.invariant.rest (at_drop_all (filter_map (row_of rows)) found c.loop-row.row-index (omega arith))
