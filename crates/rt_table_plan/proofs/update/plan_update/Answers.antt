use Rattle.std.proofs.Common.{map, filter, refl}
use Rattle.std.specs.List.{filter_map}
use Rattle.std.proofs.lemmas.Result.{err_from_is_err_and}
use Rattle.rt_table_row.specs.Edits.{update}
use Rattle.rt_table_row.specs.Filters.{admits}
use Rattle.rt_table_row.specs.Entries.{step_of}
use Rattle.rt_table_store.specs.Trees.{leaf_row}
use Rattle.rt_table_plan.specs.Drafts.{row_of, set_all}
use Rattle.rt_table_plan.proofs.Drafting.{updates_on, plans_refused, plans_made}
use Rattle.rt_table_plan.proofs.update.plan_update.Goals as goal

pub returns-in_err-picked_steps : goal.returns-in_err-picked_steps
returns-in_err-picked_steps g c =
    let p = err_from_is_err_and c.from_residual-in_err-picked_steps.result c.from_residual-in_err-picked_steps.ensures.1 in
    let rows = c.args.store.now.rows in
    let picked = map leaf_row (filter (admits c.in_ok-condition.condition) rows) in
    let other = set_all g.row.D c.in_ok-settings.settings rows (filter_map (row_of rows) picked) in
    plans_refused (update c.args.schema.now rows c.args.sets.now c.args.cond) other c.in_err-picked_steps.field-0.0 p.0 c.from_residual-in_err-picked_steps.result p.1 p.2
    (updates_on g.row.D c.args.schema.now rows c.args.sets.now c.in_ok-settings.settings c.args.cond c.in_ok-condition.condition picked c.requires c.facts.ensures.rising
    c.in_ok-settings.ensures c.in_ok-condition.ensures refl) c.in_err-picked_steps.ensures

pub returns : goal.returns
returns g c =
    let rows = c.args.store.now.rows in
    let picked = map leaf_row (filter (admits c.in_ok-condition.condition) rows) in
    let other = set_all g.row.D c.in_ok-settings.settings rows (filter_map (row_of rows) picked) in
    plans_made (update c.args.schema.now rows c.args.sets.now c.args.cond) other (map step_of c.in_ok-picked_steps.field-0.items) c.from_steps.result
    (updates_on g.row.D c.args.schema.now rows c.args.sets.now c.in_ok-settings.settings c.args.cond c.in_ok-condition.condition picked c.requires c.facts.ensures.rising
    c.in_ok-settings.ensures c.in_ok-condition.ensures refl) c.in_ok-picked_steps.ensures c.from_steps.ensures
