use Rattle.std.proofs.Common.{◌≡◌, ◌==◌, rules, List, map, length, true, false, inl}
use Rattle.std.specs.List.{list_all}
use Rattle.std.proofs.lemmas.Result.{err_from_is_err_and}
use Rattle.rt_sql_statement.specs.declared.value.Value.{Value}
use Rattle.rt_table_row.specs.Arrangements.{ColumnPlaces, row_values, IsArrangementOf}
use Rattle.rt_table_row.specs.Edits.{listed_columns, put_all, insert}
use Rattle.rt_table_row.specs.Entries.{step_of}
use Rattle.rt_table_plan.proofs.Drafting.{plans_refused, plans_made}
use Rattle.rt_table_plan.proofs.Putting.{inserts, inserts_not}
use Rattle.rt_table_plan.proofs.insert.plan_insert.Goals as goal

pub returns-then-not-fits : goal.returns-then-not-fits
returns-then-not-fits g c =
    let found : ColumnPlaces = c.in_ok-arrangement.arrangement in
    let is : IsArrangementOf c.args.schema.now (listed_columns c.args.schema.now c.args.listed.now) found = c.in_ok-arrangement.ensures in
    let wide : list_all (λ (values : List Value). length values == found.width) c.args.lists.now ≡ false = search rules in
    inl (inserts_not c.args.schema.now c.args.store.now.rows c.args.rule c.args.listed.now c.args.lists.now found is wide)

pub returns-in_err-steps : goal.returns-in_err-steps
returns-in_err-steps g c =
    let found : ColumnPlaces = c.in_ok-arrangement.arrangement in
    let is : IsArrangementOf c.args.schema.now (listed_columns c.args.schema.now c.args.listed.now) found = c.in_ok-arrangement.ensures in
    let wide : list_all (λ (values : List Value). length values == found.width) c.args.lists.now ≡ true = search rules in
    let p = err_from_is_err_and c.from_residual-in_err-steps.result c.from_residual-in_err-steps.ensures.1 in
    let rows = c.args.store.now.rows in
    plans_refused (insert c.args.schema.now rows c.args.rule c.args.listed.now c.args.lists.now) (put_all g.row.D c.args.rule rows (map (row_values found) c.args.lists.now))
    c.in_err-steps.field-0.0 p.0 c.from_residual-in_err-steps.result p.1 p.2
    (inserts g.row.D c.args.schema.now rows c.args.rule c.args.listed.now c.args.lists.now found c.requires is wide) c.in_err-steps.ensures

pub returns : goal.returns
returns g c =
    let found : ColumnPlaces = c.in_ok-arrangement.arrangement in
    let is : IsArrangementOf c.args.schema.now (listed_columns c.args.schema.now c.args.listed.now) found = c.in_ok-arrangement.ensures in
    let wide : list_all (λ (values : List Value). length values == found.width) c.args.lists.now ≡ true = search rules in
    let rows = c.args.store.now.rows in
    plans_made (insert c.args.schema.now rows c.args.rule c.args.listed.now c.args.lists.now) (put_all g.row.D c.args.rule rows (map (row_values found) c.args.lists.now))
    (map step_of c.in_ok-steps.steps.items) c.from_steps.result
    (inserts g.row.D c.args.schema.now rows c.args.rule c.args.listed.now c.args.lists.now found c.requires is wide) c.in_ok-steps.ensures c.from_steps.ensures
