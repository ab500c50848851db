use Rattle.std.proofs.Common.{rules, arith, ◌≡◌, inl, refl, false, None, get_or}
use Rattle.std.proofs.lemmas.List.Folds.{list_all_at}
use Rattle.rt_sql_statement.specs.declared.statement.Test.{Test}
use Rattle.rt_table_row.specs.Columns.{has_name, place_of}
use Rattle.rt_table_row.specs.Conditions.{column_of}
use Rattle.rt_table_row.proofs.Filters.{absent}
use Rattle.rt_table_row.proofs.filter.places_of.Goals as goal

pub returns-in-None : goal.returns-in-None
returns-in-None c =
    let missing : place_of c.args.schema.now.names c.column_of.result.now ≡ None = search rules in
    let unknown : has_name c.args.schema.now.names c.column_of.result.now ≡ false = absent c.args.schema.now.names c.column_of.result.now missing in
    let here : has_name c.args.schema.now.names (column_of c.test-item.result) ≡ false = search rules in
    let same : get_or c.args.cond.now 0 c.test-item.result ≡ c.test-item.result = search rules in
    inl (refl, list_all_at (λ (test : Test). has_name c.args.schema.now.names (column_of test)) c.args.cond.now 0 c.test-item.result (omega arith) (rw same here))
