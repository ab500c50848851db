use Rattle.std.proofs.Common.{rules, arith, ◌≡◌, inl, refl, false, Some, None, get_or, List, subst}
use Rattle.std.proofs.lemmas.List.{take_all}
use Rattle.std.proofs.lemmas.List.Folds.{list_all_at}
use Rattle.rt_sql_statement.specs.declared.statement.Test.{Test}
use Rattle.rt_table_row.specs.Columns.{has_name, place_of}
use Rattle.rt_table_row.specs.Conditions.{column_of}
use Rattle.rt_table_row.specs.Filters.{ArePlaces}
use Rattle.rt_table_row.proofs.Filters.{absent}
use Rattle.rt_table_row.proofs.Stepwise.{places-more}
use Rattle.rt_table_row.proofs.filter.list_of.Goals as goal

pub returns-in-None : goal.returns-in-None
returns-in-None c =
    let missing : place_of c.args.schema.now.names c.column_of.result.now ≡ None = search rules in
    let unknown : has_name c.args.schema.now.names c.column_of.result.now ≡ false = absent c.args.schema.now.names c.column_of.result.now missing in
    let here : has_name c.args.schema.now.names (column_of c.test-item.result) ≡ false = search rules in
    let same : get_or c.args.cond.now c.loop-test.test-index c.test-item.result ≡ c.test-item.result = search rules in
    inl (refl, list_all_at (λ (test : Test). has_name c.args.schema.now.names (column_of test)) c.args.cond.now c.loop-test.test-index c.test-item.result (omega arith) (rw same here))

pub loop-test-preserved : goal.loop-test-preserved
loop-test-preserved c =
    let found : place_of c.args.schema.now.names (column_of c.test-item.result) ≡ Some c.in-Some.place = search rules in
    places-more c.args.schema.now.names c.args.cond.now c.loop-test.test-index c.test-item.result c.loop-test.places.items c.push.new.self.items c.in-Some.place
    c.loop-test-test.true c.test-item.is c.loop-test.invariant c.in_ok-push-in-Some.ensures.items found

pub returns : goal.returns
returns c =
    subst (λ (tests : List Test). ArePlaces c.args.schema.now.names tests c.loop-test.places.items) (take_all c.loop-test.test-index c.args.cond.now c.loop-test-test.false) c.loop-test.invariant
