use Rattle.std.proofs.Common.{◌≡◌, length, get_or, Some, rules}
use Rattle.rt_table_row.specs.Columns.{place_of}
use Rattle.rt_table_row.specs.Conditions.{column_of}
use Rattle.rt_table_row.proofs.Filters.{lone-known, lone-exact}
use Rattle.rt_table_row.proofs.filter.lone_id.Goals as goal

pub returns-clause-known : goal.returns-clause-known
returns-clause-known c =
    let one : length c.args.cond.now ≡ 1 = search rules in
    let is : c.test-item.result ≡ get_or c.args.cond.now 0 c.test-item.result = search rules in
    let there : place_of c.args.schema.now.names (column_of c.test-item.result) ≡ Some c.in_ok-place.place = search rules in
    lone-known c.args.schema.now c.args.cond.now c.test-item.result c.in_ok-place.place one is there c.id_at.result

pub returns-clause-exact : goal.returns-clause-exact
returns-clause-exact c =
    let one : length c.args.cond.now ≡ 1 = search rules in
    let is : c.test-item.result ≡ get_or c.args.cond.now 0 c.test-item.result = search rules in
    let there : place_of c.args.schema.now.names (column_of c.test-item.result) ≡ Some c.in_ok-place.place = search rules in
    lone-exact c.args.schema.now c.args.cond.now c.test-item.result c.in_ok-place.place one is there c.id_at.result c.id_at.ensures.exact
