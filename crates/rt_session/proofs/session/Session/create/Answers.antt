use Rattle.std.proofs.Common.{◌≡◌, ◌∙◌, true, false, Ok, ap, sym, refl, length}
use Rattle.std.specs.Prelude.{is_some, nat_le}
use Rattle.std.proofs.lemmas.Result.{err_from_is_err_and}
use Rattle.rt_table_row.specs.Columns.{columns_of}
use Rattle.rt_session.specs.Session.{table_of, is_named, no_tree}
use Rattle.rt_session.proofs.Outcomes.{some_found, many_tables, made, names_more, ok_columns, err_columns, few, many, created_new}
use Rattle.rt_session.proofs.session.Session.create.Goals as goal

pub returns-then-if_absent : goal.returns-then-if_absent
returns-then-if_absent c =
    let there : is_some (table_of c.args.self.now c.args.name) ≡ true =
    some_found c.args.self.now _ c.self.inside.tables.items c.self.view_is (is_named c.args.name) c.as_slice.result.now c.place_of.result true c.as_slice.ensures.value c.place_of.ensures (sym c.is_some.ensures ∙ c.if-is_some.true) in
    (no_tree, rw (there, c.if-if_absent.true) refl, tt)

pub returns-then-is_some : goal.returns-then-is_some
returns-then-is_some c =
    let there : is_some (table_of c.args.self.now c.args.name) ≡ true =
    some_found c.args.self.now _ c.self.inside.tables.items c.self.view_is (is_named c.args.name) c.as_slice.result.now c.place_of.result true c.as_slice.ensures.value c.place_of.ensures (sym c.is_some.ensures ∙ c.if-is_some.true) in
    (refl, λ other tree. rw (there, c.if-if_absent.false) refl)

pub returns-then-len-ge-MOST_TABLES : goal.returns-then-len-ge-MOST_TABLES
returns-then-len-ge-MOST_TABLES c =
    let new : is_some (table_of c.args.self.now c.args.name) ≡ false =
    some_found c.args.self.now _ c.self.inside.tables.items c.self.view_is (is_named c.args.name) c.as_slice.result.now c.place_of.result false c.as_slice.ensures.value c.place_of.ensures (sym c.is_some.ensures ∙ c.if-is_some.false) in
    let long : length c.args.self.now.tables ≡ c.len.result = many_tables c.args.self.now _ c.self.inside.tables.items c.self.view_is ∙ ap length (sym c.as_slice.ensures.value) ∙ c.as_slice.ensures.len ∙ sym c.len.ensures in
    (refl, λ other tree. rw (new, long, many c.len.result 64 c.if-len-ge-MOST_TABLES.true) refl)

pub returns-in_err-columns : goal.returns-in_err-columns
returns-in_err-columns c =
    let new : is_some (table_of c.args.self.now c.args.name) ≡ false =
    some_found c.args.self.now _ c.self.inside.tables.items c.self.view_is (is_named c.args.name) c.as_slice.result.now c.place_of.result false c.as_slice.ensures.value c.place_of.ensures (sym c.is_some.ensures ∙ c.if-is_some.false) in
    let long : length c.args.self.now.tables ≡ c.len.result = many_tables c.args.self.now _ c.self.inside.tables.items c.self.view_is ∙ ap length (sym c.as_slice.ensures.value) ∙ c.as_slice.ensures.len ∙ sym c.len.ensures in
    let room : nat_le 64 (length c.args.self.now.tables) ≡ false = ap (nat_le 64) long ∙ few c.len.result 64 c.if-len-ge-MOST_TABLES.false in
    let p = err_from_is_err_and c.from_residual.result c.from_residual.ensures.1 in
    rw (p.1, p.2) (refl, λ other tree. created_new c.args.self.now c.args.name c.args.if_absent c.args.columns.now new room ∙ rw (sym (ap columns_of c.as_slice-2.ensures) ∙ err_columns (columns_of c.as_slice-2.result.now) _ c.in_err-columns.ensures other) refl)

pub invariant_of-self-2 : goal.invariant_of-self-2
invariant_of-self-2 c =
    rw c.in_ok-push.ensures.items (names_more c.args.name c.in_ok-table.table c.self.inside.tables.items c.as_slice.result.now c.place_of.result c.as_slice.ensures.value c.place_of.ensures (sym c.is_some.ensures ∙ c.if-is_some.false) c.self.invariant)

pub returns : goal.returns
returns c =
    let new : is_some (table_of c.args.self.now c.args.name) ≡ false =
    some_found c.args.self.now _ c.self.inside.tables.items c.self.view_is (is_named c.args.name) c.as_slice.result.now c.place_of.result false c.as_slice.ensures.value c.place_of.ensures (sym c.is_some.ensures ∙ c.if-is_some.false) in
    let long : length c.args.self.now.tables ≡ c.len.result = many_tables c.args.self.now _ c.self.inside.tables.items c.self.view_is ∙ ap length (sym c.as_slice.ensures.value) ∙ c.as_slice.ensures.len ∙ sym c.len.ensures in
    let room : nat_le 64 (length c.args.self.now.tables) ≡ false = ap (nat_le 64) long ∙ few c.len.result 64 c.if-len-ge-MOST_TABLES.false in
    let columns : columns_of c.args.columns.now ≡ Ok c.in_ok-columns.columns =
    sym (ap columns_of c.as_slice-2.ensures) ∙ ok_columns (columns_of c.as_slice-2.result.now) c.in_ok-columns.columns c.in_ok-columns.ensures in
    let state = made c.args.self.now _ c.self.inside.tables.items c.self.view_is c.args.name c.in_ok-table.table c.in_ok-columns.columns c.in_ok-table.ensures.lists c.in_ok-table.ensures.tree in
    (no_tree, created_new c.args.self.now c.args.name c.args.if_absent c.args.columns.now new room ∙ rw (columns, c.in_ok-push.ensures.items, state) refl, tt)
