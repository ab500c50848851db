use Rattle.std.proofs.Common.{◌≡◌, ◌∙◌, true, false, Some, None, ap, sym, refl}
use Rattle.std.specs.Prelude.{is_some, nat_le}
use Rattle.std.proofs.lemmas.Result.{err_from_is_err_and}
use Rattle.std.proofs.lemmas.List.Quantifiers.{position-Some}
use Rattle.rt_sql_statement.specs.Name.{same_name}
use Rattle.rt_table_row.specs.Tables.{has_view, watch}
use Rattle.rt_session.specs.declared.tables.Named.{Named}
use Rattle.rt_session.specs.Session.{table_of, is_named, watched_by, count_views, no_tree}
use Rattle.rt_session.specs.SessionInside.{named_of}
use Rattle.rt_session.proofs.Outcomes.{placed, found, missing, some_found, kept_at, with_table_at, names_kept, refused, count_of, watched_new, name_taken, no_view_more}
use Rattle.rt_session.proofs.session.Session.watch.Goals as goal

pub returns-in_default : goal.returns-in_default
returns-in_default c =
    let place = placed (λ (n : Named). same_name c.args.name.now n.name) c.self.inside.tables.items _ _ _ c.as_slice.ensures.value c.place_of.ensures c.in_default.is in
    let none : table_of c.args.self.now c.args.name.now ≡ None = missing c.args.self.now _ _ c.self.view_is (is_named c.args.name.now) place in
    (refl, λ other tree. rw none refl)

pub returns-then-is_some : goal.returns-then-is_some
returns-then-is_some c =
    let place = placed (λ (n : Named). same_name c.args.name.now n.name) c.self.inside.tables.items _ _ _ c.as_slice.ensures.value c.place_of.ensures c.in-Some.is in
    let read = position-Some (λ (n : Named). same_name c.args.name.now n.name) c.self.inside.tables.items c.in-Some.at in
    let there : is_some (table_of c.args.self.now c.args.name.now) ≡ true =
    some_found c.args.self.now _ c.self.inside.tables.items c.self.view_is (is_named c.args.name.now) c.as_slice.result.now c.place_of.result true c.as_slice.ensures.value c.place_of.ensures (ap is_some c.in-Some.is) in
    let named : is_some (watched_by c.args.self.now c.args.view) ≡ true =
    some_found c.args.self.now _ c.self.inside.tables.items c.self.view_is (λ t. has_view t.table c.args.view) c.as_slice-2.result.now c.place_of_view.result true c.as_slice-2.ensures.value c.place_of_view.ensures (sym c.is_some.ensures ∙ c.if-is_some.true) in
    (refl, λ other tree. name_taken c.args.self.now c.args.view c.args.name.now c.args.cond there named)

pub returns-then-have_views : goal.returns-then-have_views
returns-then-have_views c =
    let there : is_some (table_of c.args.self.now c.args.name.now) ≡ true =
    some_found c.args.self.now _ c.self.inside.tables.items c.self.view_is (is_named c.args.name.now) c.as_slice.result.now c.place_of.result true c.as_slice.ensures.value c.place_of.ensures (ap is_some c.in-Some.is) in
    let new : is_some (watched_by c.args.self.now c.args.view) ≡ false =
    some_found c.args.self.now _ c.self.inside.tables.items c.self.view_is (λ t. has_view t.table c.args.view) c.as_slice-2.result.now c.place_of_view.result false c.as_slice-2.ensures.value c.place_of_view.ensures (sym c.is_some.ensures ∙ c.if-is_some.false) in
    let many : nat_le 64 (count_views c.args.self.now) ≡ true =
    ap (nat_le 64) (count_of c.args.self.now _ c.self.inside.tables.items c.as_slice-3.result.now c.self.view_is c.as_slice-3.ensures.value) ∙ sym c.have_views.ensures ∙ c.if-have_views.true in
    (refl, λ other tree. no_view_more c.args.self.now c.args.view c.args.name.now c.args.cond there new many)

pub returns-in_err-watch : goal.returns-in_err-watch
returns-in_err-watch c =
    let place = placed (λ (n : Named). same_name c.args.name.now n.name) c.self.inside.tables.items _ _ _ c.as_slice.ensures.value c.place_of.ensures c.in-Some.is in
    let t = c.index_mut.result.now in
    let there : table_of c.args.self.now c.args.name.now ≡ Some (named_of t) = found c.args.self.now _ _ c.self.view_is (is_named c.args.name.now) c.in-Some.at t place c.index_mut.ensures.value in
    let within = (position-Some _ c.self.inside.tables.items c.in-Some.at t place).0 in
    let new : is_some (watched_by c.args.self.now c.args.view) ≡ false =
    some_found c.args.self.now _ c.self.inside.tables.items c.self.view_is (λ t. has_view t.table c.args.view) c.as_slice-2.result.now c.place_of_view.result false c.as_slice-2.ensures.value c.place_of_view.ensures (sym c.is_some.ensures ∙ c.if-is_some.false) in
    let room : nat_le 64 (count_views c.args.self.now) ≡ false =
    ap (nat_le 64) (count_of c.args.self.now _ c.self.inside.tables.items c.as_slice-3.result.now c.self.view_is c.as_slice-3.ensures.value) ∙ sym c.have_views.ensures ∙ c.if-have_views.false in
    let p = err_from_is_err_and c.from_residual.result c.from_residual.ensures.1 in
    rw (p.1, p.2) (
      kept_at c.args.self.now _ _ c.self.view_is c.in-Some.at t within c.index_mut.ensures.value c.watch.new.self c.in_err-watch.ensures.refused,
      λ other tree. watched_new c.args.self.now c.args.view c.args.name.now c.args.cond (named_of t) there new room ∙ rw (refused (watch t.table.lists c.args.view c.args.cond) _ c.in_err-watch.ensures.err other) refl,
    )

pub invariant_of-self-2 : goal.invariant_of-self-2
invariant_of-self-2 c = names_kept c.self.inside.tables.items c.in-Some.at c.index_mut.result.now c.watch.new.self c.index_mut.ensures.value c.self.invariant

pub returns : goal.returns
returns c =
    let place = placed (λ (n : Named). same_name c.args.name.now n.name) c.self.inside.tables.items _ _ _ c.as_slice.ensures.value c.place_of.ensures c.in-Some.is in
    let t = c.index_mut.result.now in
    let there : table_of c.args.self.now c.args.name.now ≡ Some (named_of t) = found c.args.self.now _ _ c.self.view_is (is_named c.args.name.now) c.in-Some.at t place c.index_mut.ensures.value in
    let here = position-Some (λ (n : Named). same_name c.args.name.now n.name) c.self.inside.tables.items c.in-Some.at t place in
    let same : same_name c.args.name.now t.name ≡ true = ap (λ (n : Named). same_name c.args.name.now n.name) c.index_mut.ensures.value ∙ here.1 in
    let new : is_some (watched_by c.args.self.now c.args.view) ≡ false =
    some_found c.args.self.now _ c.self.inside.tables.items c.self.view_is (λ t. has_view t.table c.args.view) c.as_slice-2.result.now c.place_of_view.result false c.as_slice-2.ensures.value c.place_of_view.ensures (sym c.is_some.ensures ∙ c.if-is_some.false) in
    let room : nat_le 64 (count_views c.args.self.now) ≡ false =
    ap (nat_le 64) (count_of c.args.self.now _ c.self.inside.tables.items c.as_slice-3.result.now c.self.view_is c.as_slice-3.ensures.value) ∙ sym c.have_views.ensures ∙ c.if-have_views.false in
    let state = with_table_at c.args.self.now _ _ c.self.view_is c.in-Some.at t here.0 c.index_mut.ensures.value c.watch.new.self c.args.name.now same c.self.invariant c.watch.ensures.tree in
    (no_tree, watched_new c.args.self.now c.args.view c.args.name.now c.args.cond (named_of t) there new room ∙ rw (c.in_ok-watch.ensures.ok, state) refl, tt)
