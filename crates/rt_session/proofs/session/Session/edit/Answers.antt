use Rattle.std.proofs.Common.{◌≡◌, ◌∙◌, ap, refl, true, Some, None}
use Rattle.std.proofs.lemmas.Result.{err_from_is_err_and}
use Rattle.std.proofs.lemmas.List.Quantifiers.{position-Some}
use Rattle.rt_sql_statement.specs.Name.{same_name}
use Rattle.rt_session.specs.declared.tables.Named.{Named}
use Rattle.rt_session.specs.Session.{table_of, is_named}
use Rattle.rt_session.specs.SessionInside.{named_of}
use Rattle.rt_session.proofs.Outcomes.{placed, found, missing, kept_at, with_tree_at, names_kept, carried, not_done}
use Rattle.rt_session.proofs.session.Session.edit.Goals as goal

pub returns-in_default : goal.returns-in_default
returns-in_default c =
    let place = placed (λ (n : Named). same_name c.args.name.now n.name) c.self.inside.tables.items _ _ _ c.as_slice.ensures.value c.place_of.ensures c.in_default.is in
    let none : table_of c.args.self.now c.args.name.now ≡ None = missing c.args.self.now _ _ c.self.view_is (is_named c.args.name.now) place in
    (refl, λ other tree. rw none refl)

pub invariant_of-self : goal.invariant_of-self
invariant_of-self c = names_kept c.self.inside.tables.items c.in-Some.at c.index_mut.result.now c.edit.new.self c.index_mut.ensures.value c.self.invariant

pub returns-in_err-changes : goal.returns-in_err-changes
returns-in_err-changes c =
    let place = placed (λ (n : Named). same_name c.args.name.now n.name) c.self.inside.tables.items _ _ _ c.as_slice.ensures.value c.place_of.ensures c.in-Some.is in
    let t = c.index_mut.result.now in
    let there : table_of c.args.self.now c.args.name.now ≡ Some (named_of t) = found c.args.self.now _ _ c.self.view_is (is_named c.args.name.now) c.in-Some.at t place c.index_mut.ensures.value in
    let within = (position-Some _ c.self.inside.tables.items c.in-Some.at t place).0 in
    let p = err_from_is_err_and c.from_residual.result c.from_residual.ensures.1 in
    rw (p.1, p.2) (
      kept_at c.args.self.now _ _ c.self.view_is c.in-Some.at t within c.index_mut.ensures.value c.edit.new.self c.in_err-changes.ensures.refused,
      λ other tree. rw there (carried tree c.args.self.now c.args.name.now t.table.lists c.args.edit _ (not_done c.args.edit t.table.lists _ c.in_err-changes.ensures.err other)),
    )

pub invariant_of-self-2 : goal.invariant_of-self-2
invariant_of-self-2 c = names_kept c.self.inside.tables.items c.in-Some.at c.index_mut.result.now c.edit.new.self c.index_mut.ensures.value c.self.invariant

pub returns : goal.returns
returns c =
    let place = placed (λ (n : Named). same_name c.args.name.now n.name) c.self.inside.tables.items _ _ _ c.as_slice.ensures.value c.place_of.ensures c.in-Some.is in
    let t = c.index_mut.result.now in
    let there : table_of c.args.self.now c.args.name.now ≡ Some (named_of t) = found c.args.self.now _ _ c.self.view_is (is_named c.args.name.now) c.in-Some.at t place c.index_mut.ensures.value in
    let here = position-Some (λ (n : Named). same_name c.args.name.now n.name) c.self.inside.tables.items c.in-Some.at t place in
    let same : same_name c.args.name.now t.name ≡ true = ap (λ (n : Named). same_name c.args.name.now n.name) c.index_mut.ensures.value ∙ here.1 in
    let after = c.edit.new.self in
    let state = with_tree_at c.args.self.now _ _ c.self.view_is c.in-Some.at t here.0 c.index_mut.ensures.value after c.args.name.now same c.self.invariant in
    rw (there, state) (after.tree, carried after.tree c.args.self.now c.args.name.now t.table.lists c.args.edit _ c.in_ok-changes.ensures.ok, c.in_ok-changes.ensures.tree)
