use Rattle.std.proofs.Common.{◌≡◌, Some, None, refl}
use Rattle.std.proofs.lemmas.Result.{err_from_is_err_and}
use Rattle.std.proofs.lemmas.List.Quantifiers.{position-Some}
use Rattle.rt_table_row.specs.Tables.{has_view}
use Rattle.rt_session.specs.declared.tables.Named.{Named}
use Rattle.rt_session.specs.Session.{watched_by, no_tree}
use Rattle.rt_session.specs.SessionInside.{named_of}
use Rattle.rt_session.proofs.Places.{same_self}
use Rattle.rt_session.proofs.Outcomes.{placed, found, missing, kept_at, with_table_at, names_kept}
use Rattle.rt_session.proofs.session.Session.unwatch.Goals as goal

pub returns-in_default : goal.returns-in_default
returns-in_default c =
    let place = placed (λ (n : Named). has_view n.table.lists c.args.view.now) c.self.inside.tables.items _ _ _ c.as_slice.ensures.value c.place_of_view.ensures c.in_default.is in
    let none : watched_by c.args.self.now c.args.view.now ≡ None = missing c.args.self.now _ _ c.self.view_is (λ t. has_view t.table c.args.view.now) place in
    (refl, λ other tree. rw none refl)

pub returns-in_err-unwatch : goal.returns-in_err-unwatch
returns-in_err-unwatch c =
    let place = placed (λ (n : Named). has_view n.table.lists c.args.view.now) c.self.inside.tables.items _ _ _ c.as_slice.ensures.value c.place_of_view.ensures c.in-Some.is in
    let t = c.index_mut.result.now in
    let there : watched_by c.args.self.now c.args.view.now ≡ Some (named_of t) = found c.args.self.now _ _ c.self.view_is (λ t. has_view t.table c.args.view.now) c.in-Some.at t place c.index_mut.ensures.value in
    let within = (position-Some _ c.self.inside.tables.items c.in-Some.at t place).0 in
    let p = err_from_is_err_and c.from_residual.result c.from_residual.ensures.1 in
    rw (p.1, p.2) (
      kept_at c.args.self.now _ _ c.self.view_is c.in-Some.at t within c.index_mut.ensures.value c.unwatch.new.self c.in_err-unwatch.ensures.refused,
      λ other tree. rw (there, c.in_err-unwatch.ensures.err) refl,
    )

pub invariant_of-self-2 : goal.invariant_of-self-2
invariant_of-self-2 c = names_kept c.self.inside.tables.items c.in-Some.at c.index_mut.result.now c.unwatch.new.self c.index_mut.ensures.value c.self.invariant

pub returns : goal.returns
returns c =
    let place = placed (λ (n : Named). has_view n.table.lists c.args.view.now) c.self.inside.tables.items _ _ _ c.as_slice.ensures.value c.place_of_view.ensures c.in-Some.is in
    let t = c.index_mut.result.now in
    let there : watched_by c.args.self.now c.args.view.now ≡ Some (named_of t) = found c.args.self.now _ _ c.self.view_is (λ t. has_view t.table c.args.view.now) c.in-Some.at t place c.index_mut.ensures.value in
    let within = (position-Some _ c.self.inside.tables.items c.in-Some.at t place).0 in
    let state = with_table_at c.args.self.now _ _ c.self.view_is c.in-Some.at t within c.index_mut.ensures.value c.unwatch.new.self t.name (same_self t.name) c.self.invariant c.unwatch.ensures.tree in
    (no_tree, rw (there, c.in_ok-unwatch.ensures.ok, state) refl, tt)
