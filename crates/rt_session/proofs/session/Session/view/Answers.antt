use Rattle.std.proofs.Common.{◌≡◌, Some, None, refl}
use Rattle.std.proofs.lemmas.Result.{err_from_is_err_and}
use Rattle.rt_table_row.specs.Tables.{has_view, view}
use Rattle.rt_session.specs.declared.tables.Named.{Named}
use Rattle.rt_session.specs.Session.{watched_by, no_tree}
use Rattle.rt_session.specs.SessionInside.{named_of}
use Rattle.rt_session.proofs.Outcomes.{placed, found, missing, refused, viewed_as, leaves_state}
use Rattle.rt_session.proofs.session.Session.view.Goals as goal

pub returns-in_default : goal.returns-in_default
returns-in_default c =
    let place = placed (λ (n : Named). has_view n.table.lists c.args.view.now) c.self.inside.tables.items _ _ _ c.as_slice.ensures.value c.place_of_view.ensures c.in_default.is in
    let none : watched_by c.args.self.now c.args.view.now ≡ None = missing c.args.self.now _ _ c.self.view_is (λ t. has_view t.table c.args.view.now) place in
    (refl, λ other tree. rw none refl)

pub returns-in_err-found : goal.returns-in_err-found
returns-in_err-found c =
    let place = placed (λ (n : Named). has_view n.table.lists c.args.view.now) c.self.inside.tables.items _ _ _ c.as_slice.ensures.value c.place_of_view.ensures c.in-Some.is in
    let t = c.index.result.now in
    let there : watched_by c.args.self.now c.args.view.now ≡ Some (named_of t) = found c.args.self.now _ _ c.self.view_is (λ t. has_view t.table c.args.view.now) c.in-Some.at t place c.index.ensures in
    let p = err_from_is_err_and c.from_residual.result c.from_residual.ensures.1 in
    rw (p.1, p.2) (refl, λ other tree. rw (there, refused (view t.table.lists c.args.view.now) _ c.in_err-found.ensures.err other) refl)

pub returns : goal.returns
returns c =
    let place = placed (λ (n : Named). has_view n.table.lists c.args.view.now) c.self.inside.tables.items _ _ _ c.as_slice.ensures.value c.place_of_view.ensures c.in-Some.is in
    let t = c.index.result.now in
    let there : watched_by c.args.self.now c.args.view.now ≡ Some (named_of t) = found c.args.self.now _ _ c.self.view_is (λ t. has_view t.table c.args.view.now) c.in-Some.at t place c.index.ensures in
    (no_tree, rw there (leaves_state c.args.self.now _ _ (viewed_as c.args.view.now (named_of t) _ c.in_ok-found.ensures.ok)), tt)
