use Rattle.std.proofs.Common.{◌≡◌, Some, None, refl}
use Rattle.rt_sql_statement.specs.Name.{same_name}
use Rattle.rt_session.specs.declared.tables.Named.{Named}
use Rattle.rt_session.specs.Session.{table_of, is_named, no_tree}
use Rattle.rt_session.specs.SessionInside.{named_of}
use Rattle.rt_session.proofs.Outcomes.{placed, found, missing}
use Rattle.rt_session.proofs.session.Session.nodes.Goals as goal

pub returns-in_default : goal.returns-in_default
returns-in_default c =
    let place = placed (λ (n : Named). same_name c.args.name.now n.name) c.self.inside.tables.items _ _ _ c.as_slice.ensures.value c.place_of.ensures c.in_default.is in
    let none : table_of c.args.self.now c.args.name.now ≡ None = missing c.args.self.now _ _ c.self.view_is (is_named c.args.name.now) place in
    (refl, λ other tree. rw none refl)

pub returns : goal.returns
returns c =
    let place = placed (λ (n : Named). same_name c.args.name.now n.name) c.self.inside.tables.items _ _ _ c.as_slice.ensures.value c.place_of.ensures c.in-Some.is in
    let t = c.index.result.now in
    let there : table_of c.args.self.now c.args.name.now ≡ Some (named_of t) = found c.args.self.now _ _ c.self.view_is (is_named c.args.name.now) c.in-Some.at t place c.index.ensures in
    (no_tree, rw (there, c.in_ok-dump.ensures, c.in_ok-shadow.ensures) refl, tt)
