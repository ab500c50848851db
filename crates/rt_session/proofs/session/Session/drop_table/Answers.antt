use Rattle.std.proofs.Common.{◌≡◌, ◌∙◌, true, false, Some, None, ap, sym, refl, length}
use Rattle.std.proofs.lemmas.List.Quantifiers.{position-Some}
use Rattle.rt_sql_statement.specs.Name.{same_name}
use Rattle.rt_session.specs.declared.tables.Named.{Named}
use Rattle.rt_session.specs.Session.{table_of, is_named, is_watched, no_tree}
use Rattle.rt_session.specs.SessionInside.{named_of}
use Rattle.rt_session.proofs.Outcomes.{placed, found, missing, without_table_at, names_left, dropped_found, watched_same}
use Rattle.rt_session.proofs.session.Session.drop_table.Goals as goal

pub returns-then-if_there : goal.returns-then-if_there
returns-then-if_there c =
    let place = placed (λ (n : Named). same_name c.args.name.now n.name) c.self.inside.tables.items _ _ _ c.as_slice.ensures.value c.place_of.ensures c.in_default.is in
    let none : table_of c.args.self.now c.args.name.now ≡ None = missing c.args.self.now _ _ c.self.view_is (is_named c.args.name.now) place in
    (no_tree, rw (none, c.if-if_there.true) refl, tt)

pub returns-in_default : goal.returns-in_default
returns-in_default c =
    let place = placed (λ (n : Named). same_name c.args.name.now n.name) c.self.inside.tables.items _ _ _ c.as_slice.ensures.value c.place_of.ensures c.in_default.is in
    let none : table_of c.args.self.now c.args.name.now ≡ None = missing c.args.self.now _ _ c.self.view_is (is_named c.args.name.now) place in
    (refl, λ other tree. rw (none, c.if-if_there.false) refl)

pub returns-then-watched : goal.returns-then-watched
returns-then-watched c =
    let place = placed (λ (n : Named). same_name c.args.name.now n.name) c.self.inside.tables.items _ _ _ c.as_slice.ensures.value c.place_of.ensures c.in-Some.is in
    let t = c.index.result.now in
    let there : table_of c.args.self.now c.args.name.now ≡ Some (named_of t) = found c.args.self.now _ _ c.self.view_is (is_named c.args.name.now) c.in-Some.at t place c.index.ensures in
    let watched : is_watched t.table.lists ≡ true = watched_same (length t.table.lists.views) ∙ sym c.watched.ensures ∙ c.if-watched.true in
    (refl, λ other tree. dropped_found c.args.self.now c.args.name.now c.args.if_there (named_of t) there ∙ rw watched refl)

pub invariant_of-self : goal.invariant_of-self
invariant_of-self c =
    let place = placed (λ (n : Named). same_name c.args.name.now n.name) c.self.inside.tables.items _ _ _ c.as_slice.ensures.value c.place_of.ensures c.in-Some.is in
    let t = c.index.result.now in
    let here = position-Some (λ (n : Named). same_name c.args.name.now n.name) c.self.inside.tables.items c.in-Some.at t place in
    let same : same_name c.args.name.now t.name ≡ true = ap (λ (n : Named). same_name c.args.name.now n.name) c.index.ensures ∙ here.1 in
    names_left c.args.name.now c.self.inside.tables.items c.remove.new.self.items c.in-Some.at t here.0 c.index.ensures same c.self.invariant c.remove.ensures.items

pub returns : goal.returns
returns c =
    let place = placed (λ (n : Named). same_name c.args.name.now n.name) c.self.inside.tables.items _ _ _ c.as_slice.ensures.value c.place_of.ensures c.in-Some.is in
    let t = c.index.result.now in
    let there : table_of c.args.self.now c.args.name.now ≡ Some (named_of t) = found c.args.self.now _ _ c.self.view_is (is_named c.args.name.now) c.in-Some.at t place c.index.ensures in
    let here = position-Some (λ (n : Named). same_name c.args.name.now n.name) c.self.inside.tables.items c.in-Some.at t place in
    let same : same_name c.args.name.now t.name ≡ true = ap (λ (n : Named). same_name c.args.name.now n.name) c.index.ensures ∙ here.1 in
    let watched : is_watched t.table.lists ≡ false = watched_same (length t.table.lists.views) ∙ sym c.watched.ensures ∙ c.if-watched.false in
    let state = without_table_at c.args.self.now _ _ c.self.view_is c.in-Some.at t here.0 c.index.ensures c.args.name.now same c.self.invariant in
    (no_tree, dropped_found c.args.self.now c.args.name.now c.args.if_there (named_of t) there ∙ rw (watched, c.remove.ensures.items, state) refl, tt)
