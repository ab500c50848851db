use Rattle.std.proofs.Common.{◌≡◌, sym, subst, inl, refl, Some, None}
use Rattle.std.specs.Prelude.{position}
use Rattle.std.proofs.lemmas.List.Quantifiers.{position-Some}
use Rattle.rt_table_row.specs.Tables.{is_view}
use Rattle.rt_table_view.specs.declared.view.Watched.{Watched}
use Rattle.rt_table.specs.TableInside.{contents}
use Rattle.rt_table_view.specs.Watching.{view_of, IsKept}
use Rattle.rt_table.proofs.Showing.{no_view, view_shown}
use Rattle.rt_table.proofs.table.Table.view.Goals as goal

pub returns-in_default-clause-err : goal.returns-in_default-clause-err
returns-in_default-clause-err g c =
    let none : position (λ (w : Watched). is_view c.args.name.now (view_of w)) c.self.inside.views.items ≡ None = rw c.as_slice.ensures.value at (sym c.in_default.ensures) in
    rw (← c.self.view_is) (inl (no_view (contents c.self.inside).lists c.args.name.now c.self.inside.views.items refl none))

pub returns-clause-ok : goal.returns-clause-ok
returns-clause-ok g c =
    let placed : position (λ (w : Watched). is_view c.args.name.now (view_of w)) c.self.inside.views.items ≡ Some c.in-Some.at = rw c.as_slice.ensures.value at (sym c.in-Some.ensures) in
    let within = (position-Some (λ (w : Watched). is_view c.args.name.now (view_of w)) c.self.inside.views.items c.in-Some.at c.index.result.now placed).0 in
    let kept : IsKept c.self.inside.columns c.self.inside.store.rows c.index.result.now =
    subst (λ (w : Watched). IsKept c.self.inside.columns c.self.inside.store.rows w) (sym c.index.ensures) (c.self.invariant.kept c.in-Some.at c.index.result.now within) in
    rw (← c.self.view_is) (view_shown (contents c.self.inside).lists c.args.name.now c.self.inside.views.items c.in-Some.at c.index.result.now refl placed c.index.ensures kept _ c.in_ok-rows.ensures)
