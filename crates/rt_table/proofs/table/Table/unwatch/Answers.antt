use Rattle.std.proofs.Common.{◌≡◌, true, refl, sym, subst, not}
use Rattle.std.proofs.lemmas.List.Elements.{All-filter}
use Rattle.rt_sql_statement.specs.Name.{same_name}
use Rattle.rt_table_row.specs.Tables.{has_view}
use Rattle.rt_table_view.specs.Watching.{IsKept}
use Rattle.rt_table.specs.Held.{Held}
use Rattle.rt_table.specs.TableInside.{contents}
use Rattle.rt_table.proofs.Viewing.{unwatched_of}
use Rattle.rt_table.proofs.table.Table.unwatch.Goals as goal

pub invariant_of-self : goal.invariant_of-self
invariant_of-self g c = record {
  some = c.self.invariant.some;
  few = c.self.invariant.few;
  axes_are = c.self.invariant.axes_are;
  rising = c.self.invariant.rising;
  kept = rw c.forget.ensures (All-filter (λ w. not (same_name c.args.name.now w.name)) (IsKept c.self.inside.columns c.self.inside.store.rows) c.self.inside.views.items c.self.invariant.kept);
}

pub returns-clause-ok : goal.returns-clause-ok
returns-clause-ok g c =
    let there : has_view (contents c.self.inside).lists c.args.name.now ≡ true = subst (λ (h : Held g.row.D). has_view h.lists c.args.name.now ≡ true) (sym c.self.view_is) (sym c.if-not-has_view.ensures) in
    rw (← c.self.view_is) (unwatched_of (contents c.self.inside).lists c.args.name.now c.self.inside.views.items c.forget.new.views.items refl c.forget.ensures there)
