use Rattle.std.proofs.Common.{map, arith, lit<, sym, subst}
use Rattle.std.proofs.lemmas.List.Elements.{All-weaker}
use Rattle.rt_table_row.specs.Entries.{step_of}
use Rattle.rt_table_row.specs.Filters.{admits}
use Rattle.rt_table_view.specs.declared.view.Watched.{Watched}
use Rattle.rt_table_view.specs.Watching.{KeepsIds, IsKept}
use Rattle.rt_table.specs.Held.{Held}
use Rattle.rt_table_step.specs.Steps.{ApplyTo}
use Rattle.rt_table.proofs.Readying.{ready}
use Rattle.rt_table.proofs.table.Table.prepare.Goals as goal

pub stage-requires : goal.stage-requires
stage-requires g c =
    let rows = c.self.inside.store.rows in
    (lit< tt, (omega arith, All-weaker (IsKept c.self.inside.columns rows) (λ (w : Watched). KeepsIds (admits w.filter) rows w.ids.keys) (λ w kept. kept.ids_are) c.self.inside.views.items c.self.invariant.kept))

pub invariant_of-self : goal.invariant_of-self
invariant_of-self g c = record {
  some = c.self.invariant.some;
  few = c.self.invariant.few;
  axes_are = c.self.invariant.axes_are;
  rising = c.self.invariant.rising;
  kept = c.in_err-staged.ensures.kept c.self.inside.columns c.self.inside.store.rows c.self.invariant.kept;
}

pub invariant_of-self-in_err-reserve : goal.invariant_of-self-in_err-reserve
invariant_of-self-in_err-reserve g c = record {
  some = c.self.invariant.some;
  few = c.self.invariant.few;
  axes_are = c.self.invariant.axes_are;
  rising = rw c.in_err-reserve.ensures.rows c.self.invariant.rising;
  kept = rw c.in_err-reserve.ensures.rows (c.in_ok-staged.ensures.kept c.self.inside.columns c.self.inside.store.rows c.self.invariant.kept);
}

pub invariant_of-self-2 : goal.invariant_of-self-2
invariant_of-self-2 g c = record {
  some = c.self.invariant.some;
  few = c.self.invariant.few;
  axes_are = c.self.invariant.axes_are;
  rising = rw c.in_ok-reserve.ensures.rows c.self.invariant.rising;
  kept = rw c.in_ok-reserve.ensures.rows (c.in_ok-staged.ensures.kept c.self.inside.columns c.self.inside.store.rows c.self.invariant.kept);
}

pub returns-clause-ok : goal.returns-clause-ok
returns-clause-ok g c =
    let apply : ApplyTo c.self.inside.columns c.self.inside.store.rows (map step_of c.args.plan.now) =
    subst (λ (h : Held g.row.D). ApplyTo h.lists.columns h.lists.rows (map step_of c.args.plan.now)) (sym c.self.view_is) c.requires in
    ready c.self.inside.columns c.self.inside.store.rows c.reserve.new.self.rows c.reserve.new.self.tree c.self.inside.views.items c.stage.new.views.items c.reserve.new.self.room c.reserve.new.self.auxiliary_room
    c.in_ok-staged.staged (map step_of c.args.plan.now) c.in_ok-reserve.ensures.rows c.in_ok-staged.ensures.views apply
    (omega (arith, c.in_ok-reserve.ensures.ok, c.inserts_all.ensures)) (omega (arith, c.in_ok-reserve.ensures.auxiliary, c.auxiliary_rows_all.ensures))
    (c.in_ok-staged.ensures.awaited c.self.inside.columns c.self.invariant.kept) (c.in_ok-staged.ensures.changes c.self.inside.columns c.self.invariant.kept)
