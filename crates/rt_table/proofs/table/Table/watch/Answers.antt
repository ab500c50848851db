use Rattle.std.proofs.lemmas.List.Elements.{All-push}
use Rattle.rt_table_view.specs.Watching.{IsKept}
use Rattle.rt_table.proofs.table.Table.watch.Goals as goal

pub invariant_of-self : goal.invariant_of-self
invariant_of-self g c = record {
  some = c.self.invariant.some;
  few = c.self.invariant.few;
  axes_are = c.self.invariant.axes_are;
  rising = c.self.invariant.rising;
  kept = rw c.in_err-push.ensures.items c.self.invariant.kept;
}

pub invariant_of-self-2 : goal.invariant_of-self-2
invariant_of-self-2 g c = record {
  some = c.self.invariant.some;
  few = c.self.invariant.few;
  axes_are = c.self.invariant.axes_are;
  rising = c.self.invariant.rising;
  kept = rw c.in_ok-push.ensures.items (All-push (IsKept c.self.inside.columns c.self.inside.store.rows) c.self.inside.views.items c.in_ok-view.view c.self.invariant.kept c.in_ok-view.ensures.kept);
}
