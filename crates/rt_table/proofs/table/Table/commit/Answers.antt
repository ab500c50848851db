use Rattle.std.proofs.Common.{◌≤◌, length, map, sym, subst}
use Rattle.std.specs.List.{All}
use Rattle.std.proofs.lemmas.List.Elements.{All-weaker}
use Rattle.indexmap.specs.IndexSet.{spare}
use Rattle.rt_table_row.specs.Edits.{outcome}
use Rattle.rt_table_row.specs.Entries.{step_of}
use Rattle.rt_table_store.specs.Trees.{IsTreeOf, FollowsSteps}
use Rattle.rt_table_view.specs.declared.view.Watched.{Watched}
use Rattle.rt_table.specs.Held.{Held}
use Rattle.rt_table_view.specs.Preparing.{IsAwaited}
use Rattle.rt_table_view.specs.Watching.{awaited_of}
use Rattle.rt_table_view.proofs.Refreshing.{All-unmapped}
use Rattle.rt_table.proofs.table.Table.commit.Goals as goal

pub refresh_each-requires : goal.refresh_each-requires
refresh_each-requires g c =
    let after = outcome c.self.inside.store.rows (map step_of c.args.plan.items) in
    let awaited : All (IsAwaited c.self.inside.columns c.self.inside.store.rows after) (map awaited_of c.self.inside.views.items) =
    subst (λ (h : Held g.row.D). All (IsAwaited h.lists.columns h.lists.rows (outcome h.lists.rows (map step_of c.args.plan.items))) h.awaited) (sym c.self.view_is) c.requires.awaited in
    All-weaker (λ (w : Watched). IsAwaited c.self.inside.columns c.self.inside.store.rows after (awaited_of w)) (λ (w : Watched). length w.shifts.items ≤ spare w.ids) (λ w is. is.room) c.self.inside.views.items
    (All-unmapped (IsAwaited c.self.inside.columns c.self.inside.store.rows after) awaited_of c.self.inside.views.items awaited)

pub invariant_of-self : goal.invariant_of-self
invariant_of-self g c =
    let after = outcome c.self.inside.store.rows (map step_of c.args.plan.items) in
    let awaited : All (IsAwaited c.self.inside.columns c.self.inside.store.rows after) (map awaited_of c.self.inside.views.items) =
    subst (λ (h : Held g.row.D). All (IsAwaited h.lists.columns h.lists.rows (outcome h.lists.rows (map step_of c.args.plan.items))) h.awaited) (sym c.self.view_is) c.requires.awaited in
    record {
      some = c.self.invariant.some;
      few = c.self.invariant.few;
      axes_are = c.self.invariant.axes_are;
      rising = c.facts.ensures.rising;
      kept = rw c.apply.ensures.rows (c.refresh_each.ensures.kept c.self.inside.columns c.self.inside.store.rows after awaited c.self.invariant.kept);
    }

pub returns-clause-tree : goal.returns-clause-tree
returns-clause-tree g c =
    let stands : IsTreeOf (outcome c.self.inside.store.rows (map step_of c.args.plan.items)) c.apply.new.store.tree = rw (← c.apply.ensures.rows) c.facts.ensures.stands in
    let follows : FollowsSteps c.self.inside.store.rows (map step_of c.args.plan.items) c.self.inside.store.tree c.apply.new.store.tree =
    record { stands = stands; takes = c.apply.ensures.tree; capacity = c.apply.ensures.capacity } in
    rw (← c.self.view_is) follows
