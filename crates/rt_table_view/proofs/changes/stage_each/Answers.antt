use Rattle.std.proofs.Common.{◌≡◌, get_or, sym, ap, rules, arith, lit<, ◌∙◌, ◌++◌, subst}
use Rattle.std.specs.List.{flat_map}
use Rattle.std.proofs.lemmas.List.{get_or_default}
use Rattle.rt_table_view.specs.declared.view.Watched.{Watched}
use Rattle.rt_table_row.specs.Filters.{admits}
use Rattle.rt_table_view.specs.Watching.{KeepsIds, IsRoomier}
use Rattle.rt_table_view.specs.Fates.{rows_after, changes_at, shifts_at}
use Rattle.rt_table_view.proofs.Touching.{flat_map_more, set_each}
use Rattle.rt_table_view.proofs.changes.stage_each.Goals as goal

pub stage_view-requires : goal.stage_view-requires
stage_view-requires g c =
    let at = c.loop-at.at in
    let old = c.index-views-at.result in
    let here : get_or c.loop-at.views at old ≡ get_or c.args.views.now at old = c.loop-at.invariant.rest at old (omega arith) in
    (lit< tt, (omega arith, subst (λ (w : Watched). KeepsIds (admits w.filter) c.args.store.now.rows w.ids.keys) (sym here) (c.requires at old (omega arith))))

pub loop-at-preserved : goal.loop-at-preserved
loop-at-preserved g c =
    let at = c.loop-at.at in
    let old = c.index-views-at.result in
    let here : (d : Watched) → old ≡ get_or c.args.views.now at d = λ d.
    c.index-views-at.is ∙ c.loop-at.invariant.rest at old (omega arith) ∙ get_or_default c.args.views.now at old d (omega arith) in
    let roomier : IsRoomier old c.stage_view.new.view = search rules in
    let shifted : c.stage_view.new.view.shifts.items ≡ flat_map (shifts_at old c.args.store.now.rows (rows_after c.args.store.now.rows c.args.fates.now)) c.args.ids.now = search rules in
    let changed : c.stage_view.new.staged ≡ c.loop-at.staged ++ flat_map (changes_at old c.args.store.now.rows (rows_after c.args.store.now.rows c.args.fates.now)) c.args.ids.now = search rules in
    record {
      same = λ k w within. set_each (λ n x. IsRoomier (get_or c.args.views.now n w) x) c.loop-at.views at c.stage_view.new.view (omega arith)
          (subst (λ (x : Watched). IsRoomier x c.stage_view.new.view) (here w) roomier) k w (λ other. c.loop-at.invariant.same k w within);
      rest = search rules;
      changes = changed ∙ ap (λ cs. cs ++ flat_map (changes_at old c.args.store.now.rows (rows_after c.args.store.now.rows c.args.fates.now)) c.args.ids.now) c.loop-at.invariant.changes ∙ sym (flat_map_more _ c.args.views.now at old (omega arith) (here old));
      shifts = λ k w within. set_each (λ n x. x.shifts.items ≡ flat_map (shifts_at (get_or c.args.views.now n w) c.args.store.now.rows (rows_after c.args.store.now.rows c.args.fates.now)) c.args.ids.now)
          c.loop-at.views at c.stage_view.new.view (omega arith)
          (subst (λ (x : Watched). c.stage_view.new.view.shifts.items ≡ flat_map (shifts_at x c.args.store.now.rows (rows_after c.args.store.now.rows c.args.fates.now)) c.args.ids.now) (here w) shifted)
          k w (λ other. c.loop-at.invariant.shifts k w (omega (arith, other, within)));
      room = search rules;
    }
