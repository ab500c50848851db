use Rattle.std.proofs.Common.{◌≡◌, ◌∙◌, ◌++◌, List, ap, length, arith}
use Rattle.std.proofs.lemmas.Result.{on_ok_weaker}
use Rattle.rt_tree_walk.specs.declared.searching.Row.{Row}
use Rattle.rt_tree.specs.Lists.{rows_of}
use Rattle.rt_live.specs.Rows.{by_id}
use Rattle.rt_live.specs.Changes.{window_changes}
use Rattle.rt_live.specs.declared.change.Change.{Change}
use Rattle.rt_live.proofs.Telling.{window-found}
use Rattle.rt_live.specs.Finding.{touches_either}
use Rattle.rt_live.proofs.Counting.{filter-long}
use Rattle.rt_live.proofs.Room.{err-not-ok, ok-without, room-grows}
use Rattle.rt_live.proofs.plan.plan_window.Goals as goal

pub returns-clause-told : goal.returns-clause-told
returns-clause-told g c =
    let rows = by_id (rows_of c.args.rows.now.lists) in
    let id = c.args.window.now in
    let was = c.args.was.now in
    let is = c.args.is.now in
    on_ok_weaker c.list_window.result
    (λ (told : c.list_window.new.changes.items ≡ c.clear.new.self.items ++ window_changes c.as_slice.result.now id was is).
    told
    ∙ ap (λ (changes : List Change). changes ++ window_changes c.as_slice.result.now id was is) c.clear.ensures.items
    ∙ ap (λ (found : List (Row g.row.D)). window_changes found id was is) (c.as_slice.ensures.value ∙ c.in_ok-find_either.ensures.rows)
    ∙ window-found rows id was is)
    c.list_window.ensures.told

pub returns-in_err-find_either-clause-succeeds : goal.returns-in_err-find_either-clause-succeeds
returns-in_err-find_either-clause-succeeds g c = λ room fits. absurd (err-not-ok c.find_either.result _ c.in_err-find_either.was (c.find_either.ensures.succeeds
    (room-grows c.args.rows.now.lists c.args.was.now c.args.is.now c.args.scratch.now c.plan_window_at_once.new.scratch c.plan_window_at_once.ensures.grows room)))

pub returns-clause-succeeds : goal.returns-clause-succeeds
returns-clause-succeeds g c = λ room fits.
    let long = filter-long (touches_either c.args.was.now c.args.is.now) (by_id (rows_of c.args.rows.now.lists)) in
    ok-without c.list_window.result c.list_window.ensures.full
    (λ full. omega (
      arith,
      full,
      fits,
      long,
      ap length c.clear.ensures.items,
      c.clear.ensures.capacity,
      c.plan_window_at_once.ensures.capacity,
      ap length (c.as_slice.ensures.value ∙ c.in_ok-find_either.ensures.rows),
    ))
