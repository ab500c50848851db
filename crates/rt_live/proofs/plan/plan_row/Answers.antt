use Rattle.std.proofs.Common.{◌≡◌, ◌∙◌, ◌++◌, List, sym, ap, length, arith}
use Rattle.std.proofs.lemmas.Result.{on_ok_weaker}
use Rattle.rt_tree_walk.specs.declared.searching.Row.{Row}
use Rattle.rt_tree.specs.Lists.{rows_of}
use Rattle.rt_live.specs.Rows.{by_id}
use Rattle.rt_live.specs.Changes.{told_each}
use Rattle.rt_live.specs.declared.change.Change.{Change}
use Rattle.rt_live.proofs.Telling.{told-found, row_changes-told}
use Rattle.rt_live.specs.Finding.{touches_either}
use Rattle.rt_live.proofs.Counting.{filter-long}
use Rattle.rt_live.proofs.Room.{err-not-ok, ok-without, room-grows}
use Rattle.rt_live.proofs.plan.plan_row.Goals as goal

pub returns-clause-told : goal.returns-clause-told
returns-clause-told g c =
    let rows = by_id (rows_of c.args.windows.now.lists) in
    let id = c.args.id.now in
    let was = c.args.was.now in
    let is = c.args.is.now in
    on_ok_weaker c.list_row.result
    (λ (told : c.list_row.new.changes.items ≡ c.clear.new.self.items ++ told_each c.as_slice-3.result.now id was is).
    told
    ∙ ap (λ (changes : List Change). changes ++ told_each c.as_slice-3.result.now id was is) c.clear.ensures.items
    ∙ ap (λ (found : List (Row g.row.D)). told_each found id was is) (c.as_slice-3.ensures.value ∙ c.in_ok-find_either.ensures.rows)
    ∙ told-found rows id was is
    ∙ sym (row_changes-told rows id was is c.requires.moves))
    c.list_row.ensures.told

pub returns-in_err-find_either-clause-succeeds : goal.returns-in_err-find_either-clause-succeeds
returns-in_err-find_either-clause-succeeds g c = λ room fits. absurd (err-not-ok c.find_either.result _ c.in_err-find_either.was (c.find_either.ensures.succeeds
    (room-grows c.args.windows.now.lists c.args.was.now c.args.is.now c.args.scratch.now c.find_near.new.scratch c.find_near.ensures.grows room)))

pub returns-clause-succeeds : goal.returns-clause-succeeds
returns-clause-succeeds g c = λ room fits.
    let long = filter-long (touches_either c.args.was.now c.args.is.now) (by_id (rows_of c.args.windows.now.lists)) in
    ok-without c.list_row.result c.list_row.ensures.full
    (λ full. omega (
      arith,
      full,
      fits,
      long,
      ap length c.clear.ensures.items,
      c.clear.ensures.capacity,
      c.plan_near_row.ensures.capacity,
      c.plan_near_row-2.ensures.capacity,
      ap length (c.as_slice-3.ensures.value ∙ c.in_ok-find_either.ensures.rows),
    ))
