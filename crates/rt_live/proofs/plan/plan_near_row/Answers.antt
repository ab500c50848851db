use Rattle.std.proofs.Common.{◌∙◌, ◌++◌, List, Option, sym, ap, subst}
use Rattle.rt_tree_walk.specs.declared.searching.Row.{Row}
use Rattle.rt_box.specs.declared.interval.Interval.{Interval}
use Rattle.rt_live.specs.Rows.{rows_by_id}
use Rattle.rt_live.specs.Finding.{IsNear}
use Rattle.rt_live.specs.Changes.{told_each}
use Rattle.rt_live.specs.declared.change.Change.{Change}
use Rattle.rt_live.proofs.Telling.{told-around, row_changes-told}
use Rattle.rt_live.proofs.Room.{when-ok}
use Rattle.rt_live.proofs.plan.plan_near_row.Goals as goal

pub returns-in-Some-clause-told : goal.returns-in-Some-clause-told
returns-in-Some-clause-told g c = λ s near ok.
    let rows = rows_by_id s in
    let id = c.args.id.now in
    let was = c.args.was.now in
    let is = c.args.is.now in
    when-ok c.list_row.result c.list_row.ensures.told (sym c.is_ok.ensures.value ∙ ok)
    ∙ ap (λ (changes : List Change). changes ++ told_each c.args.found.now id was is) c.clear.ensures.items
    ∙ ap (λ (found : List (Row g.row.D)). told_each found id was is) (subst (λ (near : Option (List Interval)). IsNear s near c.args.found.now) c.in-Some.is near)
    ∙ told-around rows id was is c.in-Some.hull (c.encloses.ensures c.if-encloses.true)
    ∙ sym (row_changes-told rows id was is c.requires)
