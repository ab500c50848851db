use Rattle.std.proofs.Common.{◌≡◌, ◌∙◌, ◌++◌, List, ap}
use Rattle.std.proofs.lemmas.Result.{on_ok_weaker}
use Rattle.rt_tree_walk.specs.declared.searching.Row.{Row}
use Rattle.rt_live.specs.Changes.{window_changes}
use Rattle.rt_live.specs.declared.change.Change.{Change}
use Rattle.rt_live.proofs.Covering.{window-covered}
use Rattle.rt_live.proofs.plan.plan_strips.Goals as goal

pub returns-clause-told : goal.returns-clause-told
returns-clause-told g c =
    let id = c.args.window.now in
    let was = c.args.was.now in
    let is = c.args.is.now in
    on_ok_weaker c.list_window.result
    (λ (told : c.list_window.new.changes.items ≡ c.clear.new.self.items ++ window_changes c.as_slice.result.now id was is).
    told
    ∙ ap (λ (changes : List Change). changes ++ window_changes c.as_slice.result.now id was is) c.clear.ensures.items
    ∙ ap (λ (found : List (Row g.row.D)). window_changes found id was is) (c.as_slice.ensures.value ∙ c.in_ok-find_either.ensures.rows)
    ∙ window-covered c.args.rows.now.lists c.is_in_shape.ensures c.has_boxes.ensures id was is c.args.strips.now.low c.args.strips.now.high c.requires)
    c.list_window.ensures.told
