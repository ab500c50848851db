use Rattle.std.proofs.Common.{◌≡◌, ap, ◌∙◌}
use Rattle.std.proofs.lemmas.Result.{IfOk-weaker}
use Rattle.rt_tree_walk.specs.Rows.{rows_in}
use Rattle.rt_tree_nearest.specs.Nearest.{nearest_rows}
use Rattle.rt_tree.specs.Lists.{rows_of}
use Rattle.rt_map.proofs.Listed.{listed}
use Rattle.rt_map.proofs.nearby.nearest.Goals as goal

pub returns : goal.returns
returns g c =
    let t = c.arena.result.now in
    let point = c.args.point.now in
    let k = c.args.k in
    let own = listed t c.args.tree.now.spare c.args.tree.now.lists c.arena.ensures.kept c.arena.ensures.lists in
    IfOk-weaker c.nearest.result (λ rows. rows.items ≡ nearest_rows point k (rows_in t))
    (λ rows. rows.items ≡ nearest_rows point k (rows_of c.args.tree.now.lists))
    (λ rows h. h ∙ ap (nearest_rows point k) own)
    c.nearest.ensures
