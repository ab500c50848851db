use Rattle.std.proofs.Common.{◌≡◌, ap, ◌∙◌}
use Rattle.std.proofs.lemmas.Result.{IfOk-weaker}
use Rattle.rt_tree_walk.specs.Rows.{rows_in}
use Rattle.rt_tree_nearest.specs.Nearest.{nearest_rows_to}
use Rattle.rt_tree.specs.Lists.{rows_of}
use Rattle.rt_map.proofs.Listed.{listed}
use Rattle.rt_map.proofs.nearby.nearest_to.Goals as goal

pub returns : goal.returns
returns g c =
    let t = c.arena.result.now in
    let target = c.args.rect.now in
    let k = c.args.k in
    let own = listed t c.args.tree.now.spare c.args.tree.now.lists c.arena.ensures.kept c.arena.ensures.lists in
    IfOk-weaker c.nearest_to.result (λ rows. rows.items ≡ nearest_rows_to target k (rows_in t))
    (λ rows. rows.items ≡ nearest_rows_to target k (rows_of c.args.tree.now.lists))
    (λ rows h. h ∙ ap (nearest_rows_to target k) own)
    c.nearest_to.ensures
