use Rattle.std.proofs.Common.{◌≡◌, ap, ◌∙◌}
use Rattle.std.proofs.lemmas.Result.{IfOk-weaker}
use Rattle.rt_tree_walk.specs.Rows.{rows_in}
use Rattle.rt_tree_nearest.specs.Nearest.{rows_within}
use Rattle.rt_tree.specs.Lists.{rows_of}
use Rattle.rt_map.proofs.Listed.{listed}
use Rattle.rt_map.proofs.nearby.within.Goals as goal

pub returns : goal.returns
returns g c =
    let t = c.arena.result.now in
    let point = c.args.point.now in
    let distance = c.args.distance in
    let k = c.args.k in
    let own = listed t c.args.tree.now.spare c.args.tree.now.lists c.arena.ensures.kept c.arena.ensures.lists in
    IfOk-weaker c.within.result (λ rows. rows.items ≡ rows_within point distance k (rows_in t))
    (λ rows. rows.items ≡ rows_within point distance k (rows_of c.args.tree.now.lists))
    (λ rows h. h ∙ ap (rows_within point distance k) own)
    c.within.ensures
