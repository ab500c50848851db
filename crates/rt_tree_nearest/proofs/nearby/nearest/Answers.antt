use Rattle.std.proofs.Common.{◌≡◌, List, ap, ◌∙◌}
use Rattle.std.proofs.lemmas.Result.{IfOk-weaker}
use Rattle.rt_box.specs.declared.interval.Interval.{Interval}
use Rattle.rt_tree_walk.specs.Rows.{rows_in}
use Rattle.rt_tree_nearest.specs.Nearest.{nearest_rows, nearest_rows_to}
use Rattle.rt_tree_nearest.proofs.Points.{nearest-at}
use Rattle.rt_tree_nearest.proofs.nearby.nearest.Goals as goal

pub returns : goal.returns
returns g c =
    let rows_of_tree = rows_in c.args.tree.now in
    let point = c.args.point.now in
    let k = c.args.k in
    IfOk-weaker c.nearest_to.result (λ rows. rows.items ≡ nearest_rows_to c.box_of.result k rows_of_tree) (λ rows. rows.items ≡ nearest_rows point k rows_of_tree)
    (λ rows is. is ∙ ap (λ (target : List Interval). nearest_rows_to target k rows_of_tree) c.box_of.ensures ∙ nearest-at point k rows_of_tree)
    c.nearest_to.ensures
