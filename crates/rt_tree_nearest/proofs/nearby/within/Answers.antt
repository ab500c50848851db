use Rattle.std.proofs.Common.{◌≡◌, ℕ, ◌*◌, Bool, List, take, filter, nat_le, arith, ap, ◌∙◌, subst}
use Rattle.std.specs.declared.cmp.Ordering.{Ordering}
use Rattle.std.specs.Result.{IfOk}
use Rattle.std.proofs.lemmas.Result.{IfOk-weaker}
use Rattle.rt_box.specs.declared.interval.Interval.{Interval}
use Rattle.rt_tree_choice.specs.Sorting.{sort_by}
use Rattle.rt_tree_walk.specs.declared.searching.Row.{Row}
use Rattle.rt_tree_walk.specs.Rows.{rows_in}
use Rattle.rt_tree_nearest.specs.Nearest.{squared_distance, rows_within}
use Rattle.rt_tree_nearest.specs.Candidates.{IsAnswer}
use Rattle.rt_tree_nearest.proofs.Distances.{distance-at}
use Rattle.rt_tree_nearest.specs.declared.query.Query.{Query}
use Rattle.rt_tree_nearest.proofs.Narrowed.{fields}
use Rattle.rt_tree_nearest.proofs.Points.{nearness-at, is-no_farther, is-farther}
use Rattle.rt_tree_nearest.proofs.nearby.within.Goals as goal

pub returns : goal.returns
returns g c =
    let t = c.args.tree.now in
    let point = c.args.point.now in
    let distance = c.args.distance in
    let k = c.args.k in
    let limit : ℕ = c.from-reach.result * c.from-reach.result in
    let same : limit ≡ distance * distance = ap (λ n. n * n) c.from-reach.ensures in
    let near : Row g.row.D → Bool = λ r. nat_le (squared_distance r.rect point) (distance * distance) in
    IfOk-weaker c.find.result (λ rows. IsAnswer t (record { target = c.box_of-target.result; k = k; limit = limit; window = c.new.result.window }) rows.items)
    (λ rows. rows.items ≡ rows_within point distance k (rows_in t))
    (λ rows is.
    let at = subst (λ (target : List Interval). IsAnswer t (record { target = target; k = k; limit = limit; window = c.new.result.window }) rows.items) c.box_of-target.ensures is in
    at near
    (λ r far. is-farther (squared_distance r.rect point) (distance * distance) (omega (arith, far.2, far.3, same, distance-at r.rect point)))
    (λ r h. is-no_farther (squared_distance r.rect point) (distance * distance) (omega (arith, h, same, distance-at r.rect point)))
    ∙ ap (λ (order : Row g.row.D → Row g.row.D → Ordering). take k (filter near (sort_by order (rows_in t)))) (nearness-at point))
    (subst (λ (q : Query g.row.D). IfOk c.find.result (λ rows. IsAnswer t q rows.items)) (fields c.new.result c.box_of-target.result k limit c.new.ensures.target c.new.ensures.k c.new.ensures.limit) c.find.ensures)
