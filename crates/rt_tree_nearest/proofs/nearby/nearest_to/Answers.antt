use Rattle.std.proofs.Common.{◌≡◌, ◌-◌, ◌^◌, true, take, arith, refl, ap, ◌∙◌, subst}
use Rattle.std.specs.Result.{IfOk}
use Rattle.std.proofs.lemmas.Result.{IfOk-weaker}
use Rattle.rt_tree_choice.specs.Sorting.{sort_by}
use Rattle.rt_tree_walk.specs.Rows.{rows_in}
use Rattle.rt_tree_nearest.specs.Nearest.{by_nearness_to, nearest_rows_to}
use Rattle.rt_tree_nearest.specs.Candidates.{IsAnswer}
use Rattle.rt_tree_nearest.specs.declared.query.Query.{Query}
use Rattle.rt_tree_nearest.proofs.Narrowed.{fields}
use Rattle.rt_tree_nearest.proofs.Points.{filter-all}
use Rattle.rt_tree_nearest.proofs.nearby.nearest_to.Goals as goal

pub returns : goal.returns
returns g c =
    let t = c.args.tree.now in
    let target = c.args.rect.now in
    let k = c.args.k in
    IfOk-weaker c.find.result (λ rows. IsAnswer t (record { target = target; k = k; limit = 2 ^ 128 - 1; window = c.new.result.window }) rows.items)
    (λ rows. rows.items ≡ nearest_rows_to target k (rows_in t))
    (λ rows is. is (λ r. true) (λ r far. absurd (omega (arith, far.1, far.2))) (λ r h. refl) ∙ ap (take k) (filter-all (sort_by (by_nearness_to target) (rows_in t))))
    (subst (λ (q : Query g.row.D). IfOk c.find.result (λ rows. IsAnswer t q rows.items)) (fields c.new.result target k (2 ^ 128 - 1) c.new.ensures.target c.new.ensures.k c.new.ensures.limit) c.find.ensures)
