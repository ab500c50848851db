use Rattle.std.proofs.Common.{Vec, Global}
use Rattle.std.proofs.lemmas.Result.{IfOk-weaker}
use Rattle.rt_tree.specs.Search.{FindsIn}
use Rattle.rt_tree_walk.specs.declared.searching.Found.{Found}
use Rattle.rt_tree_walk.specs.declared.searching.Row.{Row}
use Rattle.rt_calls.specs.Relations.{FindsRelated}
use Rattle.rt_calls.proofs.Picking.{finds_related}
use Rattle.rt_calls.proofs.query.find_related.Goals as goal

pub returns : goal.returns
returns g c = IfOk-weaker c.search.result
    (λ (f : Found (Vec (Row g.row.D) Global)). FindsIn c.args.tree.now.lists c.related_window.result f.rows.items f.visited)
    (λ (f : Found (Vec (Row g.row.D) Global)). FindsRelated c.args.relation c.args.tree.now.lists c.args.min.now c.args.max.now f.rows.items)
    (λ f finds. finds_related c.args.relation c.args.tree.now.lists c.related_window.result c.args.min.now c.args.max.now f.rows.items c.has_boxes.ensures c.related_window.ensures finds.admitted finds.each)
    c.search.ensures
