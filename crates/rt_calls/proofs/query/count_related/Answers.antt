use Rattle.rt_calls.proofs.Picking.{finds_related}
use Rattle.rt_calls.proofs.query.count_related.Goals as goal

pub returns-in-Ok-clause-rows : goal.returns-in-Ok-clause-rows
returns-in-Ok-clause-rows g c = let counts = c.in-Ok.ensures in
    (counts.rows, finds_related c.args.relation c.args.tree.now.lists c.related_window.result c.args.min.now c.args.max.now counts.rows c.has_boxes.ensures c.related_window.ensures counts.admitted counts.each, counts.counted)
