use Rattle.std.proofs.Common.{◌≡◌, length, arith, ◌∙◌}
use Rattle.rt_tree.specs.Lists.{rows_of}
use Rattle.rt_calls.proofs.Searching.{points-fit}
use Rattle.rt_calls.proofs.many.nearest_to_points.Goals as goal

pub give_parts-requires : goal.give_parts-requires
give_parts-requires g c =
    let found = c.in-Ok-nearest_many in
    let fit : length found.found.starts.items ≡ length c.args.starts.now =
    points-fit (rows_of c.args.tree.now.lists) c.args.k (length c.args.starts.now) g.row.D c.args.points.now c.deref.result.now
    found.found.ids.items found.found.starts.items (c.deref.ensures.value ∙ c.in-Ok.ensures) found.ensures in
    omega arith
