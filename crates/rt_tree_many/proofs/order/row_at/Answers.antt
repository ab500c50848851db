use Rattle.std.proofs.Common.{◌<◌, pos, length, get_or, IsSome, arith, rules, ap}
use Rattle.rt_tree.specs.Lists.{box_of}
use Rattle.rt_tree_many.proofs.Places.{place-held}
use Rattle.rt_tree_many.proofs.order.row_at.Goals as goal

pub row_with-requires : goal.row_with-requires
row_with-requires g c =
    let ids = c.ids.result.now in
    let within : c.args.place < length ids = omega (arith, ap length c.ids.ensures.order, c.requires) in
    let held : IsSome (box_of c.args.tree.now.lists (get_or ids c.args.place (pos 0))) =
    place-held c.args.tree.now.lists ids c.args.place (pos 0) within c.ids.ensures.ids in
    search rules
