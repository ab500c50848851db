use Rattle.std.proofs.Common.{◌≡◌, length, arith, ap}
use Rattle.rt_box.specs.Rect.{area}
use Rattle.rt_box.proofs.Holding.{area-le-union}
use Rattle.rt_tree_subtree.proofs.Areas.{growths-from}
use Rattle.rt_tree_subtree.proofs.plane.growth_of.Goals as goal

pub overflow_sub-result : goal.overflow_sub-result
overflow_sub-result g c =
    let cell = c.index-boxes-position.result in
    let new = c.args.new_box.now in
    let same : length cell ≡ length new = omega (arith, c.facts.ensures.axes_are, c.facts-2.ensures.axes_are) in
    omega (arith, area-le-union cell new same, c.area_of-area.ensures, c.area_of-widened.ensures, ap area c.union.ensures)

pub returns : goal.returns
returns g c =
    growths-from c.args.boxes.now c.args.new_box.now c.args.position c.area_of-widened.result c.area_of-area.result c.index-boxes-position.result c.union.result
    c.requires.within c.index-boxes-position.is c.union.ensures c.area_of-widened.ensures c.area_of-area.ensures
