use Rattle.std.proofs.Common.{◌≡◌, ◌≤◌, length, arith, ap}
use Rattle.rt_box.specs.Rect.{area}
use Rattle.rt_box.proofs.Holding.{area-le-union}
use Rattle.rt_box.proofs.rect.Rect.enlargement.Given.{Over}
use Rattle.rt_box.proofs.rect.Rect.enlargement.Goals as goal
use Rattle.rt_box.proofs.rect.Rect.enlargement.Goals.{After-area-2}

grows : (g : Over) (c : After-area-2 g) → c.area-2.result ≤ c.area.result
grows g c =
    let same : length c.args.self.now ≡ length c.args.other.now = omega (arith, c.facts.ensures.axes_are, c.facts-2.ensures.axes_are) in
    omega (arith, area-le-union c.args.self.now c.args.other.now same, ap area c.union.ensures)

pub overflow_sub-result : goal.overflow_sub-result
overflow_sub-result g c = grows g c

pub returns-clause-value : goal.returns-clause-value
returns-clause-value g c = omega (arith, grows g c, ap area c.union.ensures)
