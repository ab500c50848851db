use Rattle.std.proofs.Common.{subst}
use Rattle.rt_box.specs.Rect.{Holds}
use Rattle.rt_tree_place.proofs.fit.is_held.Goals as goal

pub returns : goal.returns
returns g c held =
    let above = c.box_above.ensures in
    (above.0, above.1, subst (λ b. Holds b c.args.rect.now) above.2 (c.contains.ensures.0 held))
