use Rattle.std.proofs.Common.{subst}
use Rattle.rt_tree.specs.Lists.{TreeLists}
use Rattle.rt_tree.specs.Boxes.{HasBoxes}
use Rattle.rt_tree.proofs.Kept.{settled}
use Rattle.rt_tree.proofs.Boxes.{has-boxes}
use Rattle.rt_tree.proofs.tree.Tree.has_boxes.Goals as goal

pub returns : goal.returns
returns g c =
    subst (λ (v : TreeLists g.row.D). HasBoxes v.lists) c.self.view_is (has-boxes c.self.inside.arena (settled c.self.inside c.self.invariant))
