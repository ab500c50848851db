use Rattle.std.proofs.Common.{length, sym, ap, ◌∙◌}
use Rattle.rt_tree.specs.Lists.{TreeLists}
use Rattle.rt_tree.proofs.Shape.{nodes-long}
use Rattle.rt_tree.proofs.Kept.{settled}
use Rattle.rt_tree.proofs.tree.Tree.node_count.Goals as goal

pub returns : goal.returns
returns g c =
    c.len.ensures ∙ sym (nodes-long c.self.inside.arena (settled c.self.inside c.self.invariant))
    ∙ ap (λ (v : TreeLists g.row.D). length v.lists.nodes) c.self.view_is
