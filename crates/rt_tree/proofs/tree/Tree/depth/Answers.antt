use Rattle.std.proofs.Common.{◌+◌, sym, ap, ◌∙◌}
use Rattle.rt_tree.specs.Lists.{TreeLists, root_level}
use Rattle.rt_tree.proofs.Shape.{root-high}
use Rattle.rt_tree.proofs.Kept.{settled}
use Rattle.rt_tree.proofs.tree.Tree.depth.Goals as goal

pub returns : goal.returns
returns g c =
    ap (λ n. n + 1)
    (c.from.ensures ∙ sym (root-high c.self.inside.arena (settled c.self.inside c.self.invariant))
    ∙ ap (λ (v : TreeLists g.row.D). root_level v.lists) c.self.view_is)
