use Rattle.std.proofs.Common.{length, sym, ap, ◌∙◌}
use Rattle.rt_tree.specs.Lists.{TreeLists}
use Rattle.rt_tree.proofs.Shape.{entries-long}
use Rattle.rt_tree.proofs.tree.Tree.len.Goals as goal

pub returns : goal.returns
returns g c = c.len.ensures.len ∙ sym (entries-long c.self.inside.arena) ∙ ap (λ (v : TreeLists g.row.D). length v.lists.rows) c.self.view_is
