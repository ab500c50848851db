use Rattle.std.proofs.Common.{subst}
use Rattle.rt_tree.specs.Lists.{TreeLists, IsInShape}
use Rattle.rt_tree.proofs.Kept.{in-shape}
use Rattle.rt_tree.proofs.tree.Tree.is_in_shape.Goals as goal

pub returns : goal.returns
returns g c = subst (λ (v : TreeLists g.row.D). IsInShape v.lists) c.self.view_is (in-shape c.self.inside c.self.invariant c.leaves_facts.ensures)
