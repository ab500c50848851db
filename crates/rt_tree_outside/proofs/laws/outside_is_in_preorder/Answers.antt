use Rattle.rt_tree_outside.proofs.Subtrees.{outside-ordered}
use Rattle.rt_tree_outside.proofs.laws.outside_is_in_preorder.Goals as goal

pub returns : goal.returns
returns g c = outside-ordered c.args.tree.now (record { whole = c.requires.whole; none = c.requires.settled })
