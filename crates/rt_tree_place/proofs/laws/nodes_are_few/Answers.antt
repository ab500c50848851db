use Rattle.rt_tree_place.proofs.Few.{few-nodes}
use Rattle.rt_tree_place.proofs.laws.nodes_are_few.Goals as goal

pub returns : goal.returns
returns g c = few-nodes c.args.tree.now c.requires
