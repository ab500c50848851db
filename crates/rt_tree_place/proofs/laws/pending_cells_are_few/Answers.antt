use Rattle.rt_tree_place.proofs.Few.{few-pending}
use Rattle.rt_tree_place.proofs.laws.pending_cells_are_few.Goals as goal

pub returns : goal.returns
returns g c = few-pending c.args.tree.now c.requires
