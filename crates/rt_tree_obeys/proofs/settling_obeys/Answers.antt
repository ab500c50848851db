use Rattle.rt_tree_obeys.proofs.Settled.{settling}
use Rattle.rt_tree_obeys.proofs.settling_obeys.Goals as goal

pub returns : goal.returns
returns c = settling
