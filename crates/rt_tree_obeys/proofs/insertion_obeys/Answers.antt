use Rattle.rt_tree_obeys.proofs.Settled.{insertion}
use Rattle.rt_tree_obeys.proofs.insertion_obeys.Goals as goal

pub returns : goal.returns
returns c = insertion
