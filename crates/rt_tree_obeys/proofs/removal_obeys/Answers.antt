use Rattle.rt_tree_obeys.proofs.Removed.{removal}
use Rattle.rt_tree_obeys.proofs.removal_obeys.Goals as goal

pub returns : goal.returns
returns c = removal
