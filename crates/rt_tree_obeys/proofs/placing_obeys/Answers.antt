use Rattle.rt_tree_obeys.proofs.Placed.{placing}
use Rattle.rt_tree_obeys.proofs.placing_obeys.Goals as goal

pub returns : goal.returns
returns c = placing
