use Rattle.rt_tree_one.proofs.Entries.{determined}
use Rattle.rt_tree_one.proofs.rows_are_determined.Goals as goal

pub returns : goal.returns
returns c = determined
