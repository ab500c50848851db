use Rattle.rt_tree_one.proofs.Removed.{one_answer}
use Rattle.rt_tree_one.proofs.removal_is_determined.Goals as goal

pub returns : goal.returns
returns c = one_answer
