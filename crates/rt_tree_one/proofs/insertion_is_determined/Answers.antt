use Rattle.rt_tree_one.proofs.Inserted.{one_answer}
use Rattle.rt_tree_one.proofs.insertion_is_determined.Goals as goal

pub returns : goal.returns
returns c = one_answer
