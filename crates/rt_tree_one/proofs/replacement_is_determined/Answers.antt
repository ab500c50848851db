use Rattle.rt_tree_one.proofs.Removed.{replacement_answer}
use Rattle.rt_tree_one.proofs.replacement_is_determined.Goals as goal

pub returns : goal.returns
returns c = replacement_answer
