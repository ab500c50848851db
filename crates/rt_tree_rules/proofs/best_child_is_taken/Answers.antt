use Rattle.rt_tree_rules.proofs.Chosen.{child}
use Rattle.rt_tree_rules.proofs.best_child_is_taken.Goals as goal

pub returns : goal.returns
returns c = child
