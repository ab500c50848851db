use Rattle.rt_tree_rules.proofs.Chosen.{cut}
use Rattle.rt_tree_rules.proofs.best_cut_is_taken.Goals as goal

pub returns : goal.returns
returns c = cut
