use Rattle.rt_tree_rules.proofs.Existence.{insertion_somehow}
use Rattle.rt_tree_rules.proofs.insertion_exists.Goals as goal

pub returns : goal.returns
returns c = insertion_somehow
