use Rattle.rt_tree_rules.proofs.Uniqueness.{insertion}
use Rattle.rt_tree_rules.proofs.insertion_is_unique.Goals as goal

pub returns : goal.returns
returns c = insertion
