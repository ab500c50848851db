use Rattle.rt_tree_rules.proofs.Uniqueness.{removal}
use Rattle.rt_tree_rules.proofs.removal_is_unique.Goals as goal

pub returns : goal.returns
returns c = removal
