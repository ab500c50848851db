use Rattle.rt_tree_rules.proofs.Uniqueness.{settling}
use Rattle.rt_tree_rules.proofs.settling_is_unique.Goals as goal

pub returns : goal.returns
returns c = settling
