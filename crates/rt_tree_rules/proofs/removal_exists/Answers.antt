use Rattle.rt_tree_rules.proofs.Existence.{removal_somehow}
use Rattle.rt_tree_rules.proofs.removal_exists.Goals as goal

pub returns : goal.returns
returns c = removal_somehow
