use Rattle.rt_tree_rules.proofs.Faithful.{faithful}
use Rattle.rt_tree_rules.proofs.shadows_are_faithful.Goals as goal

pub returns : goal.returns
returns c = faithful
