use Rattle.rt_tree_rules.proofs.Uniqueness.{replacement}
use Rattle.rt_tree_rules.proofs.replacement_is_unique.Goals as goal

pub returns : goal.returns
returns c = replacement
