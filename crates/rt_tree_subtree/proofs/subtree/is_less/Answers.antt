use Rattle.std.proofs.Common.{rules}
use Rattle.rt_tree_subtree.proofs.subtree.is_less.Goals as goal

pub returns-then-cost-other : goal.returns-then-cost-other
returns-then-cost-other c = search rules

pub returns-else-cost-other-2 : goal.returns-else-cost-other-2
returns-else-cost-other-2 c = search rules
