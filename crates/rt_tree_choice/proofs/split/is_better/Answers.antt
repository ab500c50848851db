use Rattle.std.proofs.Common.{rules}
use Rattle.rt_tree_choice.proofs.split.is_better.Goals as goal

pub returns-then-quality-other : goal.returns-then-quality-other
returns-then-quality-other c = search rules

pub returns-else-quality-other : goal.returns-else-quality-other
returns-else-quality-other c = search rules
