use Rattle.std.proofs.Common.{rules}
use Rattle.rt_check.proofs.conditions.is_filled.Goals as goal

pub returns-else-len-greatest : goal.returns-else-len-greatest
returns-else-len-greatest g c = search rules
