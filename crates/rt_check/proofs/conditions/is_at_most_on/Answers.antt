use Rattle.std.proofs.Common.{rules}
use Rattle.rt_check.proofs.conditions.is_at_most_on.Goals as goal

pub returns : goal.returns
returns g c = search rules
