use Rattle.std.proofs.Common.{rules}
use Rattle.rt_check.proofs.checker.check.Goals as goal

pub returns : goal.returns
returns g c = search rules
