use Rattle.std.proofs.Common.{rules}
use Rattle.rt_check.proofs.shadow.Shadow.root.Goals as goal

pub returns : goal.returns
returns g c = search rules
