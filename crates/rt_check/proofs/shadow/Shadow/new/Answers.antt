use Rattle.std.proofs.Common.{rules}
use Rattle.rt_check.proofs.shadow.Shadow.new.Goals as goal

pub returns : goal.returns
returns g c = search rules
