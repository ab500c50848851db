use Rattle.std.proofs.Common.{rules}
use Rattle.rt_bytes.proofs.over.OverRead.failures.Goals as goal

pub returns : goal.returns
returns g c = search rules
