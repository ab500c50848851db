use Rattle.std.proofs.Common.{rules}
use Rattle.rt_bytes.proofs.outcome.RunFaultFromReadFault.from.Goals as goal

pub returns : goal.returns
returns c = search rules
