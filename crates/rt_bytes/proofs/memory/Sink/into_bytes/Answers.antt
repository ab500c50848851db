use Rattle.std.proofs.Common.{rules}
use Rattle.rt_bytes.proofs.memory.Sink.into_bytes.Goals as goal

pub returns : goal.returns
returns c = search rules
