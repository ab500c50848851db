use Rattle.std.proofs.Common.{rules}
use Rattle.rt_bytes.proofs.memory.SinkByteWriter.flush.Goals as goal

pub returns-clause-passed : goal.returns-clause-passed
returns-clause-passed c = search rules
