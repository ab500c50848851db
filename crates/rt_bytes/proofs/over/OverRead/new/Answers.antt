use Rattle.std.proofs.Common.{rules}
use Rattle.rt_bytes.proofs.over.OverRead.new.Goals as goal

pub returns-clause-reads : goal.returns-clause-reads
returns-clause-reads g c = search rules
