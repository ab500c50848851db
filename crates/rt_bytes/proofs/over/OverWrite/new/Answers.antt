use Rattle.std.proofs.Common.{rules}
use Rattle.rt_bytes.proofs.over.OverWrite.new.Goals as goal

pub returns-clause-faults : goal.returns-clause-faults
returns-clause-faults g c = search rules
