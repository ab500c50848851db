use Rattle.std.proofs.Common.{rules}
use Rattle.rt_check_dump.proofs.lines.first_range.Goals as goal

pub returns-clause-value : goal.returns-clause-value
returns-clause-value c = search rules
