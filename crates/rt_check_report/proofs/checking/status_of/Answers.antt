use Rattle.std.proofs.Common.{rules}
use Rattle.rt_check_report.proofs.checking.status_of.Goals as goal

pub returns-then-is_empty : goal.returns-then-is_empty
returns-then-is_empty c = search rules
