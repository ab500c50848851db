use Rattle.std.proofs.Common.{rules}
use Rattle.rt_check_report.proofs.checking.report_fault.Goals as goal

pub returns-in_ok-write_bad_dump-in-At : goal.returns-in_ok-write_bad_dump-in-At
returns-in_ok-write_bad_dump-in-At g c = search rules

pub returns-in-Memory : goal.returns-in-Memory
returns-in-Memory g c = search rules
