use Rattle.std.proofs.Common.{arith}
use Rattle.std.proofs.lemmas.Grind.{common_steps}
use Rattle.rt_check_report.proofs.report.write_bad_dump.Goals as goal

pub returns : goal.returns
returns g c = grind (arith, common_steps)
