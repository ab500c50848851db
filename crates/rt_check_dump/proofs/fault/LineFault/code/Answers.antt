use Rattle.std.proofs.Common.{rules}
use Rattle.rt_check_dump.proofs.fault.LineFault.code.Goals as goal

pub returns-in-CountWrong : goal.returns-in-CountWrong
returns-in-CountWrong c = search rules
