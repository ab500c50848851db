use Rattle.std.proofs.Common.{rules}
use Rattle.rt_check_dump.proofs.fault.LineFault.text.Goals as goal

pub returns-in-BadLine : goal.returns-in-BadLine
returns-in-BadLine c = search rules
