use Rattle.std.proofs.Common.{rules}
use Rattle.rt_sql_cut.proofs.cutter.Cutter.take_byte.Goals as goal

pub returns-in-End : goal.returns-in-End
returns-in-End c = search rules

pub returns-in_default : goal.returns-in_default
returns-in_default c = search rules
