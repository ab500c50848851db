use Rattle.std.proofs.Common.{rules}
use Rattle.rt_sql_cut.proofs.text.is_white.Goals as goal

pub returns-in-9-2 : goal.returns-in-9-2
returns-in-9-2 c = search rules
