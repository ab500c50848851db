use Rattle.std.proofs.Common.{rules}
use Rattle.rt_sql_statement.proofs.refusal.RefusalDisplay.fmt.Goals as goal

pub returns-clause-writes : goal.returns-clause-writes
returns-clause-writes g c = search rules
