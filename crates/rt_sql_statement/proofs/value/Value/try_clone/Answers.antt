use Rattle.std.proofs.Common.{rules}
use Rattle.rt_sql_statement.proofs.value.Value.try_clone.Goals as goal

pub returns : goal.returns
returns c = search rules
