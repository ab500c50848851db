use Rattle.std.proofs.Common.{rules}
use Rattle.rt_sql_statement.proofs.value.ValuePartialEq.eq.Goals as goal

pub returns-in-Null-Null-clause-by : goal.returns-in-Null-Null-clause-by
returns-in-Null-Null-clause-by c = search rules

pub returns-in-Null-Null-clause-same : goal.returns-in-Null-Null-clause-same
returns-in-Null-Null-clause-same c = search rules
