use Rattle.std.proofs.Common.{rules}
use Rattle.rt_sql_statement.proofs.value.BlobPartialEq.eq.Goals as goal

pub returns-clause-by : goal.returns-clause-by
returns-clause-by c = search rules

pub returns-clause-same : goal.returns-clause-same
returns-clause-same c = search rules
