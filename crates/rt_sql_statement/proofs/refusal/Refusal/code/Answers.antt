use Rattle.std.proofs.Common.{rules}
use Rattle.rt_sql_statement.proofs.refusal.Refusal.code.Goals as goal

pub returns-in-SyntaxError : goal.returns-in-SyntaxError
returns-in-SyntaxError c = search rules
