use Rattle.std.proofs.Common.{rules}
use Rattle.rt_sql_statement.proofs.refusal.Refusal.text.Goals as goal

pub returns-in-TableFull : goal.returns-in-TableFull
returns-in-TableFull c = search rules
