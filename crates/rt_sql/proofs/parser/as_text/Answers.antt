use Rattle.std.proofs.Common.{rules}
use Rattle.rt_sql.proofs.parser.as_text.Goals as goal

pub returns-in-Ok : goal.returns-in-Ok
returns-in-Ok c = search rules
