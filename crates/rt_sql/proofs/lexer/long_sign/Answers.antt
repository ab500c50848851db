use Rattle.std.proofs.Common.{rules}
use Rattle.rt_sql.specs.Lex.{long_sign}
use Rattle.rt_sql.proofs.lexer.long_sign.Goals as goal

pub returns-in-60-eq62-clause-value : goal.returns-in-60-eq62-clause-value
unfolding long_sign
returns-in-60-eq62-clause-value c = search rules
