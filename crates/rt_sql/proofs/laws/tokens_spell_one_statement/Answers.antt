use Rattle.rt_sql.proofs.Parses.{one_statement}
use Rattle.rt_sql.proofs.laws.tokens_spell_one_statement.Goals as goal

pub returns : goal.returns
returns c = one_statement
