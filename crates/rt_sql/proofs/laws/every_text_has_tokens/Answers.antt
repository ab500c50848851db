use Rattle.rt_sql.proofs.Parses.{some_tokens}
use Rattle.rt_sql.proofs.laws.every_text_has_tokens.Goals as goal

pub returns : goal.returns
returns c = some_tokens
