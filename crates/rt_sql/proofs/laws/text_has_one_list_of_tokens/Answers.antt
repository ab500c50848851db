use Rattle.rt_sql.proofs.Parses.{one_list}
use Rattle.rt_sql.proofs.laws.text_has_one_list_of_tokens.Goals as goal

pub returns : goal.returns
returns c = one_list
