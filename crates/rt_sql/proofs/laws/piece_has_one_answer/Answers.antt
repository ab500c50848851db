use Rattle.rt_sql.proofs.Parses.{one_answer}
use Rattle.rt_sql.proofs.laws.piece_has_one_answer.Goals as goal

pub returns : goal.returns
returns c = one_answer
