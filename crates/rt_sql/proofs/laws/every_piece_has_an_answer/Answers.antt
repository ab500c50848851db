use Rattle.rt_sql.proofs.Parses.{some_answer}
use Rattle.rt_sql.proofs.laws.every_piece_has_an_answer.Goals as goal

pub returns : goal.returns
returns c = some_answer
