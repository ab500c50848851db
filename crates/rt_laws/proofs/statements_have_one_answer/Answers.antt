use Rattle.rt_laws.proofs.Statements.{statements_one}
use Rattle.rt_laws.proofs.statements_have_one_answer.Goals as goal

pub returns : goal.returns
returns c = statements_one
