use Rattle.rt_laws.proofs.Steps.{steps_one}
use Rattle.rt_laws.proofs.steps_have_one_answer.Goals as goal

pub returns : goal.returns
returns c = steps_one
