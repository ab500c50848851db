use Rattle.rt_table_step.proofs.StepLaws.{steps_apply}
use Rattle.rt_table_step.proofs.laws.steps_apply.Goals as goal

pub returns : goal.returns
returns c = steps_apply
