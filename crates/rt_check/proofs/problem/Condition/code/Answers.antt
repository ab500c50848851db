use Rattle.std.proofs.Common.{rules}
use Rattle.rt_check.proofs.problem.Condition.code.Goals as goal

pub returns-in-FitsChild : goal.returns-in-FitsChild
returns-in-FitsChild c = search rules
