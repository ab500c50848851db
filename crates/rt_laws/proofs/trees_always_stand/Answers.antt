use Rattle.rt_laws.proofs.Standing.{always_stand}
use Rattle.rt_laws.proofs.trees_always_stand.Goals as goal

pub returns : goal.returns
returns c = always_stand
