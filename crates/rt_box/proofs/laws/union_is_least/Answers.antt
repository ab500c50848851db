use Rattle.rt_box.proofs.Holding.{union_is_least}
use Rattle.rt_box.proofs.laws.union_is_least.Goals as goal

pub returns : goal.returns
returns c = union_is_least
