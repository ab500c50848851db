use Rattle.rt_box.proofs.Holding.{overlap_comm}
use Rattle.rt_box.proofs.laws.overlap_is_symmetric.Goals as goal

pub returns : goal.returns
returns c = overlap_comm
