use Rattle.rt_laws.proofs.RisingLemmas.{always_rise}
use Rattle.rt_laws.proofs.rows_always_rise.Goals as goal

pub returns : goal.returns
returns c = always_rise
