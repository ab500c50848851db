use Rattle.rt_check_dump.proofs.FaultyText.{misfits-found}
use Rattle.rt_check_dump.proofs.laws.misfits_are_found.Goals as goal

pub returns : goal.returns
returns c = misfits-found
