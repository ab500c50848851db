use Rattle.rt_check_dump.proofs.ReasonsText.{faults-found}
use Rattle.rt_check_dump.proofs.laws.faults_are_found.Goals as goal

pub returns : goal.returns
returns c = faults-found
