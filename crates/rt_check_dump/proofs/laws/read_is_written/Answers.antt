use Rattle.rt_check_dump.proofs.AcceptedText.{text-accepted}
use Rattle.rt_check_dump.proofs.laws.read_is_written.Goals as goal

pub returns : goal.returns
returns c = text-accepted
