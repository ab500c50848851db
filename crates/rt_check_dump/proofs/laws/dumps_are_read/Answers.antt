use Rattle.rt_check_dump.proofs.FaultyText.{dumps-read}
use Rattle.rt_check_dump.proofs.laws.dumps_are_read.Goals as goal

pub returns : goal.returns
returns c = dumps-read
