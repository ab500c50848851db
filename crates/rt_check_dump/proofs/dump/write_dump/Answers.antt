use Rattle.std.proofs.Common.{rules}
use Rattle.rt_check_dump.proofs.dump.write_dump.Goals as goal

pub returns-in-Three : goal.returns-in-Three
returns-in-Three g c = search rules
