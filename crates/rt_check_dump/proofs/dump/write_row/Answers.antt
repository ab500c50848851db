use Rattle.std.proofs.Common.{rules}
use Rattle.rt_check_dump.proofs.dump.write_row.Goals as goal

pub returns : goal.returns
returns g c = search rules
