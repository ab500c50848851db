use Rattle.std.proofs.Common.{rules}
use Rattle.rt_check_dump.proofs.looks.look_at_node.Goals as goal

pub returns : goal.returns
returns g c = search rules
