use Rattle.std.proofs.Common.{rules}
use Rattle.rt_check_dump.proofs.looks.look_at.Goals as goal

pub returns-in-Three : goal.returns-in-Three
returns-in-Three c = search rules
