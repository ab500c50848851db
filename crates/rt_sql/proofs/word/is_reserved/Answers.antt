use Rattle.std.proofs.Common.{arith}
use Rattle.rt_sql.proofs.ReservedWords.{two, three, four, five, six, seven, none}
use Rattle.rt_sql.proofs.word.is_reserved.Goals as goal

pub returns-in-4 : goal.returns-in-4
returns-in-4 c = grind (arith, two, three, four, five, six, seven, none)
