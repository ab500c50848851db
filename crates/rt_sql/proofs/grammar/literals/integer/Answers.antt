use Rattle.std.proofs.Common.{rules}
use Rattle.rt_sql.specs.Reading.{integer}
use Rattle.rt_sql.proofs.grammar.literals.integer.Goals as goal

pub returns : goal.returns
unfolding integer
returns c = search rules
