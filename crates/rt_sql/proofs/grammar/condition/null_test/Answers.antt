use Rattle.std.proofs.Common.{rules}
use Rattle.rt_sql.specs.Reading.{null_test}
use Rattle.rt_sql.proofs.grammar.condition.null_test.Goals as goal

pub returns : goal.returns
unfolding null_test
returns c = search rules
