use Rattle.std.proofs.Common.{rules}
use Rattle.rt_sql_cut.proofs.cutter.Cutter.finish.Goals as goal

pub returns-clause-finished : goal.returns-clause-finished
returns-clause-finished c = search rules

pub returns-clause-again : goal.returns-clause-again
returns-clause-again c = search rules
