use Rattle.std.proofs.Common.{rules}
use Rattle.rt_sql_cut.proofs.cutter.Cutter.new.Goals as goal

pub returns : goal.returns
returns c = search rules
