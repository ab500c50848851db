use Rattle.std.proofs.Common.{rules}
use Rattle.rt_sql_cut.proofs.cutter.Place.ending.Goals as goal

pub returns-in-In-Statement-default : goal.returns-in-In-Statement-default
returns-in-In-Statement-default c = search rules

pub returns-in-In-Statement-default-2 : goal.returns-in-In-Statement-default-2
returns-in-In-Statement-default-2 c = search rules
