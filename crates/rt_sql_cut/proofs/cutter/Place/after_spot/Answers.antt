use Rattle.std.proofs.Common.{rules}
use Rattle.rt_sql_cut.proofs.cutter.Place.after_spot.Goals as goal

pub returns-in-BlockComment-default : goal.returns-in-BlockComment-default
returns-in-BlockComment-default c = search rules

pub returns-in-AfterSlash-eq42 : goal.returns-in-AfterSlash-eq42
returns-in-AfterSlash-eq42 c = search rules
