use Rattle.std.proofs.Common.{rules}
use Rattle.rt_sql_cut.proofs.cutter.Place.after.Goals as goal

pub returns-in-Quoted-2 : goal.returns-in-Quoted-2
returns-in-Quoted-2 c = search rules
