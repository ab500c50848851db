use Rattle.rt_sql.proofs.KindTable.{kind_in_table}
use Rattle.rt_sql.proofs.kind.kind_of.Goals as goal

pub returns : goal.returns
returns c = rw c.from.ensures (kind_in_table c.args.b _ c.ranges.b.fits)
