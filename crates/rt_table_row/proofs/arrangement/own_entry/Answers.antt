use Rattle.rt_table_row.proofs.Arranging.{own_values}
use Rattle.rt_table_row.proofs.arrangement.own_entry.Goals as goal

pub returns-then-list-count : goal.returns-then-list-count
returns-then-list-count g c = rw (own_values c.args.list.now c.args.count c.if-list-count.true) c.from_slice.ensures
