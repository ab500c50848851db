use Rattle.rt_table_row.specs.Entries.{row_of}
use Rattle.rt_table_store.proofs.Moved.{taken}
use Rattle.rt_table_store.proofs.store.Store.remove.Goals as goal

pub unwrap-requires : goal.unwrap-requires
unwrap-requires g c = taken row_of c.args.self.now.rows c.args.id.now c.take.result c.take.ensures.row c.requires
