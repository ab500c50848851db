use Rattle.std.proofs.Common.{◌≡◌, filter, take}
use Rattle.rt_table_row.specs.Filters.{admits}
use Rattle.rt_table_store.specs.Picking.{passes}
use Rattle.rt_table_store.proofs.store.Store.passing_rows.Given as goal

abbrev pub invariant-loop-row : goal.invariant-loop-row
invariant-loop-row g l = l.kept.items ≡ filter (passes (admits l.condition) l.self.rows) (take l.row-index l.rows)
