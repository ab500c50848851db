use Rattle.std.proofs.Common.{◌≡◌, map, take}
use Rattle.rt_table_store.specs.Trees.{leaf_row}
use Rattle.rt_table_view.specs.Watching.{rows_named}
use Rattle.rt_table_view.proofs.view.boxes_at.Given as goal

abbrev pub invariant-loop-id : goal.invariant-loop-id
invariant-loop-id g l = l.rows.items ≡ map leaf_row (rows_named l.store.rows (take l.id-index l.ids))
