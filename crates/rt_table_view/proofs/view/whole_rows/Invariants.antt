use Rattle.std.proofs.Common.{◌≡◌, map, take}
use Rattle.std.specs.List.{filter_map}
use Rattle.rt_table_row.specs.Rows.{row_at, values_of}
use Rattle.rt_table_view.proofs.view.whole_rows.Given as goal

abbrev pub invariant-loop-row : goal.invariant-loop-row
invariant-loop-row g l = l.rows ≡ map values_of (filter_map (λ row. row_at l.store.rows row.id) (take l.row-index l.found))
