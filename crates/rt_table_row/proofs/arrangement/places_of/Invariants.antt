use Rattle.std.proofs.Common.{◌≡◌, map, take}
use Rattle.rt_table_row.specs.Columns.{place_of}
use Rattle.rt_table_row.proofs.arrangement.places_of.Given as goal

abbrev pub invariant-loop-column : goal.invariant-loop-column
invariant-loop-column l = l.places.items ≡ map (place_of l.names) (take l.column-index l.columns)
