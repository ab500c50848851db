use Rattle.std.proofs.Common.{◌≡◌, map, take}
use Rattle.rt_table_row.specs.Arrangements.{value_at}
use Rattle.rt_table_row.proofs.arrangement.row_values.Given as goal

abbrev pub invariant-loop-place : goal.invariant-loop-place
invariant-loop-place l = l.values.items ≡ map (value_at l.list) (take l.place-index l.places)
