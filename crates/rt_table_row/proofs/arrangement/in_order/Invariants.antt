use Rattle.std.proofs.Common.{◌≡◌, map}
use Rattle.rt_table_row.specs.Arrangements.{value_at, own_places}
use Rattle.rt_table_row.proofs.arrangement.in_order.Given as goal

abbrev pub invariant-loop-place : goal.invariant-loop-place
invariant-loop-place l = l.values.items ≡ map (value_at l.list) (own_places l.place)
