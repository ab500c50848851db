use Rattle.std.proofs.Common.{◌≡◌, map, take}
use Rattle.rt_table_row.proofs.schema.names_of.Given as goal

abbrev pub invariant-loop-column : goal.invariant-loop-column
invariant-loop-column l = l.names.items ≡ map (λ c. c.name) (take l.column-index l.columns)
