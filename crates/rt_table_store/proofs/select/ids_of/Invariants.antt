use Rattle.std.proofs.Common.{◌≡◌, map, take}
use Rattle.rt_table_store.proofs.select.ids_of.Given as goal

-- the ids of the rows before this one
abbrev pub invariant-loop-row : goal.invariant-loop-row
invariant-loop-row g l = l.ids.items ≡ map (λ row. row.id) (take l.row-index l.rows)
