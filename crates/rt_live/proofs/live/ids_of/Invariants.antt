use Rattle.std.proofs.Common.{◌≡◌, map, take}
use Rattle.rt_live.proofs.live.ids_of.Given as goal

abbrev pub invariant-loop-row : goal.invariant-loop-row
invariant-loop-row g l = l.ids.items ≡ map (λ r. r.id) (take l.row-index l.rows)
