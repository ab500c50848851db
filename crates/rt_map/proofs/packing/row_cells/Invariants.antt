use Rattle.std.proofs.Common.{◌≡◌, map, take}
use Rattle.rt_map.specs.PackingInside.{cell_of}
use Rattle.rt_map.proofs.packing.row_cells.Given as goal

abbrev pub invariant-loop-row : goal.invariant-loop-row
invariant-loop-row g l = l.cells.items ≡ map cell_of (take l.row-index l.rows)
