use Rattle.std.proofs.Common.{◌≡◌, ◌+◌, ◌*◌, ◌≤◌, ◌++◌, take, vec_len, vec_capacity}
use Rattle.rt_box.specs.Rect.{coordinates}
use Rattle.rt_table_row.proofs.entry.push_coordinates.Given as goal

-- the coordinates of the axes so far were appended, and there is room for the rest
abbrev pub invariant-loop-axis : goal.invariant-loop-axis
invariant-loop-axis g l =
    (l.numbers.items ≡ l.fn.numbers.items ++ coordinates (take l.axis l.fn.rect)) × (vec_len l.numbers + 2 * g.row.D ≤ vec_capacity l.numbers + 2 * l.axis)
