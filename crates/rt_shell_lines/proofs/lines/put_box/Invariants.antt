use Rattle.std.proofs.Common.{◌≡◌, ◌+◌, ◌*◌, ◌≤◌, ◌++◌, codes, take, drop, length}
use Rattle.std.specs.List.{flat_map}
use Rattle.rt_box.specs.Rect.{coordinates}
use Rattle.rt_shell_lines.proofs.Numbers.{bar}
use Rattle.rt_shell_lines.proofs.lines.put_box.Given as goal

-- the coordinates of the axes from this one on were put, each in at most twelve bytes
abbrev pub invariant-loop-axis : goal.invariant-loop-axis
invariant-loop-axis g l =
    (l.axis ≤ length l.row.rect) × (l.start ≤ l.end) × (l.end + 24 * l.axis ≤ l.start + 1 + 24 * length l.row.rect)
    × (flat_map bar (coordinates (take l.axis l.row.rect)) ++ drop l.start l.bytes ≡ (flat_map bar (coordinates l.row.rect) ++ codes "\n") ++ drop l.end l.fn.bytes)

abbrev pub decreases-loop-axis : goal.decreases-loop-axis
decreases-loop-axis g l = l.axis
