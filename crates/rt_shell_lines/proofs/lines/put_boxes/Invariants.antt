use Rattle.std.proofs.Common.{◌≡◌, ◌*◌, ◌≤◌, ◌++◌, drop, length}
use Rattle.std.specs.List.{flat_map}
use Rattle.rt_reply.specs.Rows.{box_values}
use Rattle.rt_shell_lines.specs.Lines.{row_line}
use Rattle.rt_shell_lines.proofs.lines.put_boxes.Given as goal

-- the lines of the rows behind these were put
abbrev pub invariant-loop-last : goal.invariant-loop-last
invariant-loop-last g l =
    (93 * length l.rest ≤ l.start) × (l.start ≤ l.end)
    × (flat_map (λ row. row_line (box_values row)) l.rest ++ drop l.start l.bytes ≡ flat_map (λ row. row_line (box_values row)) l.rows ++ drop l.end l.fn.bytes)

abbrev pub decreases-loop-last : goal.decreases-loop-last
decreases-loop-last g l = length l.rest
