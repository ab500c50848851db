use Rattle.std.proofs.Common.{◌≡◌, ◌*◌, ◌≤◌, ◌++◌, drop, length}
use Rattle.std.specs.List.{flat_map}
use Rattle.rt_reply.specs.Rows.{id_values}
use Rattle.rt_shell_lines.specs.Lines.{row_line}
use Rattle.rt_shell_lines.proofs.lines.put_ids.Given as goal

-- the lines of the ids behind these were put
abbrev pub invariant-loop-last : goal.invariant-loop-last
invariant-loop-last l =
    (21 * length l.rest ≤ l.start) × (l.start ≤ l.end)
    × (flat_map (λ id. row_line (id_values id)) l.rest ++ drop l.start l.bytes ≡ flat_map (λ id. row_line (id_values id)) l.ids ++ drop l.end l.fn.bytes)

abbrev pub decreases-loop-last : goal.decreases-loop-last
decreases-loop-last l = length l.rest
