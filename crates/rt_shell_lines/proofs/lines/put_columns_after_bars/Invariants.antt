use Rattle.std.proofs.Common.{◌≡◌, ◌+◌, ◌*◌, ◌≤◌, ◌++◌, codes, drop, length}
use Rattle.std.specs.List.{flat_map}
use Rattle.rt_reply.specs.Rows.{box_values}
use Rattle.rt_shell_lines.specs.Lines.{column_text}
use Rattle.rt_shell_lines.proofs.lines.put_columns_after_bars.Given as goal

-- the columns behind these were put, each behind a bar, in at most 21 bytes
abbrev pub invariant-loop-last : goal.invariant-loop-last
invariant-loop-last g l =
    (21 * length l.rest ≤ l.start) × (l.start ≤ l.end) × (l.end + 21 * length l.rest ≤ l.start + 21 * length l.places)
    × (flat_map (λ place. codes "|" ++ column_text (box_values l.row) place) l.rest ++ drop l.start l.bytes
    ≡ flat_map (λ place. codes "|" ++ column_text (box_values l.row) place) l.places ++ drop l.end l.fn.bytes)

abbrev pub decreases-loop-last : goal.decreases-loop-last
decreases-loop-last g l = length l.rest
