use Rattle.std.proofs.Common.{◌≡◌, ◌++◌, length}
use Rattle.std.specs.List.{flat_map}
use Rattle.rt_reply.specs.Rows.{box_values}
use Rattle.rt_shell_lines.specs.Lines.{columns_line}
use Rattle.rt_shell_lines.proofs.lines.Lines.put_columns_of_boxes.Given as goal

-- the lines of the rows behind these were put
abbrev pub invariant-loop-last : goal.invariant-loop-last
invariant-loop-last g l =
    flat_map (λ row. columns_line l.places (box_values row)) l.rest ++ l.self ≡ flat_map (λ row. columns_line l.places (box_values row)) l.rows ++ l.initial.self

abbrev pub decreases-loop-last : goal.decreases-loop-last
decreases-loop-last g l = length l.rest
