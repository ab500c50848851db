use Rattle.std.proofs.Common.{◌≡◌, ◌++◌, codes, length}
use Rattle.std.specs.List.{flat_map}
use Rattle.rt_shell_lines.specs.Lines.{column_text, row_at}
use Rattle.rt_shell_lines.proofs.lines.Lines.put_more_columns.Given as goal

-- the columns behind these were put, each behind a bar
abbrev pub invariant-loop-last : goal.invariant-loop-last
invariant-loop-last l = flat_map (λ place. codes "|" ++ column_text (row_at l.rows l.at) place) l.rest ++ l.self ≡ flat_map (λ place. codes "|" ++ column_text (row_at l.rows l.at) place) l.places ++ l.initial.self

abbrev pub decreases-loop-last : goal.decreases-loop-last
decreases-loop-last l = length l.rest
