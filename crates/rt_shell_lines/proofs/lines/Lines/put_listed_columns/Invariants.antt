use Rattle.std.proofs.Common.{◌≡◌, ◌≤◌, ◌++◌, take, drop}
use Rattle.std.specs.List.{flat_map}
use Rattle.rt_reply.specs.Rows.{values_in}
use Rattle.rt_shell_lines.specs.Lines.{columns_line}
use Rattle.rt_shell_lines.proofs.lines.Lines.put_listed_columns.Given as goal

-- the lines of the rows from this one on were put
abbrev pub invariant-loop-at : goal.invariant-loop-at
invariant-loop-at l = (l.at ≤ l.to) × (flat_map (columns_line l.places) (drop l.from (take l.at (values_in l.rows))) ++ l.self ≡ flat_map (columns_line l.places) (drop l.from (take l.to (values_in l.rows))) ++ l.initial.self)

abbrev pub decreases-loop-at : goal.decreases-loop-at
decreases-loop-at l = l.at
