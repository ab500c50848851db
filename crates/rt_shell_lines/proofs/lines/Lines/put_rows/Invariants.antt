use Rattle.std.proofs.Common.{◌≡◌, ◌≤◌, ◌++◌, take, drop}
use Rattle.std.specs.List.{flat_map}
use Rattle.rt_shell_lines.specs.Lines.{row_line}
use Rattle.rt_shell_lines.proofs.lines.Lines.put_rows.Given as goal

-- the lines of the rows from this one on were put
abbrev pub invariant-loop-at : goal.invariant-loop-at
invariant-loop-at l = (l.at ≤ l.to) × (flat_map row_line (drop l.from (take l.at l.rows)) ++ l.self ≡ flat_map row_line (drop l.from (take l.to l.rows)) ++ l.initial.self)

abbrev pub decreases-loop-at : goal.decreases-loop-at
decreases-loop-at l = l.at
