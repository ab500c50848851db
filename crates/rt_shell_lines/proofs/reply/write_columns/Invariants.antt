use Rattle.std.proofs.Common.{◌≤◌, ◌-◌, take, length}
use Rattle.std.specs.List.{flat_map}
use Rattle.rt_reply.specs.Rows.{values_in}
use Rattle.rt_bytes.specs.Bytes.{WritesAll}
use Rattle.rt_shell_lines.specs.Lines.{columns_line}
use Rattle.rt_shell_lines.proofs.reply.write_columns.Given as goal

-- the lines of the rows before this one are written
abbrev pub invariant-loop-from : goal.invariant-loop-from
invariant-loop-from g l = (l.from ≤ length (values_in l.rows)) × (1 ≤ l.at_once) × (l.at_once ≤ 96) × WritesAll (g.W.ByteWriter.written l.initial.writer) (g.W.ByteWriter.written l.writer)
    (g.W.ByteWriter.faults l.initial.writer) (g.W.ByteWriter.faults l.writer)
    (flat_map (columns_line l.places) (take l.from (values_in l.rows))) × (1 ≤ l.most) × (l.most ≤ 96)

abbrev pub decreases-loop-from : goal.decreases-loop-from
decreases-loop-from g l = length (values_in l.rows) - l.from
