use Rattle.std.proofs.Common.{take}
use Rattle.std.specs.List.{flat_map}
use Rattle.rt_bytes.specs.Bytes.{WritesAll}
use Rattle.rt_shell_lines.specs.Lines.{change_line}
use Rattle.rt_shell_lines.proofs.reply.write_changes.Given as goal

-- the lines of the changes before this one are written
abbrev pub invariant-loop-at : goal.invariant-loop-at
invariant-loop-at g l = WritesAll (g.W.ByteWriter.written l.initial.writer) (g.W.ByteWriter.written l.writer)
    (g.W.ByteWriter.faults l.initial.writer) (g.W.ByteWriter.faults l.writer)
    (flat_map change_line (take l.at l.changes))
