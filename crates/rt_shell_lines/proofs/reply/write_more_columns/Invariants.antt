use Rattle.std.proofs.Common.{◌++◌, codes, take}
use Rattle.std.specs.List.{flat_map}
use Rattle.rt_bytes.specs.Bytes.{WritesAll}
use Rattle.rt_shell_lines.specs.Lines.{column_text, row_at}
use Rattle.rt_shell_lines.proofs.reply.write_more_columns.Given as goal

-- the columns before this one are written, each behind a bar
abbrev pub invariant-loop-place : goal.invariant-loop-place
invariant-loop-place g l = WritesAll (g.W.ByteWriter.written l.initial.writer) (g.W.ByteWriter.written l.writer)
    (g.W.ByteWriter.faults l.initial.writer) (g.W.ByteWriter.faults l.writer)
    (flat_map (λ place. codes "|" ++ column_text (row_at l.rows l.at) place) (take l.place-index l.places))
