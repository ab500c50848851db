use Rattle.std.proofs.Common.{◌++◌, codes, take}
use Rattle.std.specs.List.{flat_map}
use Rattle.rt_bytes.specs.Bytes.{WritesAll}
use Rattle.rt_shell_lines.specs.Lines.{value_text}
use Rattle.rt_shell_lines.proofs.reply.write_more_values.Given as goal

-- the values before this one are written, each behind a bar
abbrev pub invariant-loop-value : goal.invariant-loop-value
invariant-loop-value g l = WritesAll (g.W.ByteWriter.written l.initial.writer) (g.W.ByteWriter.written l.writer)
    (g.W.ByteWriter.faults l.initial.writer) (g.W.ByteWriter.faults l.writer)
    (flat_map (λ value. codes "|" ++ value_text value) (take l.value-index l.values))
