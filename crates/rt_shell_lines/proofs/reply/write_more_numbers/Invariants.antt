use Rattle.std.proofs.Common.{◌++◌, codes, take}
use Rattle.std.specs.List.{flat_map}
use Rattle.rt_bytes.specs.Bytes.{WritesAll}
use Rattle.std.specs.Fmt.{signed_decimal}
use Rattle.rt_shell_lines.proofs.reply.write_more_numbers.Given as goal

-- the numbers before this one are written, each behind a bar
abbrev pub invariant-loop-number : goal.invariant-loop-number
invariant-loop-number g l = WritesAll (g.W.ByteWriter.written l.initial.writer) (g.W.ByteWriter.written l.writer)
    (g.W.ByteWriter.faults l.initial.writer) (g.W.ByteWriter.faults l.writer)
    (flat_map (λ number. codes "|" ++ signed_decimal number) (take l.number-index l.numbers))
