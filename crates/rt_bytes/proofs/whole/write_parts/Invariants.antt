use Rattle.std.proofs.Common.{take}
use Rattle.std.specs.List.{flat_map}
use Rattle.rt_bytes.specs.Bytes.{WritesAll}
use Rattle.rt_bytes.proofs.whole.write_parts.Given as goal

-- so far the parts before this one are written
abbrev pub invariant-loop-part : goal.invariant-loop-part
invariant-loop-part g l = WritesAll (g.W.ByteWriter.written l.initial.writer) (g.W.ByteWriter.written l.writer)
    (g.W.ByteWriter.faults l.initial.writer) (g.W.ByteWriter.faults l.writer)
    (flat_map (λ part. part.now) (take l.part-index l.parts))
