use Rattle.std.proofs.Common.{take}
use Rattle.std.specs.List.{flat_map, zip}
use Rattle.rt_bytes.specs.Bytes.{WritesAll}
use Rattle.rt_check_dump.specs.Dump.{range_text}
use Rattle.rt_check_dump.proofs.dump.write_ranges.Given as goal

-- what stands before this one is written
abbrev pub invariant-loop-axis : goal.invariant-loop-axis
invariant-loop-axis g l = WritesAll (g.W.ByteWriter.written l.initial.writer) (g.W.ByteWriter.written l.writer)
    (g.W.ByteWriter.faults l.initial.writer) (g.W.ByteWriter.faults l.writer)
    (flat_map range_text (take l.axis (zip l.cell.lo l.cell.hi)))
