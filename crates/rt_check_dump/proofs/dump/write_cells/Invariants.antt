use Rattle.std.proofs.Common.{take}
use Rattle.std.specs.List.{flat_map}
use Rattle.rt_bytes.specs.Bytes.{WritesAll}
use Rattle.rt_check_dump.specs.Dump.{cell_line}
use Rattle.rt_check_dump.proofs.dump.write_cells.Given as goal

-- what stands before this one is written
abbrev pub invariant-loop-cell : goal.invariant-loop-cell
invariant-loop-cell g l = WritesAll (g.W.ByteWriter.written l.initial.writer) (g.W.ByteWriter.written l.writer)
    (g.W.ByteWriter.faults l.initial.writer) (g.W.ByteWriter.faults l.writer)
    (flat_map cell_line (take l.cell-index l.node.cells))
