use Rattle.std.proofs.Common.{take}
use Rattle.std.specs.List.{flat_map}
use Rattle.rt_bytes.specs.Bytes.{WritesAll}
use Rattle.rt_check_dump.specs.Dump.{node_text}
use Rattle.rt_check_dump.proofs.dump.write_nodes.Given as goal

-- what stands before this one is written
abbrev pub invariant-loop-node : goal.invariant-loop-node
invariant-loop-node g l = WritesAll (g.W.ByteWriter.written l.initial.writer) (g.W.ByteWriter.written l.writer)
    (g.W.ByteWriter.faults l.initial.writer) (g.W.ByteWriter.faults l.writer)
    (flat_map node_text (take l.node-index l.shadow.nodes))
