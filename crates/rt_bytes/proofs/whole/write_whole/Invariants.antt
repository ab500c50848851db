use Rattle.std.proofs.Common.{length, ◌-◌, ◌≤◌, take}
use Rattle.rt_bytes.specs.Bytes.{WritesAll}
use Rattle.rt_bytes.proofs.whole.write_whole.Given as goal

-- so far the bytes before `done` are written
abbrev pub invariant-loop-done : goal.invariant-loop-done
invariant-loop-done g l = record {
  within : l.done ≤ length l.bytes;
  so_far : WritesAll (g.W.ByteWriter.written l.initial.writer) (g.W.ByteWriter.written l.writer)
      (g.W.ByteWriter.faults l.initial.writer) (g.W.ByteWriter.faults l.writer) (take l.done l.bytes);
}

abbrev pub decreases-loop-done : goal.decreases-loop-done
decreases-loop-done g l = length l.bytes - l.done
