use Rattle.std.proofs.Common.{length}
use Rattle.rt_shell.proofs.Taking.{Taking}
use Rattle.rt_shell.proofs.engine.Engine.take_all.Given as goal

abbrev pub invariant-loop-rest : goal.invariant-loop-rest
invariant-loop-rest g l = Taking l.initial.self l.bytes l.self l.rest (g.W.ByteWriter.written l.initial.writer) (g.W.ByteWriter.written l.writer) (g.W.ByteWriter.faults l.initial.writer) (g.W.ByteWriter.faults l.writer)

abbrev pub decreases-loop-rest : goal.decreases-loop-rest
decreases-loop-rest g l = length l.rest
