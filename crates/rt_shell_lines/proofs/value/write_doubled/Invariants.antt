use Rattle.std.proofs.Common.{◌≡◌, ℕ, List, ◌++◌, length}
use Rattle.rt_bytes.specs.Bytes.{WritesAll}
use Rattle.rt_sql.specs.Token.{double}
use Rattle.rt_shell_lines.proofs.value.write_doubled.Given as goal

-- what stands before the rest is written, doubled
abbrev pub invariant-loop-quote : goal.invariant-loop-quote
invariant-loop-quote g l =
    (done : List ℕ) × (done ++ l.rest ≡ l.text)
    × WritesAll (g.W.ByteWriter.written l.initial.writer) (g.W.ByteWriter.written l.writer)
    (g.W.ByteWriter.faults l.initial.writer) (g.W.ByteWriter.faults l.writer) (double 39 done)

abbrev pub decreases-loop-quote : goal.decreases-loop-quote
decreases-loop-quote g l = length l.rest
