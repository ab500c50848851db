-- What a write leaves of a writer, if its result says more than that it ended. Source: own.
use Rattle.std.specs.Prelude.{ℕ, List, Result, MatchResult, take, drop}
use Rattle.std.specs.List.{flat_map}
use Rattle.rt_bytes.specs.Bytes.{WritesAll, WritesPrefix}
use Rattle.rt_bytes.specs.declared.device.ByteWriter.{Ghosts as WriterMembers}
use Rattle.rt_reply.specs.declared.rows.Rows.{Rows}
use Rattle.rt_reply.specs.Rows.{values_in}
use Rattle.rt_shell_lines.specs.Lines.{columns_line}

-- all of the bytes were written to the writer
abbrev pub WritesAllTo : {W : Type 0} → WriterMembers W → W → W → List ℕ → Type 0
WritesAllTo w old new bytes = WritesAll (w.written old) (w.written new) (w.faults old) (w.faults new) bytes

-- a prefix of the bytes was written to it, and it counted one fault
abbrev pub WritesFrontTo : {W : Type 0} → WriterMembers W → W → W → List ℕ → Type 0
WritesFrontTo w old new bytes = WritesPrefix (w.written old) (w.written new) (w.faults old) (w.faults new) bytes

-- at Ok the lines of the rows from a place to the next one were written, at Err a prefix of the lines from it on
abbrev pub WritesNext : {W X E : Type 0} → WriterMembers W → W → W → Result ℕ E → (X → List ℕ) → ℕ → List X → Type 0
WritesNext w old new r line from rows =
    MatchResult r (λ next. WritesAllTo w old new (flat_map line (drop from (take next rows)))) (λ _. WritesFrontTo w old new (flat_map line (drop from rows)))

-- the same of the columns at these places
abbrev pub WritesColumns : {W E : Type 0} → WriterMembers W → W → W → Result ℕ E → List ℕ → ℕ → Rows → Type 0
WritesColumns w old new r places from rows = WritesNext w old new r (columns_line places) from (values_in rows)
