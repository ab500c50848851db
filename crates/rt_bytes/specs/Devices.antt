-- What is known of the reader and the writer of a run, and what a write leaves of a writer (own).
use Rattle.std.specs.Prelude.{◌≡◌, ℕ, ◌^◌, List, Option, Some, None, Result, ⊤}
use Rattle.rt_bytes.specs.Bytes.{Writes}
use Rattle.rt_bytes.specs.declared.device.ByteReader.{Ghosts as ReaderMembers}
use Rattle.rt_bytes.specs.declared.device.ByteWriter.{Ghosts as WriterMembers}

-- at Ok all of the bytes were written to the writer; at Err a prefix of them, and it counted one fault
abbrev pub WritesTo : {W T E : Type 0} → WriterMembers W → W → W → Result T E → List ℕ → Type 0
WritesTo w old new result bytes = Writes (w.written old) (w.written new) (w.faults old) (w.faults new) result bytes

-- what is known of a reader: the bytes left, if they are known, and the counts of reads and of failures
pub record Source : Type 0 where
  pub left : Option (List ℕ)
  pub failures : ℕ
  pub reads : ℕ

abbrev pub source_of : {R : Type 0} → ReaderMembers R → R → Source
source_of r reader = record { left = r.left reader; failures = r.failures reader; reads = r.reads reader }

-- what is known of a reader and a writer: the bytes left and those written, if they are known, and the counts of
-- reads and of failures
pub record Devices : Type 0 where
  pub left : Option (List ℕ)
  pub failures : ℕ
  pub reads : ℕ
  pub written : Option (List ℕ)
  pub faults : ℕ

abbrev pub devices_of : {R W : Type 0} → ReaderMembers R → WriterMembers W → R → W → Devices
devices_of r w reader writer = record {
  left = r.left reader;
  failures = r.failures reader;
  reads = r.reads reader;
  written = w.written writer;
  faults = w.faults writer;
}

-- the most reads of one run
abbrev pub most_reads : ℕ
most_reads = 2 ^ 40

-- the reader held this script, if its bytes are known
abbrev pub Held : Option (List ℕ) → List ℕ → Type 0
Held None script = ⊤
Held (Some bytes) script = bytes ≡ script
