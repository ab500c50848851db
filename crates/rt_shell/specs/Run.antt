-- What a whole run does to its reader and its writer (own).
use Rattle.std.specs.Prelude.{◌≡◌, ◌⊎◌, ℕ, ◌+◌, ◌^◌, ◌<◌, List, ◌++◌, length, Result, Ok, Err, IfSome}
use Rattle.std.specs.Io.KnownBytes.{Appends, Consumes, IsAtEnd}
use Rattle.rt_bytes.specs.Bytes.{one_more, AppendsPrefix}
use Rattle.rt_bytes.specs.Devices.{Devices, most_reads, Held}
use Rattle.rt_bytes.specs.declared.outcome.Status.{Status}
use Rattle.rt_bytes.specs.declared.outcome.RunFault.{RunFault}
use Rattle.rt_bytes.specs.declared.outcome.RunFault.TheVariants.{Read, Write, Memory}
use Rattle.rt_shell.specs.Transcript.{MayPrint, MayPrintSoFar}
use Rattle.rt_shell.specs.declared.engine.Options.{Options}

-- the script that the reader held was run, and what was written is its transcript
pub record RunsScript (options : Options) (old new : Devices) (status : Status) : Type 0 where
  pub script : List ℕ
  pub out : List ℕ
  pub held : Held old.left script
  pub transcript : MayPrint options script out status
  pub wrote : Appends old.written new.written out
  pub no_read_failed : new.failures ≡ old.failures
  pub no_write_failed : new.faults ≡ old.faults

-- a read failed, or the last read was made, and what was written is the transcript of the pieces that were complete
pub record FailsToRead (options : Options) (old new : Devices) : Type 0 where
  pub read : List ℕ
  pub out : List ℕ
  pub consumed : Consumes old.left new.left read
  pub transcript : MayPrintSoFar options read out
  pub wrote : Appends old.written new.written out
  pub why : (new.failures ≡ one_more old.failures) ⊎ ((new.failures ≡ old.failures) × (old.reads < 2 ^ 63 → new.reads ≡ old.reads + most_reads))
  pub short : IfSome old.left (λ script. length script < most_reads → new.failures ≡ one_more old.failures)
  pub no_write_failed : new.faults ≡ old.faults

-- a write or the flush failed, and what was written is a prefix of a transcript: of the pieces that were complete in
-- what was read, or of the whole script
pub record FailsToWrite (options : Options) (old new : Devices) : Type 0 where
  pub read : List ℕ
  pub out : List ℕ
  pub consumed : Consumes old.left new.left read
  pub transcript : MayPrintSoFar options read out ⊎ (IsAtEnd new.left × ((status : Status) × MayPrint options read out status))
  pub wrote : AppendsPrefix old.written new.written out
  pub why : new.faults ≡ one_more old.faults
  pub no_read_failed : new.failures ≡ old.failures

-- what was read was run to its end: the script's end, or with bail a refusal, whatever comes after it
pub record ReadsToEnd (options : Options) (old new : Devices) (status : Status) : Type 0 where
  pub read : List ℕ
  pub out : List ℕ
  pub consumed : Consumes old.left new.left read
  pub wrote : Appends old.written new.written out
  pub transcript : (IsAtEnd new.left × MayPrint options read out status)
      ⊎ (MayPrintSoFar options read out × ((rest : List ℕ) → MayPrint options (read ++ rest) out status))
  pub no_read_failed : new.failures ≡ old.failures
  pub no_write_failed : new.faults ≡ old.faults

-- the same before the writer is flushed
abbrev pub Pumps : Options → Devices → Devices → Result Status RunFault → Type 0
Pumps options old new (Ok status) = ReadsToEnd options old new status
Pumps options old new (Err Read) = FailsToRead options old new
Pumps options old new (Err Write) = FailsToWrite options old new
Pumps options old new (Err Memory) = ⊥

abbrev pub Runs : Options → Devices → Devices → Result Status RunFault → Type 0
Runs options old new (Ok status) = RunsScript options old new status
Runs options old new (Err Read) = FailsToRead options old new
Runs options old new (Err Write) = FailsToWrite options old new
-- the start found no memory
Runs options old new (Err Memory) = new ≡ old
