-- What the check of a dump does to its reader and its writer (own).
use Rattle.std.specs.Prelude.{◌≡◌, ◌⊎◌, ℕ, ◌+◌, ◌^◌, ◌<◌, List, length, Option, Result, Ok, Err, IfSome}
use Rattle.std.specs.Prelude.{Vec}
use Rattle.std.specs.declared.alloc.Global.{Global}
use Rattle.std.specs.Io.KnownBytes.{Appends, Consumes, IsAtEnd}
use Rattle.rt_bytes.specs.Bytes.{one_more, AppendsPrefix, WritesAll, WritesPrefix}
use Rattle.rt_check_dump.specs.Reading.{read_text}
use Rattle.rt_bytes.specs.declared.device.ByteReader.{Ghosts as ReaderMembers}
use Rattle.rt_bytes.specs.declared.device.ByteWriter.{Ghosts as WriterMembers}
use Rattle.rt_bytes.specs.declared.outcome.Status.{Status}
use Rattle.rt_bytes.specs.declared.outcome.RunFault.{RunFault}
use Rattle.rt_bytes.specs.declared.outcome.RunFault.TheVariants.{Read, Write, Memory}
use Rattle.rt_bytes.specs.declared.outcome.Status.TheVariants.{Refused}
use Rattle.rt_check_dump.specs.declared.fault.DumpFault.{DumpFault}
use Rattle.rt_check_dump.specs.declared.fault.DumpFault.TheVariants.{At, Memory as NoMemory}
use Rattle.rt_check_report.specs.Report.{fault_line, report_on, report_status}
use Rattle.rt_bytes.specs.Devices.{Source, source_of, Devices, most_reads, Held}

-- a read failed, or the last read was made
pub record NoEnd (old new : Source) : Type 0 where
  pub why : (new.failures ≡ one_more old.failures) ⊎ ((new.failures ≡ old.failures) × (old.reads < 2 ^ 63 → new.reads ≡ old.reads + most_reads))
  pub short : IfSome old.left (λ script. length script < most_reads → new.failures ≡ one_more old.failures)

-- all bytes were read
pub record AllRead (old new : Source) (bytes : List ℕ) : Type 0 where
  pub consumed : Consumes old.left new.left bytes
  pub at_end : IsAtEnd new.left
  pub no_read_failed : new.failures ≡ old.failures

abbrev pub ReadsAll : Source → Source → Result (List ℕ) RunFault → Type 0
ReadsAll old new (Ok bytes) = AllRead old new bytes
ReadsAll old new (Err Read) = NoEnd old new
ReadsAll old new (Err Write) = ⊥
ReadsAll old new (Err Memory) = new.failures ≡ old.failures

-- a dump's fault was written, or after a fault of the writer a prefix of its line; nothing for want of memory
abbrev pub ReportsFault : {W : Type 0} → WriterMembers W → DumpFault → W → W → Result Status RunFault → Type 0
ReportsFault w (At line fault) old new (Ok status) =
    WritesAll (w.written old) (w.written new) (w.faults old) (w.faults new) (fault_line line fault) × (status ≡ Refused)
ReportsFault w (At line fault) old new (Err Write) = WritesPrefix (w.written old) (w.written new) (w.faults old) (w.faults new) (fault_line line fault)
ReportsFault w (At line fault) old new (Err Read) = ⊥
ReportsFault w (At line fault) old new (Err Memory) = ⊥
ReportsFault w NoMemory old new result = (result ≡ Err Memory) × (w.written new ≡ w.written old) × (w.faults new ≡ w.faults old)

-- the report on the bytes was written, or after a fault a prefix of it, or nothing for want of memory
abbrev pub Reports : {W : Type 0} → WriterMembers W → List ℕ → W → W → Result Status RunFault → Type 0
Reports w bytes old new (Ok status) =
    WritesAll (w.written old) (w.written new) (w.faults old) (w.faults new) (report_on (read_text bytes)) × (status ≡ report_status (read_text bytes))
Reports w bytes old new (Err Write) = WritesPrefix (w.written old) (w.written new) (w.faults old) (w.faults new) (report_on (read_text bytes))
Reports w bytes old new (Err Memory) = (w.written new ≡ w.written old) × (w.faults new ≡ w.faults old)
Reports w bytes old new (Err Read) = ⊥

-- the reader held these bytes, and the report on them was written
pub record ChecksDump (old new : Devices) (status : Status) : Type 0 where
  pub bytes : List ℕ
  pub held : Held old.left bytes
  pub wrote : Appends old.written new.written (report_on (read_text bytes))
  pub answered : status ≡ report_status (read_text bytes)
  pub no_read_failed : new.failures ≡ old.failures
  pub no_write_failed : new.faults ≡ old.faults

-- no end was read, and nothing was written
pub record FailsToReadDump (old new : Devices) : Type 0 where
  pub why : (new.failures ≡ one_more old.failures) ⊎ ((new.failures ≡ old.failures) × (old.reads < 2 ^ 63 → new.reads ≡ old.reads + most_reads))
  pub short : IfSome old.left (λ script. length script < most_reads → new.failures ≡ one_more old.failures)
  pub nothing_written : new.written ≡ old.written
  pub no_write_failed : new.faults ≡ old.faults

-- the reader held these bytes, and a prefix of the report on them was written
pub record FailsToReport (old new : Devices) : Type 0 where
  pub bytes : List ℕ
  pub held : Held old.left bytes
  pub wrote : AppendsPrefix old.written new.written (report_on (read_text bytes))
  pub why : new.faults ≡ one_more old.faults
  pub no_read_failed : new.failures ≡ old.failures

-- there was no memory, and nothing was written
pub record FindsNoMemory (old new : Devices) : Type 0 where
  pub nothing_written : new.written ≡ old.written
  pub no_read_failed : new.failures ≡ old.failures
  pub no_write_failed : new.faults ≡ old.faults

abbrev pub Checks : Devices → Devices → Result Status RunFault → Type 0
Checks old new (Ok status) = ChecksDump old new status
Checks old new (Err Read) = FailsToReadDump old new
Checks old new (Err Write) = FailsToReport old new
Checks old new (Err Memory) = FindsNoMemory old new

-- the bytes of a vector, or the fault
abbrev pub items_or_fault : Result (Vec ℕ Global) RunFault → Result (List ℕ) RunFault
items_or_fault (Ok bytes) = Ok bytes.items
items_or_fault (Err fault) = Err fault

-- the vector has all bytes of the reader
abbrev pub GivesAll : {R : Type 0} → ReaderMembers R → R → R → Result (Vec ℕ Global) RunFault → Type 0
GivesAll r old new result = ReadsAll (source_of r old) (source_of r new) (items_or_fault result)
