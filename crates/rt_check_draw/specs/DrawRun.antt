-- What the drawing of a dump does to its reader and its writer (own).
use Rattle.std.specs.Prelude.{◌≡◌, ℕ, List, codes, Option, None, Some, Result, Ok, Err}
use Rattle.std.specs.Io.KnownBytes.{Appends}
use Rattle.rt_bytes.specs.Bytes.{one_more, AppendsPrefix, WritesAll, WritesPrefix}
use Rattle.rt_bytes.specs.Devices.{Devices, Held}
use Rattle.rt_bytes.specs.declared.device.ByteWriter.{Ghosts as WriterMembers}
use Rattle.rt_bytes.specs.declared.outcome.Status.{Status}
use Rattle.rt_bytes.specs.declared.outcome.Status.TheVariants.{Clean, Refused}
use Rattle.rt_bytes.specs.declared.outcome.RunFault.{RunFault}
use Rattle.rt_bytes.specs.declared.outcome.RunFault.TheVariants.{Read, Write, Memory}
use Rattle.rt_check_dump.specs.declared.dump.AnyShadow.{AnyShadow}
use Rattle.rt_check_dump.specs.declared.fault.LineFault.{LineFault}
use Rattle.rt_check_dump.specs.Reading.{read_text}
use Rattle.rt_check_report.specs.Report.{fault_line}
use Rattle.rt_check_report.specs.CheckRun.{FailsToReadDump, FindsNoMemory}
use Rattle.rt_check_draw.specs.declared.choice.Choice.{Choice}
use Rattle.rt_check_draw.specs.Picture.{any_picture}

-- the picture, or that the tree has no such axis
abbrev pub picture_or_refusal : Option (List ℕ) → List ℕ
picture_or_refusal None = codes "no such axis\n"
picture_or_refusal (Some picture) = picture

abbrev pub picture_status : Option (List ℕ) → Status
picture_status None = Refused
picture_status (Some picture) = Clean

-- that was written, or after a fault a prefix of it
abbrev pub WritesPicture : {W : Type 0} → WriterMembers W → Option (List ℕ) → W → W → Result Status RunFault → Type 0
WritesPicture w picture old new (Ok status) =
    WritesAll (w.written old) (w.written new) (w.faults old) (w.faults new) (picture_or_refusal picture) × (status ≡ picture_status picture)
WritesPicture w picture old new (Err Write) = WritesPrefix (w.written old) (w.written new) (w.faults old) (w.faults new) (picture_or_refusal picture)
WritesPicture w picture old new (Err Memory) = ⊥
WritesPicture w picture old new (Err Read) = ⊥

-- what is written of the bytes of a dump
abbrev pub drawing_of : Choice → Result AnyShadow (ℕ × LineFault) → List ℕ
drawing_of choice (Ok shadow) = picture_or_refusal (any_picture choice shadow)
drawing_of choice (Err fault) = fault_line fault.0 fault.1

abbrev pub drawing_status : Choice → Result AnyShadow (ℕ × LineFault) → Status
drawing_status choice (Ok shadow) = picture_status (any_picture choice shadow)
drawing_status choice (Err fault) = Refused

-- that was written, or after a fault a prefix of it, or nothing for want of memory
abbrev pub WritesDrawing : {W : Type 0} → WriterMembers W → Choice → List ℕ → W → W → Result Status RunFault → Type 0
WritesDrawing w choice bytes old new (Ok status) =
    WritesAll (w.written old) (w.written new) (w.faults old) (w.faults new) (drawing_of choice (read_text bytes)) × (status ≡ drawing_status choice (read_text bytes))
WritesDrawing w choice bytes old new (Err Write) = WritesPrefix (w.written old) (w.written new) (w.faults old) (w.faults new) (drawing_of choice (read_text bytes))
WritesDrawing w choice bytes old new (Err Memory) = (w.written new ≡ w.written old) × (w.faults new ≡ w.faults old)
WritesDrawing w choice bytes old new (Err Read) = ⊥

-- the reader held these bytes, and what is written of them was written
pub record DrawsDump (choice : Choice) (old new : Devices) (status : Status) : Type 0 where
  pub bytes : List ℕ
  pub held : Held old.left bytes
  pub wrote : Appends old.written new.written (drawing_of choice (read_text bytes))
  pub answered : status ≡ drawing_status choice (read_text bytes)
  pub no_read_failed : new.failures ≡ old.failures
  pub no_write_failed : new.faults ≡ old.faults

-- the reader held these bytes, and a prefix of what is written of them was written
pub record FailsToDraw (choice : Choice) (old new : Devices) : Type 0 where
  pub bytes : List ℕ
  pub held : Held old.left bytes
  pub wrote : AppendsPrefix old.written new.written (drawing_of choice (read_text bytes))
  pub why : new.faults ≡ one_more old.faults
  pub no_read_failed : new.failures ≡ old.failures

abbrev pub Draws : Choice → Devices → Devices → Result Status RunFault → Type 0
Draws choice old new (Ok status) = DrawsDump choice old new status
Draws choice old new (Err Read) = FailsToReadDump old new
Draws choice old new (Err Write) = FailsToDraw choice old new
Draws choice old new (Err Memory) = FindsNoMemory old new
