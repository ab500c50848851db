-- What a shell that is fed a script has printed (own).
use Rattle.std.specs.Prelude.{◌≡◌, ◌≢◌, ℕ, ◌+◌, ◌^◌, ◌<◌, ◌≤◌, List, [], ◌++◌, length, Option, Result, Ok, Err}
use Rattle.rt_bytes.specs.Bytes.{WritesAll, WritesPrefix}
use Rattle.rt_bytes.specs.declared.device.ByteWriter.{Ghosts as WriterMembers}
use Rattle.rt_bytes.specs.declared.device.WriteFault.{WriteFault}
use Rattle.rt_bytes.specs.declared.outcome.Status.{Status}
use Rattle.rt_bytes.specs.declared.outcome.Status.TheVariants.{Refused}
use Rattle.rt_bytes.specs.declared.outcome.RunFault.{RunFault}
use Rattle.rt_bytes.specs.declared.outcome.RunFault.TheVariants.{Read, Write as WriteFailed}
use Rattle.rt_shell.specs.declared.engine.Engine.{Engine}
use Rattle.rt_shell.specs.declared.engine.Flow.{Flow}
use Rattle.rt_shell.specs.declared.engine.Flow.TheVariants.{Goes, Stops}
use Rattle.rt_shell.specs.declared.engine.Options.{Options}
use Rattle.rt_shell.specs.declared.shell.Shell.{Shell}
use Rattle.rt_shell.specs.declared.shell.FeedFault.{FeedFault}
use Rattle.rt_shell.specs.declared.shell.FeedFault.TheVariants.{Write, TooLong}
use Rattle.rt_shell.specs.Transcript.{MayPrint, MayPrintSoFar}
use Rattle.rt_shell.specs.Engine.{IsFresh, Moves}

-- with bail the script was refused in these bytes: whatever comes after them, it prints this
abbrev pub IsCutShort : Options → List ℕ → List ℕ → Type 0
IsCutShort options fed out = (rest : List ℕ) → MayPrint options (fed ++ rest) out Refused × MayPrintSoFar options (fed ++ rest) out

-- an engine came from its start through these bytes, and printed this
pub record HasCome (options : Options) (engine : Engine) (fed out : List ℕ) : Type 0 where
  pub first : Engine
  pub fresh : IsFresh first options
  pub at : List ℕ
  pub moves : Moves first [] fed out engine at
  pub few : engine.pieces ≤ length fed

abbrev pub HasPrintedAt : Result Flow WriteFault → Options → Engine → List ℕ → List ℕ → Type 0
HasPrintedAt (Ok Goes) options engine fed out = HasCome options engine fed out
HasPrintedAt (Ok Stops) options engine fed out = IsCutShort options fed out
-- it isn't known how much was written
HasPrintedAt (Err fault) options engine fed out = ⊥

-- the shell was started with these options and fed these bytes in some parts, each write succeeded, and it printed this
abbrev pub HasPrinted : Options → Shell → List ℕ → List ℕ → Type 0
HasPrinted options shell fed out = HasPrintedAt shell.flow options shell.engine fed out

-- with bail a piece was refused, or a write failed
abbrev pub IsOver : Shell → Type 0
IsOver shell = shell.flow ≢ Ok Goes

-- the shell goes on or has stopped; its writes succeeded
abbrev pub IsAt : Shell → Flow → Type 0
IsAt shell flow = shell.flow ≡ Ok flow

-- a write failed
abbrev pub HasFailed : Shell → Type 0
HasFailed shell = (fault : WriteFault) × (shell.flow ≡ Err fault)

-- of a shell that was fed and printed this, what it does with further bytes
abbrev pub FeedsOn : Options → List ℕ → List ℕ → Shell → List ℕ → Shell → Option (List ℕ) → Option (List ℕ) → ℕ → ℕ → Result Flow FeedFault → Type 0
FeedsOn options fed out old bytes new w v f g (Ok flow) =
    IsAt new flow × ((lines : List ℕ) × WritesAll w v f g lines × HasPrinted options new (fed ++ bytes) (out ++ lines))
FeedsOn options fed out old bytes new w v f g (Err Write) =
    HasFailed new × ((lines : List ℕ) × WritesPrefix w v f g lines × MayPrintSoFar options (fed ++ bytes) (out ++ lines))
FeedsOn options fed out old bytes new w v f g (Err TooLong) =
    (2 ^ 63 < length fed + length bytes) × (new ≡ old) × (v ≡ w) × (g ≡ f)

abbrev pub Feeds : Shell → List ℕ → Shell → Option (List ℕ) → Option (List ℕ) → ℕ → ℕ → Result Flow FeedFault → Type 0
Feeds old bytes new w v f g result =
    (options : Options) (fed out : List ℕ) → HasPrinted options old fed out → FeedsOn options fed out old bytes new w v f g result

-- the same, told by the writer before and after
abbrev pub FeedsTo : {W : Type 0} → WriterMembers W → Shell → List ℕ → Shell → W → W → Result Flow FeedFault → Type 0
FeedsTo w old bytes new from to result = Feeds old bytes new (w.written from) (w.written to) (w.faults from) (w.faults to) result

-- of a shell that was fed and printed this, what it does at the script's end
abbrev pub EndsWith : Options → List ℕ → List ℕ → Option (List ℕ) → Option (List ℕ) → ℕ → ℕ → Result Status WriteFault → Type 0
EndsWith options fed out w v f g (Ok status) = (lines : List ℕ) × WritesAll w v f g lines × MayPrint options fed (out ++ lines) status
EndsWith options fed out w v f g (Err fault) =
    (lines : List ℕ) × WritesPrefix w v f g lines × ((status : Status) × MayPrint options fed (out ++ lines) status)

abbrev pub Ends : Shell → Option (List ℕ) → Option (List ℕ) → ℕ → ℕ → Result Status WriteFault → Type 0
Ends shell w v f g result = (options : Options) (fed out : List ℕ) → HasPrinted options shell fed out → EndsWith options fed out w v f g result

abbrev pub EndsTo : {W : Type 0} → WriterMembers W → Shell → W → W → Result Status WriteFault → Type 0
EndsTo w shell from to result = Ends shell (w.written from) (w.written to) (w.faults from) (w.faults to) result

-- ---- a shell that is over

-- what a shell that is over answers to a feed
abbrev pub feed_answer : Result Flow WriteFault → Result Flow FeedFault
feed_answer (Ok flow) = Ok flow
feed_answer (Err fault) = Err Write

-- it takes and writes nothing more
abbrev pub FeedsNoMore : Shell → Shell → Option (List ℕ) → Option (List ℕ) → ℕ → ℕ → Result Flow FeedFault → Type 0
FeedsNoMore old new w v f g result = (result ≡ feed_answer old.flow) × (new ≡ old) × (v ≡ w) × (g ≡ f)

abbrev pub FeedsNoMoreTo : {W : Type 0} → WriterMembers W → Shell → Shell → W → W → Result Flow FeedFault → Type 0
FeedsNoMoreTo w old new from to result = FeedsNoMore old new (w.written from) (w.written to) (w.faults from) (w.faults to) result

-- and to the end of its script
abbrev pub end_answer : Result Flow WriteFault → Result Status WriteFault
end_answer (Ok flow) = Ok Refused
end_answer (Err fault) = Err fault

abbrev pub EndsAsBefore : Shell → Option (List ℕ) → Option (List ℕ) → ℕ → ℕ → Result Status WriteFault → Type 0
EndsAsBefore shell w v f g result = (result ≡ end_answer shell.flow) × (v ≡ w) × (g ≡ f)

abbrev pub EndsAsBeforeTo : {W : Type 0} → WriterMembers W → Shell → W → W → Result Status WriteFault → Type 0
EndsAsBeforeTo w shell from to result = EndsAsBefore shell (w.written from) (w.written to) (w.faults from) (w.faults to) result

-- ---- a shell in a run

-- a run reads less than a shell takes, so its script isn't too long for its shell
abbrev pub run_fault_of : FeedFault → RunFault
run_fault_of Write = WriteFailed
run_fault_of TooLong = Read
