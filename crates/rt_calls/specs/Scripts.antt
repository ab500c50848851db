-- What a call does to a script shell, by its code (own).
use Rattle.std.specs.Prelude.{◌≡◌, ℕ, List, [], length, Option, Some, None, Result, Ok, Err, false}
use Rattle.rt_box.specs.Capacity.{IsCapacity}
use Rattle.rt_bytes.specs.declared.device.WriteFault.{WriteFault}
use Rattle.rt_bytes.specs.declared.outcome.Status.{Status}
use Rattle.rt_bytes.specs.declared.outcome.Status.TheVariants.{Clean, Refused}
use Rattle.rt_handle.specs.declared.object.Object.{Object}
use Rattle.rt_handle.specs.declared.object.Script.{Script}
use Rattle.rt_shell.specs.declared.engine.Flow.{Flow}
use Rattle.rt_shell.specs.declared.shell.FeedFault.{FeedFault}
use Rattle.rt_shell.specs.declared.shell.FeedFault.TheVariants.{Write, TooLong as LongScript}
use Rattle.rt_shell.specs.declared.shell.Shell.{Shell}
use Rattle.rt_shell.specs.Shell.{HasPrinted, Feeds, Ends}
use Rattle.rt_calls.specs.declared.code.Code.{Code}
use Rattle.rt_calls.specs.declared.code.Code.TheVariants.{Done, OutOfMemory, Ended, TooLong}
use Rattle.rt_calls.specs.Buffers.{Copies}
use Rattle.rt_calls.specs.Calls.{IsScript}
use Rattle.rt_calls.specs.Trees.{MakesNone}

-- a shell without input so far, which goes on after a refusal
abbrev pub IsNewShell : ℕ → Option Shell → Type 0
IsNewShell capacity None = ⊥
IsNewShell capacity (Some shell) = HasPrinted (record { capacity = capacity; bail = false; echo = false }) shell [] []

-- such a shell, and no output
abbrev pub IsNewScript : ℕ → Script → Type 0
IsNewScript capacity script = IsNewShell capacity script.shell × (script.output.bytes ≡ [])

abbrev pub MakesScript : ℕ → Result Object Code → Type 0
MakesScript capacity (Ok object) = IsCapacity capacity × IsScript (IsNewScript capacity) object
MakesScript capacity (Err code) = MakesNone capacity code

-- a write fails only if no memory is left
abbrev pub code_of_feed : Result Flow FeedFault → Code
code_of_feed (Ok flow) = Done
code_of_feed (Err Write) = OutOfMemory
code_of_feed (Err LongScript) = TooLong

-- the shell is fed these bytes, and what it prints comes after its output
abbrev pub ExecutesIn : Option Shell → List ℕ → Script → Script → Code → Type 0
ExecutesIn None bytes old new code = (code ≡ Ended) × (new ≡ old)
ExecutesIn (Some shell) bytes old new code =
    (after : Shell) × (answer : Result Flow FeedFault) × (code ≡ code_of_feed answer) × (new.shell ≡ Some after)
    × Feeds shell bytes after (Some old.output.bytes) (Some new.output.bytes) old.output.faults new.output.faults answer

abbrev pub Executes : List ℕ → Script → Script → Code → Type 0
Executes bytes old new code = ExecutesIn old.shell bytes old new code

abbrev pub result_of_end : Result Status WriteFault → Result Status Code
result_of_end (Ok status) = Ok status
result_of_end (Err fault) = Err OutOfMemory

-- the script ends, and what the shell prints comes after its output
abbrev pub FinishesIn : Option Shell → Script → Script → Result Status Code → Type 0
FinishesIn None old new result = (result ≡ Err Ended) × (new ≡ old)
FinishesIn (Some shell) old new result =
    (answer : Result Status WriteFault) × (result ≡ result_of_end answer) × (new.shell ≡ None)
    × Ends shell (Some old.output.bytes) (Some new.output.bytes) old.output.faults new.output.faults answer

abbrev pub Finishes : Script → Script → Result Status Code → Type 0
Finishes old new result = FinishesIn old.shell old new result

-- 1 if a piece was refused, else 0
abbrev pub number_of_status : Status → ℕ
number_of_status Clean = 0
number_of_status Refused = 1

abbrev pub code_of_end : Result Status Code → Code
code_of_end (Ok status) = Done
code_of_end (Err code) = code

-- the number tells whether a piece was refused
abbrev pub TellsEnd : ℕ → Result Status Code → Type 0
TellsEnd refused (Ok status) = refused ≡ number_of_status status
TellsEnd refused (Err code) = Unit {0}

abbrev pub FinishesTelling : ℕ → Script → Script → Code → Type 0
FinishesTelling refused old new code =
    (result : Result Status Code) × Finishes old new result × (code ≡ code_of_end result) × TellsEnd refused result

-- the length of the output
abbrev pub HasLength : ℕ → Script → Code → Type 0
HasLength count script Done = count ≡ length script.output.bytes
HasLength count script code = ⊥

-- the output is copied
abbrev pub CopiesOutput : List ℕ → List ℕ → Script → Code → Type 0
CopiesOutput before after script code = Copies script.output.bytes before after code

-- there is no output
abbrev pub DropsOutput : Script → Script → Code → Type 0
DropsOutput old new Done = (new.shell ≡ old.shell) × (new.output.bytes ≡ [])
DropsOutput old new code = ⊥
