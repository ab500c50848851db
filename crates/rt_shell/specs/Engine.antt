-- What an engine does with the pieces of a script.
use Rattle.std.specs.Prelude.{◌≡◌, ◌⊎◌, ℕ, ◌+◌, Bool, true, false, ◌&&◌, if◌then◌else◌, List, [], ◌++◌, Result, Ok, Err, Option, Some, None, IfOk}
use Rattle.std.specs.Result.{is_err}
use Rattle.rt_bytes.specs.Bytes.{Writes, WritesAll, WritesPrefix}
use Rattle.rt_bytes.specs.declared.device.ByteWriter.{Ghosts as WriterMembers}
use Rattle.rt_bytes.specs.declared.device.WriteFault.{WriteFault}
use Rattle.rt_sql_cut.specs.Pieces.{PieceText, IsGap, IsWholePiece, IsLastPiece, Pieces, EndedPieces}
use Rattle.rt_sql_cut.specs.Cutter.{StandsAt, StandsAtEnd, ready_piece}
use Rattle.rt_sql_statement.specs.declared.refusal.Refusal.{Refusal}
use Rattle.rt_reply.specs.declared.reply.Reply.{Reply}
use Rattle.rt_shell.specs.declared.engine.Engine.{Engine}
use Rattle.rt_shell.specs.declared.engine.Flow.{Flow}
use Rattle.rt_shell.specs.declared.engine.Flow.TheVariants.{Goes, Stops}
use Rattle.rt_bytes.specs.declared.outcome.Status.{Status}
use Rattle.rt_bytes.specs.declared.outcome.Status.TheVariants.{Refused}
use Rattle.rt_shell.specs.declared.engine.Options.{Options}
use Rattle.rt_session.specs.Session.{State, Outcome, state_after}
use Rattle.rt_shell_lines.specs.Lines.{answer_lines, echo_of}
use Rattle.rt_shell.specs.Transcript.{Marks, Progress, start, MayGive, after, PrintsText}

-- an answer with the state that it leaves
abbrev pub outcome_of : Result Reply Refusal → State → Outcome
outcome_of (Ok reply) new = Ok (reply, new)
outcome_of (Err refusal) new = Err refusal

-- the piece, marked or not, gives this answer and leaves this state
pub record GivesAnswer (old : State) (piece : PieceText) (answer : Result Reply Refusal) (new : State) : Type 0 where
  pub mark : Bool
  pub gives : MayGive mark old piece (outcome_of answer new)
  pub leaves : state_after old (outcome_of answer new) ≡ new

-- how far an engine has come
abbrev pub progress_of : Engine → Progress
progress_of engine = record { state = engine.session; pieces = engine.pieces; refused = engine.refused }

-- no byte was taken yet
pub record IsFresh (engine : Engine) (options : Options) : Type 0 where
  pub at_start : progress_of engine ≡ start options
  pub stands : StandsAt engine.cutter []
  pub asked : engine.options ≡ options

-- the piece that was ready got this answer, and the cutter starts anew
pub record AnswersPiece (old : Engine) (answer : Result Reply Refusal) (new : Engine) : Type 0 where
  pub piece : PieceText
  pub ready : ready_piece old.cutter ≡ Some piece
  pub whole : (x : List ℕ) → StandsAt old.cutter x → IsWholePiece x piece
  pub last : (x : List ℕ) → StandsAtEnd old.cutter x → IsWholePiece x piece ⊎ IsLastPiece x piece
  pub gives : GivesAnswer old.session piece answer new.session
  pub comes_on : progress_of new ≡ after (progress_of old) (outcome_of answer new.session)
  pub starts_anew : StandsAt new.cutter []
  pub same_options : new.options ≡ old.options

-- no piece was ready, and nothing happened
pub record WaitsForMore (old new : Engine) : Type 0 where
  pub gap : (x : List ℕ) → StandsAtEnd old.cutter x → IsGap x
  pub not_ready : ready_piece old.cutter ≡ None
  pub same : new ≡ old

abbrev pub AnswersNext : Engine → Option (Result Reply Refusal) → Engine → Type 0
AnswersNext old None new = WaitsForMore old new
AnswersNext old (Some answer) new = AnswersPiece old answer new

abbrev pub echo_ready : Bool → Option PieceText → List ℕ
echo_ready echo None = []
echo_ready echo (Some piece) = echo_of echo piece

-- what the piece that is ready prints, if there is one: with echo itself, and then this answer
abbrev pub ready_lines : Engine → Option (Result Reply Refusal) → List ℕ
ready_lines old None = []
ready_lines old (Some answer) = echo_ready old.options.echo (ready_piece old.cutter) ++ answer_lines (old.pieces + 1) answer

-- what a piece of this number prints with this answer: with echo itself, and then the answer
abbrev pub piece_lines : Bool → ℕ → PieceText → Result Reply Refusal → List ℕ
piece_lines echo number piece answer = echo_of echo piece ++ answer_lines number answer

-- with bail the run stops at a refusal
abbrev pub flow_of : Bool → Option (Result Reply Refusal) → Flow
flow_of bail None = Goes
flow_of bail (Some answer) = if bail && is_err answer then Stops else Goes

-- the piece that is ready, if there is one, is answered and its lines are written
pub record AnswersReady (old new : Engine) (w v : Option (List ℕ)) (f g : ℕ) (result : Result Flow WriteFault) : Type 0 where
  pub answer : Option (Result Reply Refusal)
  pub answers : AnswersNext old answer new
  pub writes : Writes w v f g result (ready_lines old answer)
  pub flow : IfOk result (λ flow. flow ≡ flow_of old.options.bail answer)

-- the same, told by the writer before and after
abbrev pub AnswersReadyTo : {W : Type 0} → WriterMembers W → Engine → Engine → W → W → Result Flow WriteFault → Type 0
AnswersReadyTo w old new from to result = AnswersReady old new (w.written from) (w.written to) (w.faults from) (w.faults to) result

-- the pieces of a text, or those that have ended in it so far
abbrev pub CutInto : Bool → List ℕ → List PieceText → Type 0
CutInto true x pieces = EndedPieces x pieces
CutInto false x pieces = Pieces x pieces

-- from here on the pieces of the text print this, for some marks
abbrev pub Gives : Bool → Options → Progress → List ℕ → List ℕ → Status → Type 0
Gives so_far options p text out status =
    (marks : Marks) × ((pieces : List PieceText) × CutInto so_far text pieces × PrintsText options marks p pieces out status)

-- from x the engine took the bytes and printed the lines, and stands at y: whatever comes and is printed after
-- that, comes and is printed after these
pub record Moves (old : Engine) (x bytes lines : List ℕ) (new : Engine) (y : List ℕ) : Type 0 where
  pub stands : StandsAt new.cutter y
  pub same_options : new.options ≡ old.options
  pub leads : (so_far : Bool) (ahead out : List ℕ) (status : Status) → Gives so_far old.options (progress_of new) (y ++ ahead) out status
      → Gives so_far old.options (progress_of old) (x ++ (bytes ++ ahead)) (lines ++ out) status

-- the run ends with these lines, whatever comes after the bytes
abbrev pub StopsWith : Engine → List ℕ → List ℕ → List ℕ → Type 0
StopsWith old x bytes lines = (so_far : Bool) (ahead : List ℕ) → Gives so_far old.options (progress_of old) (x ++ (bytes ++ ahead)) lines Refused

-- the lines are a prefix of what is printed, whatever comes after the bytes
abbrev pub Reaches : Engine → List ℕ → List ℕ → List ℕ → Type 0
Reaches old x bytes lines = (so_far : Bool) (ahead : List ℕ)
    → (out : List ℕ) × (status : Status) × Gives so_far old.options (progress_of old) (x ++ (bytes ++ ahead)) (lines ++ out) status

abbrev pub FlowsOn : Flow → Engine → List ℕ → List ℕ → List ℕ → Engine → Type 0
FlowsOn Goes old x bytes lines new = (y : List ℕ) × Moves old x bytes lines new y
FlowsOn Stops old x bytes lines new = StopsWith old x bytes lines

-- all of the bytes were taken and the pieces that end in them answered, or a prefix of their lines was written
abbrev pub TakesAll : Engine → List ℕ → Engine → Option (List ℕ) → Option (List ℕ) → ℕ → ℕ → Result Flow WriteFault → Type 0
TakesAll old bytes new w v f g (Ok flow) =
    (lines : List ℕ) × WritesAll w v f g lines × ((x : List ℕ) → StandsAt old.cutter x → FlowsOn flow old x bytes lines new)
TakesAll old bytes new w v f g (Err fault) =
    (lines : List ℕ) × WritesPrefix w v f g lines × ((x : List ℕ) → StandsAt old.cutter x → Reaches old x bytes lines)

abbrev pub TakesAllTo : {W : Type 0} → WriterMembers W → Engine → List ℕ → Engine → W → W → Result Flow WriteFault → Type 0
TakesAllTo w old bytes new from to result = TakesAll old bytes new (w.written from) (w.written to) (w.faults from) (w.faults to) result

-- the input has ended, and the last piece is answered
abbrev pub Finishes : Engine → Option (List ℕ) → Option (List ℕ) → ℕ → ℕ → Result Status WriteFault → Type 0
Finishes old w v f g (Ok status) =
    (lines : List ℕ) × WritesAll w v f g lines × ((x : List ℕ) → StandsAt old.cutter x → Gives false old.options (progress_of old) x lines status)
Finishes old w v f g (Err fault) =
    (lines : List ℕ) × WritesPrefix w v f g lines × ((x : List ℕ) → StandsAt old.cutter x → (status : Status) × Gives false old.options (progress_of old) x lines status)

abbrev pub FinishesTo : {W : Type 0} → WriterMembers W → Engine → W → W → Result Status WriteFault → Type 0
FinishesTo w old from to result = Finishes old (w.written from) (w.written to) (w.faults from) (w.faults to) result
