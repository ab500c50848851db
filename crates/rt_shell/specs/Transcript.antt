-- What a run of a script prints (own). A script is a whole text, and the tables are plain lists.
use Rattle.std.specs.Prelude.{◌≡◌, ℕ, ◌+◌, Bool, true, false, ◌&&◌, ◌||◌, if◌then◌else◌, List, [], ◌∷◌, ◌++◌, Result, Ok, Err}
use Rattle.std.specs.Bool.{MatchBool}
use Rattle.std.specs.List.{concat}
use Rattle.std.specs.Result.{is_err}
use Rattle.rt_bytes.specs.declared.outcome.Status.{Status}
use Rattle.rt_bytes.specs.declared.outcome.Status.TheVariants.{Clean, Refused}
use Rattle.rt_sql_cut.specs.Pieces.{PieceText, Pieces, EndedPieces}
use Rattle.rt_sql.specs.Parse.{Parses}
use Rattle.rt_sql_request.specs.declared.request.Stmt.{Stmt}
use Rattle.rt_sql_statement.specs.declared.refusal.Refusal.{Refusal}
use Rattle.rt_sql_statement.specs.declared.refusal.Refusal.TheVariants.{OutOfMemory}
use Rattle.rt_shell.specs.declared.engine.Options.{Options}
use Rattle.rt_session.specs.Session.{State, empty, Outcome, state_after, Answers}
use Rattle.rt_shell_lines.specs.Lines.{reply_lines, refusal_line, echo_of}

-- which pieces memory refuses, by their numbers from 1 on
abbrev pub Marks : Type 0
Marks = ℕ → Bool

-- how far a run has come: its state, how many pieces it took, and whether it refused one
pub record Progress : Type 0 where
  pub state : State
  pub pieces : ℕ
  pub refused : Bool

abbrev pub start : Options → Progress
start options = record { state = empty options.capacity; pieces = 0; refused = false }

-- the outcomes of a piece that was parsed
abbrev pub AnswersParsed : State → Result Stmt Refusal → Outcome → Type 0
AnswersParsed old (Ok statement) outcome = Answers old statement outcome
AnswersParsed old (Err refusal) outcome = outcome ≡ Err refusal

-- the outcomes of a piece: memory refuses one that is marked
abbrev pub MayGive : Bool → State → PieceText → Outcome → Type 0
MayGive true old piece outcome = outcome ≡ Err OutOfMemory
MayGive false old piece outcome = (parsed : Result Stmt Refusal) × Parses piece parsed × AnswersParsed old parsed outcome

abbrev pub after : Progress → Outcome → Progress
after p outcome = record { state = state_after p.state outcome; pieces = p.pieces + 1; refused = p.refused || is_err outcome }

-- what the answer to the piece of this number prints
abbrev pub lines_of : ℕ → Outcome → List ℕ
lines_of number (Ok given) = reply_lines given.0
lines_of number (Err refusal) = refusal_line number refusal

-- what the piece of this number prints: with echo itself, and then its answer
abbrev pub part_of : Options → ℕ → PieceText → Outcome → List ℕ
part_of options number piece outcome = echo_of options.echo piece ++ lines_of number outcome

abbrev pub status_of : Progress → Status
status_of p = if p.refused then Refused else Clean

-- from here on, each piece prints its part, and they end in this status. With bail nothing comes after the first refusal.
abbrev pub Prints : Options → Marks → Progress → List PieceText → List (List ℕ) → Status → Type 0
Prints options marks p [] parts status = (parts ≡ []) × (status ≡ status_of p)
Prints options marks p (piece ∷ pieces) parts status =
    (outcome : Outcome) × MayGive (marks (p.pieces + 1)) p.state piece outcome
    × (later : List (List ℕ)) × (parts ≡ part_of options (p.pieces + 1) piece outcome ∷ later)
    × MatchBool (options.bail && is_err outcome) ((later ≡ []) × (status ≡ Refused)) (Prints options marks (after p outcome) pieces later status)

-- the parts in a row
abbrev pub PrintsText : Options → Marks → Progress → List PieceText → List ℕ → Status → Type 0
PrintsText options marks p pieces out status = (parts : List (List ℕ)) × Prints options marks p pieces parts status × (out ≡ concat parts)

-- the script's run prints these parts, one for each piece, and ends in this status, if memory refuses the pieces that are
-- marked
abbrev pub IsTranscriptByPieces : Options → Marks → List ℕ → List (List ℕ) → Status → Type 0
IsTranscriptByPieces options marks script parts status =
    (pieces : List PieceText) × Pieces script pieces × Prints options marks (start options) pieces parts status

-- the same as one text
abbrev pub IsTranscript : Options → Marks → List ℕ → List ℕ → Status → Type 0
IsTranscript options marks script out status =
    (parts : List (List ℕ)) × IsTranscriptByPieces options marks script parts status × (out ≡ concat parts)

-- the run of the pieces that have ended in what was read of a script
abbrev pub IsTranscriptSoFar : Options → Marks → List ℕ → List ℕ → Type 0
IsTranscriptSoFar options marks read out =
    (pieces : List PieceText) × EndedPieces read pieces × (status : Status) × PrintsText options marks (start options) pieces out status

-- the same, whichever pieces memory refuses
abbrev pub MayPrint : Options → List ℕ → List ℕ → Status → Type 0
MayPrint options script out status = (marks : Marks) × IsTranscript options marks script out status

abbrev pub MayPrintSoFar : Options → List ℕ → List ℕ → Type 0
MayPrintSoFar options read out = (marks : Marks) × IsTranscriptSoFar options marks read out
