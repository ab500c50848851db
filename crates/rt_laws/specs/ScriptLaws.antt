-- What holds of every script, over the definitions that the contracts cite (own).
use Rattle.std.specs.Prelude.{◌≡◌, ℕ, ◌+◌, Bool, true, false, ◌&&◌, List, [], ◌∷◌, ◌++◌, Result, Ok, Err}
use Rattle.std.specs.Bool.{MatchBool}
use Rattle.std.specs.List.{concat, AllZip}
use Rattle.std.specs.Result.{is_err}
use Rattle.rt_bytes.specs.declared.outcome.Status.{Status}
use Rattle.rt_bytes.specs.declared.outcome.Status.TheVariants.{Refused}
use Rattle.rt_sql_cut.specs.Pieces.{PieceText, Pieces, EndedPieces}
use Rattle.rt_check_dump.specs.declared.dump.AnyShadow.{AnyShadow}
use Rattle.rt_check_dump.specs.Dump.{any_text}
use Rattle.rt_sql.specs.Parse.{Parses}
use Rattle.rt_sql_request.specs.declared.request.Stmt.{Stmt}
use Rattle.rt_sql_statement.specs.declared.refusal.Refusal.{Refusal}
use Rattle.rt_sql_statement.specs.declared.refusal.Refusal.TheVariants.{OutOfMemory}
use Rattle.rt_reply.specs.declared.reply.Reply.{Reply}
use Rattle.rt_reply.specs.declared.reply.Reply.TheVariants.{Dump}
use Rattle.rt_session.specs.Session.{State, Outcome, answer, no_tree}
use Rattle.rt_shell.specs.declared.engine.Options.{Options}
use Rattle.rt_shell_lines.specs.Lines.{echo_of, reply_lines, refusal_line}
use Rattle.rt_shell.specs.Transcript.{Marks, Progress, start, after, Prints, status_of, IsTranscriptByPieces}
use Rattle.rt_shell.specs.declared.shell.Shell.{Shell}
use Rattle.rt_shell.specs.Shell.{HasPrinted}

-- of the pieces that have ended in what was read of a script, each prints its part
abbrev pub IsTranscriptSoFarByPieces : Options → Marks → List ℕ → List (List ℕ) → Type 0
IsTranscriptSoFarByPieces options marks read parts =
    (pieces : List PieceText) × EndedPieces read pieces × (status : Status) × Prints options marks (start options) pieces parts status

-- after each feed a shell has printed the transcript so far of all that it was fed, in whatever parts that came
abbrev pub ShellPrintsTheTranscriptSoFar : Type 0
ShellPrintsTheTranscriptSoFar =
    (options : Options) (shell : Shell) (fed out : List ℕ) → HasPrinted options shell fed out
    → (marks : Marks) × (parts : List (List ℕ)) × IsTranscriptSoFarByPieces options marks fed parts × (out ≡ concat parts)

-- ---- plain lists alone: no table's tree is looked at

-- what a piece prints over plain lists: just these bytes; or these, and then the dump of a tree that is left open
pub data PlainPart : Type 0 where
  just : List ℕ → PlainPart
  dump_after : List ℕ → PlainPart

-- a piece printed this part
abbrev pub IsPrinted : PlainPart → List ℕ → Type 0
IsPrinted (just lines) printed = printed ≡ lines
IsPrinted (dump_after echo) printed = (tree : AnyShadow) × (printed ≡ echo ++ any_text tree)

abbrev pub plain_reply : List ℕ → Reply → PlainPart
plain_reply echo (Dump tree) = dump_after echo
plain_reply echo reply = just (echo ++ reply_lines reply)

abbrev pub plain_part : Options → ℕ → PieceText → Outcome → PlainPart
plain_part options number piece (Ok given) = plain_reply (echo_of options.echo piece) given.0
plain_part options number piece (Err refusal) = just (echo_of options.echo piece ++ refusal_line number refusal)

abbrev pub PlainlyAnswersParsed : State → Result Stmt Refusal → Outcome → Type 0
PlainlyAnswersParsed old (Ok statement) outcome = outcome ≡ answer no_tree old statement
PlainlyAnswersParsed old (Err refusal) outcome = outcome ≡ Err refusal

abbrev pub PlainlyGives : Bool → State → PieceText → Outcome → Type 0
PlainlyGives true old piece outcome = outcome ≡ Err OutOfMemory
PlainlyGives false old piece outcome = (parsed : Result Stmt Refusal) × Parses piece parsed × PlainlyAnswersParsed old parsed outcome

abbrev pub PlainlyPrints : Options → Marks → Progress → List PieceText → List PlainPart → Status → Type 0
PlainlyPrints options marks p [] parts status = (parts ≡ []) × (status ≡ status_of p)
PlainlyPrints options marks p (piece ∷ pieces) parts status =
    (outcome : Outcome) × PlainlyGives (marks (p.pieces + 1)) p.state piece outcome
    × (later : List PlainPart) × (parts ≡ plain_part options (p.pieces + 1) piece outcome ∷ later)
    × MatchBool (options.bail && is_err outcome) ((later ≡ []) × (status ≡ Refused)) (PlainlyPrints options marks (after p outcome) pieces later status)

-- what each piece of a script prints over plain lists of rows
abbrev pub IsPlainTranscript : Options → Marks → List ℕ → List PlainPart → Status → Type 0
IsPlainTranscript options marks script parts status =
    (pieces : List PieceText) × Pieces script pieces × PlainlyPrints options marks (start options) pieces parts status

-- Whichever pieces memory refuses, a script has a transcript over plain lists, and whatever a run prints is that, piece by
-- piece.
abbrev pub EveryScriptHasAPlainTranscript : Type 0
EveryScriptHasAPlainTranscript =
    (options : Options) (marks : Marks) (script : List ℕ)
    → (parts : List PlainPart) × (status : Status) × IsPlainTranscript options marks script parts status
    × ((printed : List (List ℕ)) (answered : Status) → IsTranscriptByPieces options marks script printed answered
    → AllZip IsPrinted parts printed × (answered ≡ status))
