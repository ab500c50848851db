-- What a script prints is determined, the dumps of its trees included (own).
use Rattle.std.specs.Prelude.{◌≡◌, ℕ, ◌≤◌, List, length}
use Rattle.rt_bytes.specs.declared.outcome.Status.{Status}
use Rattle.rt_check.specs.Shadow.{ShadowLists}
use Rattle.rt_sql_request.specs.declared.request.Stmt.{Stmt}
use Rattle.rt_table_row.specs.Rows.{TableRow}
use Rattle.rt_table_row.specs.Edits.{Step}
use Rattle.rt_table_store.specs.Trees.{FollowsSteps}
use Rattle.rt_session.specs.Session.{State, Outcome, Answers}
use Rattle.rt_shell.specs.declared.engine.Options.{Options}
use Rattle.rt_shell.specs.Transcript.{Marks, IsTranscriptByPieces, IsTranscript}
use Rattle.rt_laws.specs.ScriptLaws.{IsTranscriptSoFarByPieces}

-- steps lead a tree to one tree
abbrev pub StepsHaveOneAnswer : Type 0
StepsHaveOneAnswer = (axes : ℕ) (rows : List TableRow) (steps : List Step) (old one other : ShadowLists axes) →
    FollowsSteps rows steps old one → FollowsSteps rows steps old other → one ≡ other

-- a state and a statement have one outcome: the reply, the rows and the trees afterwards, or the refusal
abbrev pub StatementsHaveOneAnswer : Type 0
StatementsHaveOneAnswer = (old : State) (statement : Stmt) (one other : Outcome) →
    Answers old statement one → Answers old statement other → one ≡ other

-- the options, the pieces that memory refuses and the script determine each byte that is printed, piece by piece, and the
-- status in which the run ends
abbrev pub TranscriptIsDetermined : Type 0
TranscriptIsDetermined = (options : Options) (marks : Marks) (script : List ℕ) (one other : List (List ℕ)) (first second : Status) →
    IsTranscriptByPieces options marks script one first → IsTranscriptByPieces options marks script other second →
    (one ≡ other) × (first ≡ second)

-- the same of the text as a whole
abbrev pub TextIsOne : Type 0
TextIsOne = (options : Options) (marks : Marks) (script one other : List ℕ) (first second : Status) →
    IsTranscript options marks script one first → IsTranscript options marks script other second →
    (one ≡ other) × (first ≡ second)

-- Whoever reads or is fed the same bytes, in whatever parts, prints the same, as far as memory refuses the same pieces.
abbrev pub TranscriptSoFarIsDetermined : Type 0
TranscriptSoFarIsDetermined = (options : Options) (marks others : Marks) (read : List ℕ) (one other : List (List ℕ)) →
    IsTranscriptSoFarByPieces options marks read one → IsTranscriptSoFarByPieces options others read other →
    ((n : ℕ) → n ≤ length one → marks n ≡ others n) → one ≡ other
