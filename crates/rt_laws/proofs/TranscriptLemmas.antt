-- What a run prints is what the script's run over plain lists prints, with some tree for each dump that is left open there;
-- and over plain lists there is a transcript for all marks.
use Rattle.std.proofs.Common.{◌≡◌, ◌∙◌, inl, inr, ℕ, ◌+◌, Bool, true, false, List, [], ◌∷◌, ◌++◌, Option, Some, None, Result, Ok, Err, refl, sym, ap, subst}
use Rattle.std.specs.Prelude.{◌&&◌, ◌||◌, if◌then◌else◌}
use Rattle.std.specs.Bool.{MatchBool}
use Rattle.std.specs.List.{AllZip}
use Rattle.std.specs.Result.{is_err}
use Rattle.rt_bytes.specs.declared.outcome.Status.{Status}
use Rattle.rt_bytes.specs.declared.outcome.Status.TheVariants.{Clean, Refused}
use Rattle.rt_sql_cut.specs.Pieces.{PieceText}
use Rattle.rt_sql_cut.proofs.CutterLaws.{cut_one_way, cut_somehow}
use Rattle.rt_check_dump.specs.declared.dump.AnyShadow.{AnyShadow}
use Rattle.rt_sql.proofs.Parses.{one_answer, some_answer}
use Rattle.rt_sql_request.specs.declared.request.Stmt.{Stmt}
use Rattle.rt_sql_statement.specs.declared.refusal.Refusal.{Refusal}
use Rattle.rt_sql_statement.specs.declared.refusal.Refusal.TheVariants.{OutOfMemory}
use Rattle.rt_reply.specs.declared.reply.Reply.{Reply}
use Rattle.rt_reply.specs.declared.reply.Reply.TheVariants.{Dump}
use Rattle.rt_session.specs.Session.{State, NamedTable, Outcome, table_of, state_after, answer, no_tree, Answers}
use Rattle.rt_shell.specs.declared.engine.Options.{Options}
use Rattle.rt_shell_lines.specs.Lines.{reply_lines, refusal_line, echo_of}
use Rattle.rt_shell.specs.Transcript.{Marks, Progress, start, AnswersParsed, MayGive, after, part_of, status_of, Prints}
use Rattle.rt_laws.specs.ScriptLaws.{PlainPart, IsPrinted, plain_reply, plain_part, PlainlyAnswersParsed, PlainlyGives, PlainlyPrints, EveryScriptHasAPlainTranscript}
use Rattle.rt_laws.proofs.SameTables.{SameTables, SameReply, SameAnswer, FoundRelated, AreRelated, both_answer}

-- ---- the parts of answers

-- as far, with tables that differ in their trees alone
abbrev SameProgress : Progress → Progress → Type 0
SameProgress p q = SameTables p.state q.state × (q.pieces ≡ p.pieces) × (q.refused ≡ p.refused)

-- whatever trees the tables have
abbrev AnyTrees : AnyShadow → AnyShadow → Type 0
AnyTrees tree given = Unit {0}

-- what is printed has the plain parts, and the status is one
abbrev PrintsParts : List (List ℕ) → List PlainPart → Status → Status → Type 0
PrintsParts printed parts first second = AllZip IsPrinted parts printed × (first ≡ second)

-- what a piece with this outcome and the later pieces print, if its part is told by the one function, and the later pieces
-- print by a rule
abbrev PartsFrom : {X : Type 0} → (Options → ℕ → PieceText → Outcome → X) → (List X → Status → Type 0) → Options → Progress → PieceText → Outcome →
    List X → Status → Type 0
PartsFrom {X} part Rest options p piece outcome parts status =
    (later : List X) × (parts ≡ part options (p.pieces + 1) piece outcome ∷ later)
    × MatchBool (options.bail && is_err outcome) ((later ≡ []) × (status ≡ Refused)) (Rest later status)

no_parts : (printed : List (List ℕ)) (parts : List PlainPart) → printed ≡ [] → parts ≡ [] → AllZip IsPrinted parts printed
no_parts printed parts is are = subst (λ ls. AllZip IsPrinted parts ls) (sym is) (subst (λ ps. AllZip IsPrinted ps []) (sym are) tt)

is_itself : (echo : List ℕ) (reply : Reply) → IsPrinted (plain_reply echo reply) (echo ++ reply_lines reply)
is_itself echo (Dump tree) = (tree, refl)
is_itself echo reply = refl

reply_printed : (echo : List ℕ) (one other : Reply) → SameReply AnyTrees one other → IsPrinted (plain_reply echo other) (echo ++ reply_lines one)
reply_printed echo one other (inl is) = subst (λ (r : Reply). IsPrinted (plain_reply echo r) (echo ++ reply_lines one)) is (is_itself echo one)
reply_printed echo one other (inr (tree, given, is, are, related)) =
    subst (λ (r : Reply). IsPrinted (plain_reply echo r) (echo ++ reply_lines one)) (sym are)
    (tree, ap (λ (r : Reply). echo ++ reply_lines r) is)

part_printed : (options : Options) (n : ℕ) (piece : PieceText) (o a : Outcome) → SameAnswer AnyTrees o a →
    IsPrinted (plain_part options n piece a) (part_of options n piece o)
part_printed options n piece (Ok one) (Ok other) same = reply_printed (echo_of options.echo piece) one.0 other.0 same.0
part_printed options n piece (Err one) (Err other) is = ap (λ (r : Refusal). echo_of options.echo piece ++ refusal_line n r) is
part_printed options n piece (Ok one) (Err other) none = absurd none
part_printed options n piece (Err one) (Ok other) none = absurd none

same_kind : (o a : Outcome) → SameAnswer AnyTrees o a → is_err a ≡ is_err o
same_kind (Ok one) (Ok other) same = refl
same_kind (Err one) (Err other) same = refl
same_kind (Ok one) (Err other) none = absurd none
same_kind (Err one) (Ok other) none = absurd none

same_after : (s u : State) → SameTables s u → (o a : Outcome) → SameAnswer AnyTrees o a → SameTables (state_after s o) (state_after u a)
same_after s u tables (Ok one) (Ok other) same = same.1
same_after s u tables (Err one) (Err other) same = tables
same_after s u tables (Ok one) (Err other) none = absurd none
same_after s u tables (Err one) (Ok other) none = absurd none

same_progress : (p q : Progress) → SameProgress p q → (o a : Outcome) → SameAnswer AnyTrees o a → SameProgress (after p o) (after q a)
same_progress p q same o a alike = (
  same_after p.state q.state same.0 o a alike,
  ap (λ n. n + 1) same.1,
  ap (λ b. b || is_err a) same.2 ∙ ap (λ b. p.refused || b) (same_kind o a alike),
)

-- the part of a piece that both answer alike, and the parts of the later pieces
parts_from : (options : Options) (p q : Progress) → SameProgress p q → (piece : PieceText) (o a : Outcome) → SameAnswer AnyTrees o a →
    (Mine : List (List ℕ) → Status → Type 0) (Plain : List PlainPart → Status → Type 0) →
    ((l : List (List ℕ)) (m : List PlainPart) (s t : Status) → Mine l s → Plain m t → PrintsParts l m s t) →
    (printed : List (List ℕ)) (parts : List PlainPart) (first second : Status) → PartsFrom part_of Mine options p piece o printed first →
    PartsFrom plain_part Plain options q piece a parts second → PrintsParts printed parts first second
parts_from options p q same piece o a alike Mine Plain rest printed parts first second (l, is, finish) (m, are, finished) =
    let finished_so : MatchBool (options.bail && is_err o) ((m ≡ []) × (second ≡ Refused)) (Plain m second) =
    subst (λ b. MatchBool (options.bail && b) ((m ≡ []) × (second ≡ Refused)) (Plain m second)) (same_kind o a alike) finished in
    let both : PrintsParts l m first second =
    elim (options.bail && is_err o) as
    (λ b. MatchBool b ((l ≡ []) × (first ≡ Refused)) (Mine l first) → MatchBool b ((m ≡ []) × (second ≡ Refused)) (Plain m second) → PrintsParts l m first second) [
      | true ↦ λ x y. (no_parts l m x.0 y.0, x.1 ∙ sym y.1)
      | false ↦ λ x y. rest l m first second x y
    ] finish finished_so
    in
    let plain : plain_part options (p.pieces + 1) piece a ∷ m ≡ parts = ap (λ n. plain_part options (n + 1) piece a ∷ m) (sym same.1) ∙ sym are in (
      subst (λ ls. AllZip IsPrinted parts ls) (sym is)
          (subst (λ ps. AllZip IsPrinted ps (part_of options (p.pieces + 1) piece o ∷ l)) plain (part_printed options (p.pieces + 1) piece o a alike, both.0)),
      both.1,
    )

-- an answer with some tree
answered : (old : State) (statement : Stmt) (outcome : Outcome) → Answers old statement outcome → (tree : AnyShadow) × (answer tree old statement ≡ outcome)
answered old statement (Ok given) (tree, is, may) = (tree, is)
answered old statement (Err refusal) is = (no_tree, is no_tree)

same_refusal : (refusal : Refusal) (o a : Outcome) → o ≡ Err refusal → a ≡ Err refusal → SameAnswer AnyTrees o a
same_refusal refusal o a is are = subst (λ x. SameAnswer AnyTrees x a) (sym is) (subst (λ x. SameAnswer AnyTrees (Err refusal) x) (sym are) refl)

-- ---- over plain lists

plain_related : (s u : State) → AreRelated AnyTrees s u
plain_related s u name = any_found (table_of s name) (table_of u name)
  where
    any_found : (one other : Option NamedTable) → FoundRelated AnyTrees one other
    any_found (Some t) (Some v) = tt
    any_found None other = tt
    any_found (Some t) None = tt

plain_parsed : (s u : State) → SameTables s u → (parsed : Result Stmt Refusal) (o a : Outcome) → AnswersParsed s parsed o → PlainlyAnswersParsed u parsed a → SameAnswer AnyTrees o a
plain_parsed s u same (Ok statement) o a g h =
    let mine = answered s statement o g in
    subst (λ x. SameAnswer AnyTrees x a) mine.1
    (subst (λ x. SameAnswer AnyTrees (answer mine.0 s statement) x) (sym h) (both_answer AnyTrees s u same (plain_related s u) mine.0 no_tree statement))
plain_parsed s u same (Err refusal) o a g h = same_refusal refusal o a g h

plain_given : (s u : State) → SameTables s u → (mark : Bool) (piece : PieceText) (o a : Outcome) → MayGive mark s piece o → PlainlyGives mark u piece a → SameAnswer AnyTrees o a
plain_given s u same true piece o a g h = same_refusal OutOfMemory o a g h
plain_given s u same false piece o a (p, first, g) (q, second, h) =
    plain_parsed s u same p o a g (subst (λ r. PlainlyAnswersParsed u r a) (one_answer piece q p second first) h)

plain_print : (options : Options) (marks : Marks) (p q : Progress) → SameProgress p q → (pieces : List PieceText) (printed : List (List ℕ)) (parts : List PlainPart) (first second : Status)
    → Prints options marks p pieces printed first → PlainlyPrints options marks q pieces parts second → PrintsParts printed parts first second
plain_print options marks p q same [] printed parts first second g h =
    (no_parts printed parts g.0 h.0, g.1 ∙ ap (λ b. if b then Refused else Clean) (sym same.2) ∙ sym h.1)
plain_print options marks p q same (piece ∷ pieces) printed parts first second (o, gives, l, is, finish) (a, given, m, are, finished) =
    let given_so : PlainlyGives (marks (p.pieces + 1)) q.state piece a = subst (λ n. PlainlyGives (marks (n + 1)) q.state piece a) same.1 given in
    let alike : SameAnswer AnyTrees o a = plain_given p.state q.state same.0 (marks (p.pieces + 1)) piece o a gives given_so in
    parts_from options p q same piece o a alike (Prints options marks (after p o) pieces) (PlainlyPrints options marks (after q a) pieces)
    (λ k n s t x y. plain_print options marks (after p o) (after q a) (same_progress p q same o a alike) pieces k n s t x y)
    printed parts first second (l, is, finish) (m, are, finished)

plainly_answered : (old : State) (parsed : Result Stmt Refusal) → (outcome : Outcome) × PlainlyAnswersParsed old parsed outcome
plainly_answered old (Ok statement) = (answer no_tree old statement, refl)
plainly_answered old (Err refusal) = (Err refusal, refl)

some_outcome : (mark : Bool) (old : State) (piece : PieceText) → (outcome : Outcome) × PlainlyGives mark old piece outcome
some_outcome true old piece = (Err OutOfMemory, refl)
some_outcome false old piece =
    let parsed = some_answer piece in
    let given = plainly_answered old parsed.0 in
    (given.0, (parsed.0, parsed.1, given.1))

abbrev PrintsSomething : Options → Marks → Progress → List PieceText → Type 0
PrintsSomething options marks p pieces = (parts : List PlainPart) × (status : Status) × PlainlyPrints options marks p pieces parts status

some_print_after : (options : Options) (marks : Marks) (p : Progress) (piece : PieceText) (pieces : List PieceText) (outcome : Outcome)
    → PlainlyGives (marks (p.pieces + 1)) p.state piece outcome → PrintsSomething options marks (after p outcome) pieces
    → (stops : Bool) → (options.bail && is_err outcome) ≡ stops → PrintsSomething options marks p (piece ∷ pieces)
some_print_after options marks p piece pieces outcome gives later true stops =
    (plain_part options (p.pieces + 1) piece outcome ∷ [], Refused, (outcome, gives, [], refl, rw stops (refl, refl)))
some_print_after options marks p piece pieces outcome gives later false goes =
    (plain_part options (p.pieces + 1) piece outcome ∷ later.0, later.1, (outcome, gives, later.0, refl, rw goes later.2))

some_print : (options : Options) (marks : Marks) (p : Progress) (pieces : List PieceText) → PrintsSomething options marks p pieces
some_print options marks p [] = ([], status_of p, (refl, refl))
some_print options marks p (piece ∷ pieces) =
    let given = some_outcome (marks (p.pieces + 1)) p.state piece in
    some_print_after options marks p piece pieces given.0 given.1 (some_print options marks (after p given.0) pieces) (options.bail && is_err given.0) refl

pub plain_transcript : EveryScriptHasAPlainTranscript
plain_transcript options marks script =
    let cut = cut_somehow script in
    let printed = some_print options marks (start options) cut.0 in (
      printed.0,
      printed.1,
      (cut.0, cut.1, printed.2),
      (λ lines answered transcript.
          let same : transcript.0 ≡ cut.0 = cut_one_way script transcript.0 cut.0 transcript.1 cut.1 in
          plain_print options marks (start options) (start options) ((refl, tt), refl, refl) cut.0 lines printed.0 answered printed.1
          (subst (λ ps. Prints options marks (start options) ps lines answered) same transcript.2) printed.2),
    )
