-- A script's transcript is determined, piece by piece.
use Rattle.std.proofs.Common.{◌≡◌, ◌∙◌, inl, inr, ℕ, ◌+◌, ◌≤◌, Bool, true, false, List, [], ◌∷◌, Result, Ok, Err, length, arith, refl, sym, ap, subst}
use Rattle.std.specs.Prelude.{◌&&◌}
use Rattle.std.specs.Bool.{MatchBool}
use Rattle.std.specs.List.{concat}
use Rattle.std.specs.Result.{is_err}
use Rattle.rt_bytes.specs.declared.outcome.Status.{Status}
use Rattle.rt_bytes.specs.declared.outcome.Status.TheVariants.{Refused}
use Rattle.rt_sql_cut.specs.Pieces.{PieceText, EndedPieces}
use Rattle.rt_sql_cut.proofs.CutterLaws.{cut_one_way}
use Rattle.rt_sql_cut.proofs.CutterRuns.{first_of, first_gap, first_whole, first_last}
use Rattle.rt_sql.proofs.Parses.{one_answer}
use Rattle.rt_sql_request.specs.declared.request.Stmt.{Stmt}
use Rattle.rt_sql_statement.specs.declared.refusal.Refusal.{Refusal}
use Rattle.rt_session.specs.Session.{State, Outcome}
use Rattle.rt_shell.specs.declared.engine.Options.{Options}
use Rattle.rt_shell.specs.Transcript.{Marks, Progress, start, AnswersParsed, MayGive, after, part_of, Prints}
use Rattle.rt_laws.specs.DumpLaws.{TranscriptIsDetermined, TextIsOne, TranscriptSoFarIsDetermined}
use Rattle.rt_laws.proofs.Statements.{statements_one}

parsed_one : (s : State) (parsed : Result Stmt Refusal) (o a : Outcome) → AnswersParsed s parsed o → AnswersParsed s parsed a → o ≡ a
parsed_one s (Ok statement) o a g h = statements_one s statement o a g h
parsed_one s (Err refusal) o a g h = g ∙ sym h

given_one : (mark : Bool) (s : State) (piece : PieceText) (o a : Outcome) → MayGive mark s piece o → MayGive mark s piece a → o ≡ a
given_one true s piece o a g h = g ∙ sym h
given_one false s piece o a (p, first, g) (q, second, h) =
    parsed_one s p o a g (subst (λ r. AnswersParsed s r a) (one_answer piece q p second first) h)

abbrev Later : Bool → (List (List ℕ) → Status → Type 0) → List (List ℕ) → Status → Type 0
Later stops Rest later status = MatchBool stops ((later ≡ []) × (status ≡ Refused)) (Rest later status)

later_one : (stops : Bool) (Rest : List (List ℕ) → Status → Type 0) → ((l m : List (List ℕ)) (s t : Status) → Rest l s → Rest m t → (l ≡ m) × (s ≡ t)) →
    (l m : List (List ℕ)) (s t : Status) → Later stops Rest l s → Later stops Rest m t → (l ≡ m) × (s ≡ t)
later_one true Rest rest l m s t g h = (g.0 ∙ sym h.0, g.1 ∙ sym h.1)
later_one false Rest rest l m s t g h = rest l m s t g h

pub prints_one : (options : Options) (marks : Marks) (p : Progress) (pieces : List PieceText) (one other : List (List ℕ)) (first second : Status) →
    Prints options marks p pieces one first → Prints options marks p pieces other second → (one ≡ other) × (first ≡ second)
prints_one options marks p [] one other first second g h = (g.0 ∙ sym h.0, g.1 ∙ sym h.1)
prints_one options marks p (piece ∷ pieces) one other first second (o, gives, l, is, more) (a, given, m, are, most) =
    let same : o ≡ a = given_one (marks (p.pieces + 1)) p.state piece o a gives given in
    let more_a = subst (λ (x : Outcome). Later (options.bail && is_err x) (Prints options marks (after p x) pieces) l first) same more in
    let rest = later_one (options.bail && is_err a) (Prints options marks (after p a) pieces)
    (λ k n s t x y. prints_one options marks (after p a) pieces k n s t x y) l m first second more_a most in (
      is ∙ ap (λ (x : Outcome). part_of options (p.pieces + 1) piece x ∷ l) same ∙ ap (λ ls. part_of options (p.pieces + 1) piece a ∷ ls) rest.0 ∙ sym are,
      rest.1,
    )

pub transcript_one : TranscriptIsDetermined
transcript_one options marks script one other first second (pieces, cut, prints) (others, parted, printed) =
    let same : others ≡ pieces = cut_one_way script others pieces parted cut in
    prints_one options marks (start options) pieces one other first second prints
    (subst (λ ps. Prints options marks (start options) ps other second) same printed)

pub text_one : TextIsOne
text_one options marks script one other first second (parts, transcript, is) (others, transcribed, are) =
    let same = transcript_one options marks script parts others first second transcript transcribed in
    (is ∙ ap concat same.0 ∙ sym are, same.1)

-- ---- a script that may go on

-- which pieces have ended in a text is determined
ended_one_way : (x : List ℕ) (ps qs : List PieceText) → EndedPieces x ps → EndedPieces x qs → ps ≡ qs
ended_one_way x [] [] h k = refl
ended_one_way x [] (q ∷ qs) (inl gap) k =
    let a = first_gap x gap in
    let b = ap first_of k.2 ∙ first_whole k.0 k.1 q k.3 in cc
ended_one_way x [] (q ∷ qs) (inr last) k =
    let a = first_last x last.0 last.1 in
    let b = ap first_of k.2 ∙ first_whole k.0 k.1 q k.3 in cc
ended_one_way x (p ∷ ps) [] h (inl gap) =
    let a = first_gap x gap in
    let b = ap first_of h.2 ∙ first_whole h.0 h.1 p h.3 in cc
ended_one_way x (p ∷ ps) [] h (inr last) =
    let a = first_last x last.0 last.1 in
    let b = ap first_of h.2 ∙ first_whole h.0 h.1 p h.3 in cc
ended_one_way x (p ∷ ps) (q ∷ qs) h k =
    let a = ap first_of h.2 ∙ first_whole h.0 h.1 p h.3 in
    let b = ap first_of k.2 ∙ first_whole k.0 k.1 q k.3 in
    let same_piece : p ≡ q = cc in
    let same_rest : h.1 ≡ k.1 = cc in
    let same_pieces = ended_one_way h.1 ps qs h.4 (subst (λ l. EndedPieces l qs) (sym same_rest) k.4) in cc

-- only the marks of pieces that print matter
remarked_as_far : (options : Options) (marks others : Marks) (p : Progress) (pieces : List PieceText) (parts : List (List ℕ)) (status : Status)
    → ((n : ℕ) → n ≤ p.pieces + length parts → marks n ≡ others n) → Prints options marks p pieces parts status → Prints options others p pieces parts status
remarked_as_far options marks others p [] parts status agree prints = prints
remarked_as_far options marks others p (piece ∷ pieces) parts status agree (outcome, gives, later, lines, more) =
    let counted : length parts ≡ length later + 1 = rw lines (omega arith) in (
      outcome,
      rw (agree (p.pieces + 1) (omega arith)) at gives,
      later,
      lines,
      elim (options.bail && is_err outcome) as
          (λ b. MatchBool b ((later ≡ []) × (status ≡ Refused)) (Prints options marks (after p outcome) pieces later status)
          → MatchBool b ((later ≡ []) × (status ≡ Refused)) (Prints options others (after p outcome) pieces later status)) [
            | true ↦ λ ends. ends
            | false ↦ λ goes. remarked_as_far options marks others (after p outcome) pieces later status (λ n le. agree n (omega arith)) goes
          ] more,
    )

pub so_far_one : TranscriptSoFarIsDetermined
so_far_one options marks others read one other (pieces, ended, first, prints) (parts, parted, second, printed) agree =
    let same : parts ≡ pieces = ended_one_way read parts pieces parted ended in
    (prints_one options others (start options) pieces one other first second
    (remarked_as_far options marks others (start options) pieces one first (λ n le. agree n (omega (arith, le))) prints)
    (subst (λ ps. Prints options others (start options) ps other second) same printed)).0
