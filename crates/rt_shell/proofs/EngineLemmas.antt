-- How an engine comes on through a script.
use Rattle.std.proofs.Common.{◌≡◌, ◌∙◌, ℕ, ◌+◌, ◌≤◌, Bool, true, false, List, [], ◌∷◌, ◌++◌, Option, Some, None, Result, Ok, Err, refl, sym, ap, subst, inl, inr, arith, rules, append_assoc, append-nil}
use Rattle.std.specs.Prelude.{◌<◌, ◌||◌, ◌&&◌, ◌⊎◌, if◌then◌else◌, nat_eq}
use Rattle.std.specs.Bool.{MatchBool}
use Rattle.std.proofs.lemmas.Bool.Decides.{nat_tests}
use Rattle.std.specs.List.{concat}
use Rattle.std.specs.Result.{is_err}
use Rattle.rt_sql_cut.specs.Pieces.{PieceText, IsGap, IsWholePiece, IsLastPiece, Pieces, EndedPieces}
use Rattle.rt_sql_cut.specs.Cutter.{Front, StandsAt, StandsAtEnd, ready_piece}
use Rattle.rt_sql_statement.specs.declared.refusal.Refusal.{Refusal}
use Rattle.rt_sql_statement.specs.declared.refusal.Refusal.TheVariants.{OutOfMemory}
use Rattle.rt_sql_cut.proofs.CutterFront.{nothing_ready}
use Rattle.rt_sql_cut.proofs.CutterLaws.{cut_somehow}
use Rattle.rt_bytes.specs.declared.device.WriteFault.{WriteFault}
use Rattle.rt_reply.specs.declared.reply.Reply.{Reply}
use Rattle.rt_shell.specs.declared.engine.Engine.{Engine}
use Rattle.rt_bytes.specs.declared.outcome.Status.{Status}
use Rattle.rt_bytes.specs.declared.outcome.Status.TheVariants.{Refused}
use Rattle.rt_shell.specs.declared.engine.Flow.{Flow}
use Rattle.rt_shell.specs.declared.engine.Flow.TheVariants.{Goes, Stops}
use Rattle.rt_shell.specs.declared.engine.Options.{Options}
use Rattle.rt_session.specs.Session.{State, Outcome}
use Rattle.rt_shell_lines.specs.Lines.{answer_lines, echo_of}
use Rattle.rt_shell.specs.Transcript.{Marks, Progress, MayGive, after, Prints, PrintsText, lines_of, part_of, status_of}
use Rattle.rt_shell.specs.Engine.{outcome_of, GivesAnswer, AnswersNext, progress_of, echo_ready, AnswersPiece, ready_lines, flow_of, CutInto, Gives, Moves, StopsWith, Reaches, AnswersReady, Finishes}

is_err-outcome_of : (answer : Result Reply Refusal) (new : State) → is_err (outcome_of answer new) ≡ is_err answer
is_err-outcome_of (Ok reply) new = refl
is_err-outcome_of (Err refusal) new = refl

-- the progress that an answer makes
after-outcome_of : (p : Progress) (piece : PieceText) (answer : Result Reply Refusal) (new : State) → GivesAnswer p.state piece answer new
    → (let next : Progress = record { state = new; pieces = p.pieces + 1; refused = p.refused || is_err answer } in next ≡ after p (outcome_of answer new))
after-outcome_of p piece answer new gives =
    ap (λ b. record { state = new; pieces = p.pieces + 1; refused = p.refused || b }) (sym (is_err-outcome_of answer new))
    ∙ ap (λ s. record { state = s; pieces = p.pieces + 1; refused = p.refused || is_err (outcome_of answer new) }) (sym gives.leaves)

-- the piece that was ready is answered, and the cutter starts anew
pub answers_piece : (old : Engine) (piece : PieceText) (answer : Result Reply Refusal) (c : Front) (state : State) (is_refused : Bool) → Some piece ≡ ready_piece old.cutter
    → ((x : List ℕ) → StandsAt old.cutter x → IsWholePiece x piece) → ((x : List ℕ) → StandsAtEnd old.cutter x → IsWholePiece x piece ⊎ IsLastPiece x piece)
    → GivesAnswer old.session piece answer state → is_refused ≡ is_err answer → StandsAt c []
    → AnswersPiece old answer (record old { cutter = c; session = state; pieces = old.pieces + 1; refused = old.refused || is_refused })
answers_piece old piece answer c state is_refused ready whole last gives refused anew = record {
  piece = piece;
  ready = sym ready;
  whole = whole;
  last = last;
  gives = gives;
  comes_on = rw refused (after-outcome_of (progress_of old) piece answer state gives);
  starts_anew = anew;
  same_options = refl;
}

pub part_ready : (old : Engine) (piece : PieceText) (answer : Result Reply Refusal) → Some piece ≡ ready_piece old.cutter
    → echo_of old.options.echo piece ++ answer_lines (old.pieces + 1) answer ≡ ready_lines old (Some answer)
part_ready old piece answer ready = ap (λ p. echo_ready old.options.echo p ++ answer_lines (old.pieces + 1) answer) ready

-- ---- marks

-- the marks, with this one for the piece of the number
marked : Marks → ℕ → Bool → Marks
marked marks number mark = λ n. if nat_eq n number then mark else marks n

marked-there : (marks : Marks) (number : ℕ) (mark : Bool) → marked marks number mark number ≡ mark
unfolding marked
marked-there marks number mark = grind (arith, nat_tests)

marked-later : (marks : Marks) (number : ℕ) (mark : Bool) (n : ℕ) → number < n → marked marks number mark n ≡ marks n
unfolding marked
marked-later marks number mark n later = grind (arith, nat_tests)

-- only the marks of pieces to come matter
remarked : (options : Options) (marks others : Marks) (p : Progress) (pieces : List PieceText) (parts : List (List ℕ)) (status : Status)
    → ((n : ℕ) → p.pieces < n → others n ≡ marks n) → Prints options marks p pieces parts status → Prints options others p pieces parts status
remarked options marks others p [] parts status agree prints = prints
remarked options marks others p (piece ∷ pieces) parts status agree (outcome, gives, later, lines, more) = (
  outcome,
  rw (agree (p.pieces + 1) (omega arith)) gives,
  later,
  lines,
  elim (options.bail && is_err outcome) as
      (λ b. MatchBool b ((later ≡ []) × (status ≡ Refused)) (Prints options marks (after p outcome) pieces later status)
      → MatchBool b ((later ≡ []) × (status ≡ Refused)) (Prints options others (after p outcome) pieces later status)) [
        | true ↦ λ ends. ends
        | false ↦ λ goes. remarked options marks others (after p outcome) pieces later status (λ n lt. agree n (omega arith)) goes
      ] more,
)

-- ---- the text of parts

-- the lines of a piece, and then the text of those after it
text_from : (options : Options) (marks : Marks) (p : Progress) (piece : PieceText) (pieces : List PieceText) (outcome : Outcome) → MayGive (marks (p.pieces + 1)) p.state piece outcome
    → (later out : List ℕ) (status : Status) → out ≡ part_of options (p.pieces + 1) piece outcome ++ later
    → MatchBool (options.bail && is_err outcome) ((later ≡ []) × (status ≡ Refused)) (PrintsText options marks (after p outcome) pieces later status)
    → PrintsText options marks p (piece ∷ pieces) out status
text_from options marks p piece pieces outcome gives later out status is more =
    let rest : (parts : List (List ℕ)) × (later ≡ concat parts)
    × MatchBool (options.bail && is_err outcome) ((parts ≡ []) × (status ≡ Refused)) (Prints options marks (after p outcome) pieces parts status) =
    elim (options.bail && is_err outcome) as
    (λ b. MatchBool b ((later ≡ []) × (status ≡ Refused)) (PrintsText options marks (after p outcome) pieces later status)
    → (parts : List (List ℕ)) × (later ≡ concat parts) × MatchBool b ((parts ≡ []) × (status ≡ Refused)) (Prints options marks (after p outcome) pieces parts status)) [
      | true ↦ λ ends. ([], ends.0, (refl, ends.1))
      | false ↦ λ goes. (goes.0, goes.2, goes.1)
    ] more
    in
    (part_of options (p.pieces + 1) piece outcome ∷ rest.0, (outcome, gives, rest.0, refl, rest.2), is ∙ ap (λ ls. part_of options (p.pieces + 1) piece outcome ++ ls) rest.1)

-- ---- every text is cut, and every list of pieces may print something

ended_of : (x : List ℕ) (pieces : List PieceText) → Pieces x pieces → (ended : List PieceText) × EndedPieces x ended
ended_of x [] gap = ([], inl gap)
ended_of x (piece ∷ pieces) (inl last) = ([], inr (piece, last.0))
ended_of x (piece ∷ pieces) (inr (front, rest, split, whole, more)) =
    let later = ended_of rest pieces more in
    (piece ∷ later.0, (front, rest, split, whole, later.1))

cut_in_some_way : (so_far : Bool) (x : List ℕ) → (pieces : List PieceText) × CutInto so_far x pieces
cut_in_some_way false x = cut_somehow x
cut_in_some_way true x = ended_of x _ (cut_somehow x).1

-- if memory refuses each piece
all_marked : Marks
all_marked = λ number. true

prints_somehow : (options : Options) (p : Progress) (pieces : List PieceText) → (parts : List (List ℕ)) × (status : Status) × Prints options all_marked p pieces parts status
unfolding all_marked
prints_somehow options p [] = ([], status_of p, (refl, refl))
prints_somehow options p (piece ∷ pieces) =
    let later = prints_somehow options (after p (Err OutOfMemory)) pieces in
    elim options.bail as
    (λ b. (parts : List (List ℕ)) × (status : Status) × ((outcome : Outcome) × MayGive true p.state piece outcome
    × (more : List (List ℕ)) × (parts ≡ part_of options (p.pieces + 1) piece outcome ∷ more)
    × MatchBool (b && is_err outcome) ((more ≡ []) × (status ≡ Refused)) (Prints options all_marked (after p outcome) pieces more status))) [
      | true ↦ (part_of options (p.pieces + 1) piece (Err OutOfMemory) ∷ [], Refused, (Err OutOfMemory, refl, [], refl, (refl, refl)))
      | false ↦ (part_of options (p.pieces + 1) piece (Err OutOfMemory) ∷ later.0, later.1, (Err OutOfMemory, refl, later.0, refl, later.2))
    ]

gives_somehow : (so_far : Bool) (options : Options) (p : Progress) (x : List ℕ) → (out : List ℕ) × (status : Status) × Gives so_far options p x out status
gives_somehow so_far options p x =
    let cut = cut_in_some_way so_far x in
    let printed = prints_somehow options p cut.0 in
    (concat printed.0, printed.1, (all_marked, (cut.0, cut.1, (printed.0, printed.2, refl))))

-- ---- steps

pub moves_nowhere : (e : Engine) (x : List ℕ) → StandsAt e.cutter x → Moves e x [] [] e x
moves_nowhere e x stands = record { stands = stands; same_options = refl; leads = λ so_far ahead out status gives. gives }

-- bytes that the cutter took
pub moves_by_feed : (e : Engine) (c : Front) (x taken : List ℕ) → StandsAt c (x ++ taken) → Moves e x taken [] (record e { cutter = c }) (x ++ taken)
moves_by_feed e c x taken stands = record {
  stands = stands;
  same_options = refl;
  leads = λ so_far ahead out status gives. rw (← append_assoc x taken ahead) gives;
}

pub moves_on : (old mid new : Engine) (x y z b c l m : List ℕ) → Moves old x b l mid y → Moves mid y c m new z → Moves old x (b ++ c) (l ++ m) new z
moves_on old mid new x y z b c l m first second = record {
  stands = second.stands;
  same_options = second.same_options ∙ first.same_options;
  leads = λ so_far ahead out status gives.
      let kept : Gives so_far mid.options (progress_of new) (z ++ ahead) out status = rw first.same_options gives in
      let later = second.leads so_far ahead out status kept in
      let led : Gives so_far old.options (progress_of mid) (y ++ (c ++ ahead)) (m ++ out) status = rw (← first.same_options) later in
      rw (append_assoc b c ahead, append_assoc l m out) (first.leads so_far (c ++ ahead) (m ++ out) status led);
}

pub stops_after : (old mid : Engine) (x y b l m rest : List ℕ) → Moves old x b l mid y → StopsWith mid y [] m → StopsWith old x (b ++ rest) (l ++ m)
stops_after old mid x y b l m rest first stops so_far ahead =
    let led : Gives so_far old.options (progress_of mid) (y ++ (rest ++ ahead)) m Refused = rw (← first.same_options) (stops so_far (rest ++ ahead)) in
    rw (append_assoc b rest ahead) (first.leads so_far (rest ++ ahead) m Refused led)

pub reaches_after : (old mid : Engine) (x y b l m rest : List ℕ) → Moves old x b l mid y → Reaches mid y [] m → Reaches old x (b ++ rest) (l ++ m)
reaches_after old mid x y b l m rest first reaches so_far ahead =
    let later = reaches so_far (rest ++ ahead) in
    let led : Gives so_far old.options (progress_of mid) (y ++ (rest ++ ahead)) (m ++ later.0) later.1 = rw (← first.same_options) later.2 in
    (later.0, later.1, rw (append_assoc b rest ahead, append_assoc l m later.0) (first.leads so_far (rest ++ ahead) (m ++ later.0) later.1 led))

pub reaches_from : (old new : Engine) (x y b l : List ℕ) → Moves old x b l new y → Reaches old x b l
reaches_from old new x y b l moves so_far ahead =
    let later = gives_somehow so_far old.options (progress_of new) (y ++ ahead) in
    (later.0, later.1, moves.leads so_far ahead later.0 later.1 later.2)

-- ---- an answered piece

cut_more : (so_far : Bool) (x rest : List ℕ) (piece : PieceText) (pieces : List PieceText) → IsWholePiece x piece → CutInto so_far rest pieces → CutInto so_far (x ++ rest) (piece ∷ pieces)
cut_more true x rest piece pieces whole cut = (x, rest, refl, whole, cut)
cut_more false x rest piece pieces whole cut = inr (x, rest, refl, whole, cut)

lines_of-outcome_of : (n : ℕ) (answer : Result Reply Refusal) (new : State) → lines_of n (outcome_of answer new) ≡ answer_lines n answer
lines_of-outcome_of n (Ok reply) new = refl
lines_of-outcome_of n (Err refusal) new = refl

-- what the piece prints that was ready
ready_part : (old : Engine) (answer : Result Reply Refusal) (new : Engine) → (answers : AnswersPiece old answer new)
    → ready_lines old (Some answer) ≡ part_of old.options (old.pieces + 1) answers.piece (outcome_of answer new.session)
ready_part old answer new answers =
    ap (λ p. echo_ready old.options.echo p ++ answer_lines (old.pieces + 1) answer) answers.ready
    ∙ ap (λ ls. echo_of old.options.echo answers.piece ++ ls) (sym (lines_of-outcome_of (old.pieces + 1) answer new.session))

goes_on : (bail : Bool) (answer : Result Reply Refusal) (new : State) → flow_of bail (Some answer) ≡ Goes → (bail && is_err (outcome_of answer new)) ≡ false
goes_on false answer new flow = refl
goes_on true (Ok reply) new flow = refl
goes_on true (Err refusal) new flow = cc

stops_here : (bail : Bool) (answer : Result Reply Refusal) (new : State) → flow_of bail (Some answer) ≡ Stops → (bail && is_err (outcome_of answer new)) ≡ true
stops_here false answer new flow = cc
stops_here true (Ok reply) new flow = cc
stops_here true (Err refusal) new flow = refl

pub moves_by_answer : (old : Engine) (answer : Option (Result Reply Refusal)) (new : Engine) (x : List ℕ) → StandsAt old.cutter x → AnswersNext old answer new
    → flow_of old.options.bail answer ≡ Goes → (y : List ℕ) × Moves old x [] (ready_lines old answer) new y
moves_by_answer old None new x stands waits flow = (x, rw waits.same (moves_nowhere old x stands))
moves_by_answer old (Some answer) new x stands answers flow = (
  [],
  record {
    stands = answers.starts_anew;
    same_options = answers.same_options;
    leads = λ so_far ahead out status gives.
        let outcome = outcome_of answer new.session in
        let number = old.pieces + 1 in
        let mark = answers.gives.mark in
        let marks = marked gives.0 number mark in
        let on : PrintsText old.options gives.0 (after (progress_of old) outcome) gives.1.0 out status = rw (← answers.comes_on) gives.1.2 in
        let on_here : PrintsText old.options marks (after (progress_of old) outcome) gives.1.0 out status =
        (on.0, remarked old.options gives.0 marks (after (progress_of old) outcome) gives.1.0 on.0 status (λ n lt. marked-later gives.0 number mark n lt) on.1, on.2) in
        let here : MayGive (marks number) old.session answers.piece outcome = rw (marked-there gives.0 number mark) answers.gives.gives in
        let kept = goes_on old.options.bail answer new.session flow in (
          marks,
          (
            answers.piece ∷ gives.1.0,
            cut_more so_far x ahead answers.piece gives.1.0 (answers.whole x stands) gives.1.1,
            text_from old.options marks (progress_of old) answers.piece gives.1.0 outcome here out _ status (ap (λ ls. ls ++ out) (ready_part old answer new answers)) (rw kept on_here),
          ),
        );
  },
)

pub stops_by_answer : (old : Engine) (answer : Option (Result Reply Refusal)) (new : Engine) (x : List ℕ) → StandsAt old.cutter x → AnswersNext old answer new
    → flow_of old.options.bail answer ≡ Stops → StopsWith old x [] (ready_lines old answer)
stops_by_answer old None new x stands waits flow so_far ahead = absurd (let none : ⊥ = cc in none)
stops_by_answer old (Some answer) new x stands answers flow so_far ahead =
    let cut = cut_in_some_way so_far ahead in
    let outcome = outcome_of answer new.session in
    let stop = stops_here old.options.bail answer new.session flow in (
      (λ number. answers.gives.mark),
      (
        answers.piece ∷ cut.0,
        cut_more so_far x ahead answers.piece cut.0 (answers.whole x stands) cut.1,
        text_from old.options (λ number. answers.gives.mark) (progress_of old) answers.piece cut.0 outcome answers.gives.gives [] _ Refused
            (ready_part old answer new answers ∙ sym (append-nil _)) (rw stop (refl, refl)),
      ),
    )

pub reaches_by_answer : (old : Engine) (answer : Option (Result Reply Refusal)) (new : Engine) (x : List ℕ) → StandsAt old.cutter x → AnswersNext old answer new
    → Reaches old x [] (ready_lines old answer)
reaches_by_answer old answer new x stands answers =
    elim (flow_of old.options.bail answer) as (λ flow. flow_of old.options.bail answer ≡ flow → Reaches old x [] (ready_lines old answer)) [
      | Goes ↦ λ goes. let moves = moves_by_answer old answer new x stands answers goes in reaches_from old new x moves.0 [] _ moves.1
      | Stops ↦ λ stops so_far ahead.
          let gives = stops_by_answer old answer new x stands answers stops so_far ahead in
          ([], Refused, rw (append-nil (ready_lines old answer)) gives)
    ] refl

-- ---- the end of the input

empty_gap : IsGap []
empty_gap = ([], [], refl, ([], refl, search rules), inl refl)

only_piece : (x : List ℕ) (piece : PieceText) → IsWholePiece x piece ⊎ IsLastPiece x piece → Pieces x (piece ∷ [])
only_piece x piece (inl whole) = inr (x, [], sym (append-nil x), whole, empty_gap)
only_piece x piece (inr last) = inl (last, refl)

or-true : (b : Bool) → (b || true) ≡ true
or-true true = refl
or-true false = refl

abbrev no_lines : List ℕ
no_lines = []

-- no piece is left
prints_none : (options : Options) (marks : Marks) (p : Progress) (status : Status) → status ≡ status_of p → PrintsText options marks p [] [] status
prints_none options marks p status is = ([], (refl, is), refl)

last_of_all : (options : Options) (marks : Marks) (bail : Bool) (p : Progress) (outcome : Outcome)
    → MatchBool (bail && is_err outcome) ((no_lines ≡ []) × (status_of (after p outcome) ≡ Refused)) (PrintsText options marks (after p outcome) [] no_lines (status_of (after p outcome)))
last_of_all options marks true p (Err refusal) = (refl, rw (or-true p.refused) refl)
last_of_all options marks false p (Err refusal) = prints_none options marks (after p (Err refusal)) _ refl
last_of_all options marks true p (Ok given) = prints_none options marks (after p (Ok given)) _ refl
last_of_all options marks false p (Ok given) = prints_none options marks (after p (Ok given)) _ refl

prints_last : (options : Options) (marks : Marks) (p : Progress) (piece : PieceText) (outcome : Outcome) → MayGive (marks (p.pieces + 1)) p.state piece outcome
    → PrintsText options marks p (piece ∷ []) (part_of options (p.pieces + 1) piece outcome) (status_of (after p outcome))
prints_last options marks p piece outcome gives =
    text_from options marks p piece [] outcome gives no_lines (part_of options (p.pieces + 1) piece outcome) (status_of (after p outcome)) (sym (append-nil _)) (last_of_all options marks options.bail p outcome)

pub gives_at_end : (old : Engine) (answer : Option (Result Reply Refusal)) (new : Engine) (x : List ℕ) → StandsAtEnd old.cutter x → AnswersNext old answer new
    → Gives false old.options (progress_of old) x (ready_lines old answer) (status_of (progress_of new))
gives_at_end old None new x finished waits =
    (all_marked, ([], waits.gap x finished, prints_none old.options all_marked (progress_of old) (status_of (progress_of new)) (ap (λ e. status_of (progress_of e)) waits.same)))
gives_at_end old (Some answer) new x finished answers =
    let marks : Marks = λ number. answers.gives.mark in
    let outcome = outcome_of answer new.session in
    let prints = prints_last old.options marks (progress_of old) answers.piece outcome answers.gives.gives in (
      marks,
      (
        answers.piece ∷ [],
        only_piece x answers.piece (answers.last x finished),
        subst (λ (q : Progress). PrintsText old.options marks (progress_of old) (answers.piece ∷ []) (ready_lines old (Some answer)) (status_of q)) (sym answers.comes_on)
            (subst (λ (out : List ℕ). PrintsText old.options marks (progress_of old) (answers.piece ∷ []) out (status_of (after (progress_of old) outcome)))
            (sym (ready_part old answer new answers)) prints),
      ),
    )

pub finishes_ok : (old : Engine) (c : Front) (new : Engine) (w v : Option (List ℕ)) (f g : ℕ) (flow : Flow) → ((x : List ℕ) → StandsAt old.cutter x → StandsAtEnd c x)
    → AnswersReady (record old { cutter = c }) new w v f g (Ok flow) → Finishes old w v f g (Ok (status_of (progress_of new)))
finishes_ok old c new w v f g flow ends ready =
    (ready_lines (record old { cutter = c }) ready.answer, ready.writes, λ x stands. gives_at_end (record old { cutter = c }) ready.answer new x (ends x stands) ready.answers)

pub finishes_err : (old : Engine) (c : Front) (new : Engine) (w v : Option (List ℕ)) (f g : ℕ) (fault : WriteFault) → ((x : List ℕ) → StandsAt old.cutter x → StandsAtEnd c x)
    → AnswersReady (record old { cutter = c }) new w v f g (Err fault) → Finishes old w v f g (Err fault)
finishes_err old c new w v f g fault ends ready = (
  ready_lines (record old { cutter = c }) ready.answer,
  ready.writes,
  λ x stands. (status_of (progress_of new), gives_at_end (record old { cutter = c }) ready.answer new x (ends x stands) ready.answers),
)

-- ---- one turn of a loop over bytes

pub moves_step : (old now : Engine) (c : Front) (answer : Option (Result Reply Refusal)) (new : Engine) (x y b l taken : List ℕ)
    → Moves old x b l now y → StandsAt c (y ++ taken) → AnswersNext (record now { cutter = c }) answer new → flow_of now.options.bail answer ≡ Goes
    → (z : List ℕ) × Moves old x (b ++ taken) (l ++ ready_lines (record now { cutter = c }) answer) new z
moves_step old now c answer new x y b l taken first stands answers goes =
    let fed = moves_on old now (record now { cutter = c }) x y (y ++ taken) b taken l [] first (moves_by_feed now c y taken stands) in
    let answered = moves_by_answer (record now { cutter = c }) answer new (y ++ taken) stands answers goes in
    let on = moves_on old (record now { cutter = c }) new x (y ++ taken) answered.0 (b ++ taken) [] (l ++ []) (ready_lines (record now { cutter = c }) answer) fed answered.1 in
    (answered.0, rw (append-nil (b ++ taken), append-nil l) at on)

pub stops_step : (old now : Engine) (c : Front) (answer : Option (Result Reply Refusal)) (new : Engine) (x y b l taken rest : List ℕ)
    → Moves old x b l now y → StandsAt c (y ++ taken) → AnswersNext (record now { cutter = c }) answer new → flow_of now.options.bail answer ≡ Stops
    → StopsWith old x (b ++ (taken ++ rest)) (l ++ ready_lines (record now { cutter = c }) answer)
stops_step old now c answer new x y b l taken rest first stands answers stops =
    let fed = moves_on old now (record now { cutter = c }) x y (y ++ taken) b taken l [] first (moves_by_feed now c y taken stands) in
    let stop = stops_by_answer (record now { cutter = c }) answer new (y ++ taken) stands answers stops in
    rw (← append_assoc b taken rest, ← append-nil l) (stops_after old (record now { cutter = c }) x (y ++ taken) (b ++ taken) (l ++ []) (ready_lines (record now { cutter = c }) answer) rest fed stop)

pub reaches_step : (old now : Engine) (c : Front) (answer : Option (Result Reply Refusal)) (new : Engine) (x y b l taken rest : List ℕ)
    → Moves old x b l now y → StandsAt c (y ++ taken) → AnswersNext (record now { cutter = c }) answer new
    → Reaches old x (b ++ (taken ++ rest)) (l ++ ready_lines (record now { cutter = c }) answer)
reaches_step old now c answer new x y b l taken rest first stands answers =
    let fed = moves_on old now (record now { cutter = c }) x y (y ++ taken) b taken l [] first (moves_by_feed now c y taken stands) in
    let reach = reaches_by_answer (record now { cutter = c }) answer new (y ++ taken) stands answers in
    rw (← append_assoc b taken rest, ← append-nil l) (reaches_after old (record now { cutter = c }) x (y ++ taken) (b ++ taken) (l ++ []) (ready_lines (record now { cutter = c }) answer) rest fed reach)

pub idle_after : (old : Engine) (answer : Option (Result Reply Refusal)) (new : Engine) → AnswersNext old answer new → ready_piece new.cutter ≡ None
idle_after old None new waits = rw waits.same waits.not_ready
idle_after old (Some answer) new answers = nothing_ready new.cutter answers.starts_anew

pub pieces_grow : (old : Engine) (answer : Option (Result Reply Refusal)) (new : Engine) → AnswersNext old answer new → new.pieces ≤ old.pieces + 1
pieces_grow old None new waits = rw waits.same (omega arith)
pieces_grow old (Some answer) new answers =
    let same : new.pieces ≡ old.pieces + 1 = ap (λ (p : Progress). p.pieces) answers.comes_on in
    omega arith
