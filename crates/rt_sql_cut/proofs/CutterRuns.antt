-- What a run over a text's bytes gives, for each relation that cuts it.
use Rattle.std.proofs.Common.{◌≡◌, ◌≢◌, ℕ, Bool, true, false, cond, eqb, List, [], ◌∷◌, ◌++◌, Option, Some, None, ◌⊎◌, inl, inr, sym, refl, ap, ◌∙◌, subst, ⊎_elim, append_assoc, append-nil, All}
use Rattle.std.proofs.lemmas.Bool.{cases_eq, eqb-true, eq-eqb, ne_eqb, or_cases, cond-true, cond-false, true≢false}
use Rattle.std.proofs.lemmas.List.Elements.{All-head, All-tail}
use Rattle.rt_sql_cut.specs.Pieces.{PieceText, Atom, Byte, Line, Block, Quoted as QuotedAtom, atom_text, atoms_text, IsComment, IsOpenComment, IsGapAtom, IsClosedGap, IsGap, IsAtom, AreAtoms, is_gap_byte, IsOpenQuote, BeginsStatement, IsOpenStatement, IsStatement, IsDotLine, IsWholePiece, IsLastPiece, piece_from}
use Rattle.rt_sql_cut.specs.Text.{Lacks, BeginsComment, is_quote}
use Rattle.rt_sql_cut.specs.Cutter.{last_ending}
use Rattle.rt_sql_cut.specs.CutterStep.{place_after, gap_after, statement_after}
use Rattle.rt_sql_cut.proofs.CutterAtoms.{IsUnclosed, IsUnclosed-from}
use Rattle.rt_sql_cut.specs.declared.piece.Ending.{Ending}
use Rattle.rt_sql_cut.specs.declared.piece.Ending.TheVariants.{Whole, Incomplete}
use Rattle.rt_sql_cut.specs.declared.cutter.Part.{Part}
use Rattle.rt_sql_cut.specs.declared.cutter.Part.TheVariants.{Gap, Statement}
use Rattle.rt_sql_cut.specs.declared.cutter.Spot.{Spot}
use Rattle.rt_sql_cut.specs.declared.cutter.Spot.TheVariants.{Between, AfterDash, AfterSlash, LineComment, BlockComment, AfterStar}
use Rattle.rt_sql_cut.specs.declared.cutter.Place.{Place}
use Rattle.rt_sql_cut.specs.declared.cutter.Place.TheVariants.{In, Quoted, DotLine, End}

-- what a text begins with: a piece and the text after it, or a piece to its end, or nothing but a gap
pub data Outcome : Type 0 where
  piece_then : PieceText → List ℕ → Outcome
  last_piece : PieceText → Outcome
  no_piece : Outcome

-- where the text ends, with these bytes of a piece, which ends so
abbrev outcome_of : List ℕ → Option Ending → Outcome
outcome_of body None = no_piece
outcome_of body (Some ending) = last_piece (piece_from body ending)

-- the bytes of a piece in a gap or a statement
abbrev body_in : Part → List ℕ → List ℕ
body_in Gap body = []
body_in Statement body = body

-- the bytes of a piece after one more, which led to this place
abbrev body_after : Place → List ℕ → ℕ → List ℕ
body_after (In part AfterDash) body b = body ++ b ∷ []
body_after (In part AfterSlash) body b = body ++ b ∷ []
body_after (In part Between) body b = body_in part (body ++ b ∷ [])
body_after (In part LineComment) body b = body_in part (body ++ b ∷ [])
body_after (In part BlockComment) body b = body_in part (body ++ b ∷ [])
body_after (In part AfterStar) body b = body_in part (body ++ b ∷ [])
body_after (Quoted quote) body b = body ++ b ∷ []
body_after DotLine body b = body ++ b ∷ []
body_after End body b = cond (eqb b 10) body (body ++ b ∷ [])

-- the one at an end, the other elsewhere
abbrev end_or : Place → Outcome → Outcome → Outcome
end_or (In part spot) ended on = on
end_or (Quoted quote) ended on = on
end_or DotLine ended on = on
end_or End ended on = ended

-- the first piece, from a place on, with these bytes of it so far
abbrev first_piece : Place → List ℕ → List ℕ → Outcome
first_piece place body [] = outcome_of body (last_ending place)
first_piece place body (b ∷ bs) =
    end_or (place_after place b) (piece_then (piece_from (body_after (place_after place b) body b) Whole) bs) (first_piece (place_after place b) (body_after (place_after place b) body b) bs)

-- the first piece of a whole text
abbrev pub first_of : List ℕ → Outcome
first_of x = first_piece (In Gap Between) [] x

-- what comes after a byte that leads to a place
abbrev outcome_at : List ℕ → ℕ → List ℕ → Place → Outcome
outcome_at body b bs to =
    end_or to (piece_then (piece_from (body_after to body b) Whole) bs) (first_piece to (body_after to body b) bs)

-- one byte
leads : (place to : Place) (body : List ℕ) (b : ℕ) (bs : List ℕ) → place_after place b ≡ to → first_piece place body (b ∷ bs) ≡ outcome_at body b bs to
leads place to body b bs e = ap (outcome_at body b bs) e

-- the bytes of a piece in a gap or a statement, and more
body_in-more : (part : Part) (body more : List ℕ) → body_in part (body_in part body ++ more) ≡ body_in part (body ++ more)
body_in-more Gap body more = refl
body_in-more Statement body more = refl

-- the bytes of a piece, and more of them one by one
body_in-step : (part : Part) (body : List ℕ) (b : ℕ) (text : List ℕ) → body_in part (body ++ b ∷ [] ++ text) ≡ body_in part (body ++ b ∷ text)
body_in-step part body b text = ap (body_in part) (append_assoc body (b ∷ []) text)

-- the bytes of a `--` comment
run_line : (part : Part) (body text rest : List ℕ) → Lacks 10 text → first_piece (In part LineComment) (body_in part body) (text ++ rest) ≡ first_piece (In part LineComment) (body_in part (body ++ text)) rest
run_line part body [] rest lacks =
    ap (λ l. first_piece (In part LineComment) (body_in part l) rest) (sym (append-nil body))
run_line part body (c ∷ text) rest lacks =
    let other : eqb c 10 ≡ false = ne_eqb c 10 (All-head (λ c. c ≢ 10) c text lacks) in
    leads (In part LineComment) (In part LineComment) (body_in part body) c (text ++ rest) (ap (λ v. In part (cond v Between LineComment)) other) ∙ ap (λ l. first_piece (In part LineComment) l (text ++ rest)) (body_in-more part body (c ∷ [])) ∙ run_line part (body ++ c ∷ []) text rest (All-tail (λ c. c ≢ 10) c text lacks) ∙ ap (λ l. first_piece (In part LineComment) l rest) (body_in-step part body c text)

-- in a `/*` comment, after a star or not
abbrev spot_of : Bool → Spot
spot_of star = cond star AfterStar BlockComment

abbrev with_star : Bool → List ℕ → List ℕ
with_star true text = 42 ∷ text
with_star false text = text

abbrev ends_in_star : Bool → List ℕ → Bool
ends_in_star star [] = star
ends_in_star star (c ∷ text) = ends_in_star (eqb c 42) text

-- after one byte of a `/*` comment
block_step : (part : Part) (star : Bool) (c : ℕ) (text : List ℕ) → IsUnclosed (with_star star (c ∷ text)) → place_after (In part (spot_of star)) c ≡ In part (spot_of (eqb c 42))
block_step part false c text u = refl
block_step part true c text u =
    let not_slash : eqb c 47 ≡ false = ne_eqb c 47 (λ e. u.0 (refl, e)) in
    ap (λ spot. In part spot) (cond-false (eqb c 47) Between (spot_of (eqb c 42)) not_slash)

body_after-block : (part : Part) (star : Bool) (body : List ℕ) (b : ℕ) → body_after (In part (spot_of star)) body b ≡ body_in part (body ++ b ∷ [])
body_after-block part false body b = refl
body_after-block part true body b = refl

-- what follows a byte is unclosed still
unclosed_tail : (c : ℕ) (text : List ℕ) → IsUnclosed (c ∷ text) → IsUnclosed text
unclosed_tail c [] u = tt
unclosed_tail c (d ∷ text) u = u.1

unclosed_rest : (star : Bool) (text : List ℕ) → IsUnclosed (with_star star text) → IsUnclosed text
unclosed_rest false text u = u
unclosed_rest true text u = unclosed_tail 42 text u

unclosed_next : (star : Bool) (c : ℕ) (text : List ℕ) → IsUnclosed (with_star star (c ∷ text)) → IsUnclosed (with_star (eqb c 42) text)
unclosed_next star c text u =
    let u' = unclosed_rest star (c ∷ text) u in
    elim (eqb c 42) as (λ v. eqb c 42 ≡ v → IsUnclosed (with_star v text)) [
      | true ↦ λ is. subst (λ a. IsUnclosed (a ∷ text)) (eqb-true c 42 is) u'
      | false ↦ λ is. unclosed_tail c text u'
    ] refl

-- the bytes of a `/*` comment
run_block : (part : Part) (star : Bool) (body text rest : List ℕ) → IsUnclosed (with_star star text) → first_piece (In part (spot_of star)) (body_in part body) (text ++ rest) ≡ first_piece (In part (spot_of (ends_in_star star text))) (body_in part (body ++ text)) rest
run_block part star body [] rest u =
    ap (λ l. first_piece (In part (spot_of star)) (body_in part l) rest) (sym (append-nil body))
run_block part star body (c ∷ text) rest u =
    leads (In part (spot_of star)) (In part (spot_of (eqb c 42))) (body_in part body) c (text ++ rest) (block_step part star c text u) ∙ ap (λ l. first_piece (In part (spot_of (eqb c 42))) l (text ++ rest)) (body_after-block part (eqb c 42) (body_in part body) c ∙ body_in-more part body (c ∷ [])) ∙ run_block part (eqb c 42) (body ++ c ∷ []) text rest (unclosed_next star c text u) ∙ ap (λ l. first_piece (In part (spot_of (ends_in_star (eqb c 42) text))) l rest) (body_in-step part body c text)

ends_in_star-push : (star : Bool) (text : List ℕ) → ends_in_star star (text ++ 42 ∷ []) ≡ true
ends_in_star-push star [] = refl
ends_in_star-push star (c ∷ text) = ends_in_star-push (eqb c 42) text

-- the bytes in quotes
run_quote : (quote : ℕ) (body text rest : List ℕ) → Lacks quote text → first_piece (Quoted quote) body (text ++ rest) ≡ first_piece (Quoted quote) (body ++ text) rest
run_quote quote body [] rest lacks = ap (λ l. first_piece (Quoted quote) l rest) (sym (append-nil body))
run_quote quote body (c ∷ text) rest lacks =
    let other : eqb c quote ≡ false = ne_eqb c quote (All-head (λ c. c ≢ quote) c text lacks) in
    leads (Quoted quote) (Quoted quote) body c (text ++ rest) (cond-false _ _ _ other) ∙ run_quote quote (body ++ c ∷ []) text rest (All-tail (λ c. c ≢ quote) c text lacks) ∙ ap (λ l. first_piece (Quoted quote) l rest) (append_assoc body (c ∷ []) text)

-- the bytes of a dot line
run_dots : (body text rest : List ℕ) → Lacks 10 text → first_piece DotLine body (text ++ rest) ≡ first_piece DotLine (body ++ text) rest
run_dots body [] rest lacks = ap (λ l. first_piece DotLine l rest) (sym (append-nil body))
run_dots body (c ∷ text) rest lacks =
    let other : eqb c 10 ≡ false = ne_eqb c 10 (All-head (λ c. c ≢ 10) c text lacks) in
    leads DotLine DotLine body c (text ++ rest) (cond-false _ _ _ other) ∙ run_dots (body ++ c ∷ []) text rest (All-tail (λ c. c ≢ 10) c text lacks) ∙ ap (λ l. first_piece DotLine l rest) (append_assoc body (c ∷ []) text)

-- a statement or a dot line may begin at these bytes
dash_of : (part : Part) → place_after (In part Between) 45 ≡ In part AfterDash
dash_of Gap = refl
dash_of Statement = refl

slash_of : (part : Part) → place_after (In part Between) 47 ≡ In part AfterSlash
slash_of Gap = refl
slash_of Statement = refl

-- the bytes of a piece, and a comment's
body_in-comment : (part : Part) (body : List ℕ) (a b : ℕ) (text end : List ℕ) → body_in part (body_in part (body_in part body ++ a ∷ [] ++ b ∷ [] ++ text) ++ end) ≡ body_in part (body ++ a ∷ b ∷ (text ++ end))
body_in-comment Gap body a b text end = refl
body_in-comment Statement body a b text end = simp append_assoc

-- a comment
run_comment : (part : Part) (atom : Atom) (body rest : List ℕ) → IsComment atom → first_piece (In part Between) (body_in part body) (atom_text atom ++ rest) ≡ first_piece (In part Between) (body_in part (body ++ atom_text atom)) rest
run_comment part (Byte b) body rest is = absurd is
run_comment part (QuotedAtom quote text) body rest is = absurd is
run_comment part (Line text) body rest is =
    let begun = body_in part body ++ 45 ∷ [] ++ 45 ∷ [] in
    leads (In part Between) (In part AfterDash) (body_in part body) 45 _ (dash_of part) ∙ ap (first_piece (In part LineComment) (body_in part begun)) (append_assoc text (10 ∷ []) rest) ∙ run_line part begun text (10 ∷ rest) is ∙ ap (λ l. first_piece (In part Between) l rest) (body_in-comment part body 45 45 text (10 ∷ []))
run_comment part (Block text) body rest is =
    let begun = body_in part body ++ 47 ∷ [] ++ 42 ∷ [] in
    let inside = text ++ 42 ∷ [] in
    let split : text ++ 42 ∷ 47 ∷ [] ++ rest ≡ inside ++ 47 ∷ rest = append_assoc text (42 ∷ 47 ∷ []) rest ∙ sym (append_assoc text (42 ∷ []) (47 ∷ rest)) in
    leads (In part Between) (In part AfterSlash) (body_in part body) 47 _ (slash_of part) ∙ ap (first_piece (In part BlockComment) (body_in part begun)) split ∙ run_block part false begun inside (47 ∷ rest) (IsUnclosed-from inside is) ∙ ap (λ star. first_piece (In part (spot_of star)) (body_in part (begun ++ inside)) (47 ∷ rest)) (ends_in_star-push false text) ∙ ap (λ l. first_piece (In part Between) l rest) (body_in-comment part body 47 42 inside (47 ∷ []) ∙ ap (λ l. body_in part (body ++ 47 ∷ 42 ∷ l)) (append_assoc text (42 ∷ []) (47 ∷ [])))

-- a `-` or a `/` that begins no comment
run_dash : (part : Part) (body rest : List ℕ) → ¬ BeginsComment (45 ∷ rest) → first_piece (In part AfterDash) body rest ≡ first_piece (In Statement Between) body rest
run_dash Gap body [] alone = refl
run_dash Statement body [] alone = refl
run_dash part body (c ∷ rest) alone =
    leads (In part AfterDash) (statement_after c) body c rest (cond-false _ _ _ (ne_eqb c 45 (λ e. alone (inl (refl, e)))))

run_slash : (part : Part) (body rest : List ℕ) → ¬ BeginsComment (47 ∷ rest) → first_piece (In part AfterSlash) body rest ≡ first_piece (In Statement Between) body rest
run_slash Gap body [] alone = refl
run_slash Statement body [] alone = refl
run_slash part body (c ∷ rest) alone =
    leads (In part AfterSlash) (statement_after c) body c rest (cond-false _ _ _ (ne_eqb c 42 (λ e. alone (inr (refl, e)))))

-- another byte of a statement
plain_after : (b : ℕ) → b ≢ 59 → b ≢ 45 → b ≢ 47 → is_quote b ≡ false → statement_after b ≡ In Statement Between
plain_after b no_semicolon no_dash no_slash no_quote =
    cond-false (eqb b 59) _ _ (ne_eqb b 59 no_semicolon) ∙ cond-false (eqb b 45) _ _ (ne_eqb b 45 no_dash) ∙ cond-false (eqb b 47) _ _ (ne_eqb b 47 no_slash) ∙ cond-false (is_quote b) _ _ no_quote

-- a byte of a statement
run_byte : (b : ℕ) (body rest : List ℕ) → IsAtom (Byte b) rest → first_piece (In Statement Between) body (b ∷ rest) ≡ first_piece (In Statement Between) (body ++ b ∷ []) rest
run_byte b body rest is =
    let Goal : ℕ → Type 0 = λ c. first_piece (In Statement Between) body (c ∷ rest) ≡ first_piece (In Statement Between) (body ++ c ∷ []) rest in
    ⊎_elim
    (λ (e : b ≡ 45). subst Goal (sym e) (run_dash Statement (body ++ 45 ∷ []) rest (subst (λ c. ¬ BeginsComment (c ∷ rest)) e is.2)))
    (λ (no_dash : b ≡ 45 → ⊥). ⊎_elim
    (λ (e : b ≡ 47). subst Goal (sym e) (run_slash Statement (body ++ 47 ∷ []) rest (subst (λ c. ¬ BeginsComment (c ∷ rest)) e is.2)))
    (λ (no_slash : b ≡ 47 → ⊥). leads (In Statement Between) (In Statement Between) body b rest (plain_after b is.0 no_dash no_slash is.1))
    (cases_eq b 47))
    (cases_eq b 45)

-- a quote
quote_after : (quote : ℕ) → is_quote quote ≡ true → statement_after quote ≡ Quoted quote
quote_after quote is = ⊎_elim
    (λ (e : eqb quote 39 ≡ true). subst (λ c. statement_after c ≡ Quoted c) (sym (eqb-true quote 39 e)) refl)
    (λ (e : eqb quote 34 ≡ true). subst (λ c. statement_after c ≡ Quoted c) (sym (eqb-true quote 34 e)) refl)
    (or_cases (eqb quote 39) (eqb quote 34) is)

-- an atom of a statement
run_atom : (atom : Atom) (body rest : List ℕ) → IsAtom atom rest → first_piece (In Statement Between) body (atom_text atom ++ rest) ≡ first_piece (In Statement Between) (body ++ atom_text atom) rest
run_atom (Byte b) body rest is = run_byte b body rest is
run_atom (Line text) body rest is = run_comment Statement (Line text) body rest is
run_atom (Block text) body rest is = run_comment Statement (Block text) body rest is
run_atom (QuotedAtom quote text) body rest is =
    leads (In Statement Between) (Quoted quote) body quote _ (quote_after quote is.0) ∙ ap (first_piece (Quoted quote) (body ++ quote ∷ [])) (append_assoc text (quote ∷ []) rest) ∙ run_quote quote (body ++ quote ∷ []) text (quote ∷ rest) is.1 ∙ leads (Quoted quote) (In Statement Between) (body ++ quote ∷ [] ++ text) quote rest (cond-true _ _ _ (eq-eqb quote quote refl)) ∙ ap (λ l. first_piece (In Statement Between) l rest) (simp append_assoc)

run_atoms : (atoms : List Atom) (body rest : List ℕ) → AreAtoms atoms rest → first_piece (In Statement Between) body (atoms_text atoms ++ rest) ≡ first_piece (In Statement Between) (body ++ atoms_text atoms) rest
run_atoms [] body rest are = ap (λ l. first_piece (In Statement Between) l rest) (sym (append-nil body))
run_atoms (atom ∷ atoms) body rest are =
    ap (first_piece (In Statement Between) body) (append_assoc (atom_text atom) (atoms_text atoms) rest) ∙ run_atom atom body (atoms_text atoms ++ rest) are.0 ∙ run_atoms atoms (body ++ atom_text atom) rest are.1 ∙ ap (λ l. first_piece (In Statement Between) l rest) (append_assoc body (atom_text atom) (atoms_text atoms))

-- the atoms of a gap
run_gap_atom : (atom : Atom) (rest : List ℕ) → IsGapAtom atom → first_of (atom_text atom ++ rest) ≡ first_of rest
run_gap_atom (Byte b) rest is = leads (In Gap Between) (In Gap Between) [] b rest (cond-true _ _ _ is)
run_gap_atom (Line text) rest is = run_comment Gap (Line text) [] rest is
run_gap_atom (Block text) rest is = run_comment Gap (Block text) [] rest is
run_gap_atom (QuotedAtom quote text) rest is = absurd is

run_gap : (atoms : List Atom) (rest : List ℕ) → All IsGapAtom atoms → first_of (atoms_text atoms ++ rest) ≡ first_of rest
run_gap [] rest all = refl
run_gap (atom ∷ atoms) rest all =
    ap first_of (append_assoc (atom_text atom) (atoms_text atoms) rest) ∙ run_gap_atom atom (atoms_text atoms ++ rest) (All-head IsGapAtom atom atoms all) ∙ run_gap atoms rest (All-tail IsGapAtom atom atoms all)

run_after_gap : (gap rest : List ℕ) → IsClosedGap gap → first_of (gap ++ rest) ≡ first_of rest
run_after_gap gap rest is = ap (λ l. first_of (l ++ rest)) is.1 ∙ run_gap is.0 rest is.2

-- where a statement begins the gap ends
begin_after : (b : ℕ) → is_gap_byte b ≡ false → b ≢ 46 → b ≢ 45 → b ≢ 47 → gap_after b ≡ statement_after b
begin_after b no_gap no_dot no_dash no_slash =
    cond-false (is_gap_byte b) _ _ no_gap ∙ cond-false (eqb b 46) _ _ (ne_eqb b 46 no_dot) ∙ cond-false (eqb b 45) _ _ (ne_eqb b 45 no_dash) ∙ cond-false (eqb b 47) _ _ (ne_eqb b 47 no_slash)

run_begins : (x : List ℕ) → BeginsStatement x → first_of x ≡ first_piece (In Statement Between) [] x
run_begins [] begins = absurd begins
run_begins (b ∷ rest) begins =
    let Goal : ℕ → Type 0 = λ c. first_of (c ∷ rest) ≡ first_piece (In Statement Between) [] (c ∷ rest) in
    ⊎_elim
    (λ (e : b ≡ 45).
    let alone = subst (λ c. ¬ BeginsComment (c ∷ rest)) e begins.2 in
    subst Goal (sym e) (run_dash Gap (45 ∷ []) rest alone ∙ sym (run_dash Statement (45 ∷ []) rest alone)))
    (λ (no_dash : b ≡ 45 → ⊥). ⊎_elim
    (λ (e : b ≡ 47).
    let alone = subst (λ c. ¬ BeginsComment (c ∷ rest)) e begins.2 in
    subst Goal (sym e) (run_slash Gap (47 ∷ []) rest alone ∙ sym (run_slash Statement (47 ∷ []) rest alone)))
    (λ (no_slash : b ≡ 47 → ⊥). leads (In Gap Between) (statement_after b) [] b rest (begin_after b begins.0 begins.1 no_dash no_slash))
    (cases_eq b 47))
    (cases_eq b 45)

-- what comes after its `;` is no matter to a statement
BeginsStatement-more : (x rest : List ℕ) → BeginsStatement (x ++ 59 ∷ []) → BeginsStatement (x ++ 59 ∷ rest)
BeginsStatement-more [] rest begins = absurd (true≢false begins.0)
BeginsStatement-more (b ∷ []) rest begins = begins
BeginsStatement-more (b ∷ c ∷ x) rest begins = begins

IsAtom-more : (atom : Atom) (x rest : List ℕ) → IsAtom atom (x ++ 59 ∷ []) → IsAtom atom (x ++ 59 ∷ rest)
IsAtom-more (Byte b) [] rest is = is
IsAtom-more (Byte b) (c ∷ x) rest is = is
IsAtom-more (Line text) x rest is = is
IsAtom-more (Block text) x rest is = is
IsAtom-more (QuotedAtom quote text) x rest is = is

AreAtoms-more : (atoms : List Atom) (rest : List ℕ) → AreAtoms atoms (59 ∷ []) → AreAtoms atoms (59 ∷ rest)
AreAtoms-more [] rest are = tt
AreAtoms-more (atom ∷ atoms) rest are =
    (IsAtom-more atom (atoms_text atoms) rest are.0, AreAtoms-more atoms rest are.1)

-- a statement is a piece
run_statement : (x rest : List ℕ) → IsStatement x → first_of (x ++ rest) ≡ piece_then (piece_from x Whole) rest
run_statement x rest is =
    let whole = ap (λ l. l ++ rest) is.1 ∙ append_assoc (atoms_text is.0) (59 ∷ []) rest in
    ap first_of whole ∙ run_begins (atoms_text is.0 ++ 59 ∷ rest) (BeginsStatement-more (atoms_text is.0) rest (subst BeginsStatement is.1 is.3)) ∙ run_atoms is.0 [] (59 ∷ rest) (AreAtoms-more is.0 rest is.2) ∙ ap (λ l. piece_then (piece_from l Whole) rest) (sym is.1)

-- a dot line is a piece
run_dot_line : (line rest : List ℕ) → IsDotLine line → first_of (line ++ 10 ∷ rest) ≡ piece_then (piece_from line Whole) rest
run_dot_line line rest is =
    ap (λ l. first_of (l ++ 10 ∷ rest)) is.1 ∙ run_dots (46 ∷ []) is.0 (10 ∷ rest) is.2 ∙ ap (λ l. piece_then (piece_from l Whole) rest) (sym is.1)

-- where the text ends in a gap or a statement
abbrev outcome_in : Part → List ℕ → Outcome
outcome_in Gap body = no_piece
outcome_in Statement body = last_piece (piece_from body Incomplete)

left_in_comment : (part : Part) (spot : Spot) (body : List ℕ) (a b : ℕ) (text : List ℕ) → last_ending (In Gap spot) ≡ None → outcome_of (body_in part (body_in part body ++ a ∷ [] ++ b ∷ [] ++ text)) (last_ending (In part spot)) ≡ outcome_in part (body ++ a ∷ b ∷ text)
left_in_comment Gap spot body a b text none_left = ap (outcome_of []) none_left
left_in_comment Statement spot body a b text none_left =
    let same : body ++ a ∷ [] ++ b ∷ [] ++ text ≡ body ++ a ∷ b ∷ text = simp append_assoc in
    ap (λ l. last_piece (piece_from l Incomplete)) same

none_in_block : (star : Bool) → last_ending (In Gap (spot_of star)) ≡ None
none_in_block true = refl
none_in_block false = refl

-- a comment that the input ends
run_open_comment : (part : Part) (body tail : List ℕ) → IsOpenComment tail → first_piece (In part Between) (body_in part body) tail ≡ outcome_in part (body ++ tail)
run_open_comment part body tail (inl is) =
    let begun = body_in part body ++ 45 ∷ [] ++ 45 ∷ [] in
    ap (first_piece (In part Between) (body_in part body)) is.1 ∙ leads (In part Between) (In part AfterDash) (body_in part body) 45 _ (dash_of part) ∙ ap (first_piece (In part LineComment) (body_in part begun)) (sym (append-nil is.0)) ∙ run_line part begun is.0 [] is.2 ∙ left_in_comment part LineComment body 45 45 is.0 refl ∙ ap (λ l. outcome_in part (body ++ l)) (sym is.1)
run_open_comment part body tail (inr is) =
    let begun = body_in part body ++ 47 ∷ [] ++ 42 ∷ [] in
    let star = ends_in_star false is.0 in
    ap (first_piece (In part Between) (body_in part body)) is.1 ∙ leads (In part Between) (In part AfterSlash) (body_in part body) 47 _ (slash_of part) ∙ ap (first_piece (In part BlockComment) (body_in part begun)) (sym (append-nil is.0)) ∙ run_block part false begun is.0 [] (IsUnclosed-from is.0 is.2) ∙ left_in_comment part (spot_of star) body 47 42 is.0 (none_in_block star) ∙ ap (λ l. outcome_in part (body ++ l)) (sym is.1)

-- quotes that the input ends
run_open_quote : (quote : ℕ) (body tail : List ℕ) → IsOpenQuote quote tail → first_piece (In Statement Between) body tail ≡ last_piece (piece_from (body ++ tail) Incomplete)
run_open_quote quote body tail is =
    ap (first_piece (In Statement Between) body) is.1 ∙ leads (In Statement Between) (Quoted quote) body quote is.0 (quote_after quote is.2) ∙ ap (first_piece (Quoted quote) (body ++ quote ∷ [])) (sym (append-nil is.0)) ∙ run_quote quote (body ++ quote ∷ []) is.0 [] is.3 ∙ ap (λ l. last_piece (piece_from l Incomplete)) (append_assoc body (quote ∷ []) is.0 ∙ ap (λ l. body ++ l) (sym is.1))

run_tail : (body tail : List ℕ) → (tail ≡ []) ⊎ (IsOpenComment tail ⊎ ((quote : ℕ) × IsOpenQuote quote tail)) → first_piece (In Statement Between) body tail ≡ last_piece (piece_from (body ++ tail) Incomplete)
run_tail body tail (inl is) =
    subst (λ l. first_piece (In Statement Between) body l ≡ last_piece (piece_from (body ++ l) Incomplete)) (sym is) (ap (λ l. last_piece (piece_from l Incomplete)) (sym (append-nil body)))
run_tail body tail (inr (inl is)) = run_open_comment Statement body tail is
run_tail body tail (inr (inr is)) = run_open_quote is.0 body tail is.1

-- a statement that the input ends is the last piece
run_open_statement : (x : List ℕ) → IsOpenStatement x → first_of x ≡ last_piece (piece_from x Incomplete)
run_open_statement x is =
    run_begins x is.4 ∙ ap (first_piece (In Statement Between) []) is.2 ∙ run_atoms is.0 [] is.1 is.3 ∙ run_tail (atoms_text is.0) is.1 is.5 ∙ ap (λ l. last_piece (piece_from l Incomplete)) (sym is.2)

-- so is a dot line that the input ends
run_open_line : (line : List ℕ) → IsDotLine line → first_of line ≡ last_piece (piece_from line Whole)
run_open_line line is =
    ap first_of is.1 ∙ ap (first_piece DotLine (46 ∷ [])) (sym (append-nil is.0)) ∙ run_dots (46 ∷ []) is.0 [] is.2 ∙ ap (λ l. last_piece (piece_from l Whole)) (sym is.1)

-- the three ways a text can be
pub first_gap : (x : List ℕ) → IsGap x → first_of x ≡ no_piece
first_gap x is =
    ap first_of is.2 ∙ run_after_gap is.0 is.1 is.3 ∙ ⊎_elim
    (λ (nothing : is.1 ≡ []). ap first_of nothing)
    (λ (comment : IsOpenComment is.1). run_open_comment Gap [] is.1 comment)
    is.4

pub first_whole : (x rest : List ℕ) (p : PieceText) → IsWholePiece x p → first_of (x ++ rest) ≡ piece_then p rest
first_whole x rest p (gap, body, split, closed, inl is) =
    ap (λ l. first_of (l ++ rest)) split ∙ ap first_of (append_assoc gap body rest) ∙ run_after_gap gap (body ++ rest) closed ∙ run_statement body rest is.0 ∙ ap (λ q. piece_then q rest) (sym is.1)
first_whole x rest p (gap, body, split, closed, inr is) =
    ap (λ l. first_of (l ++ rest)) split ∙ ap first_of (append_assoc gap body rest) ∙ run_after_gap gap (body ++ rest) closed ∙ ap (λ l. first_of (l ++ rest)) is.1 ∙ ap first_of (append_assoc is.0 (10 ∷ []) rest) ∙ run_dot_line is.0 rest is.2 ∙ ap (λ q. piece_then q rest) (sym is.3)

pub first_last : (x : List ℕ) (p : PieceText) → IsLastPiece x p → first_of x ≡ last_piece p
first_last x p (gap, body, split, closed, inl is) =
    ap first_of split ∙ run_after_gap gap body closed ∙ run_open_statement body is.0 ∙ ap last_piece (sym is.1)
first_last x p (gap, body, split, closed, inr is) =
    ap first_of split ∙ run_after_gap gap body closed ∙ run_open_line body is.0 ∙ ap last_piece (sym is.1)
