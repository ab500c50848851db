-- From what is read to what a text spells.
use Rattle.std.proofs.Common.{◌≡◌, ◌⊎◌, inl, inr, ℕ, suc, Bool, true, false, ◌==◌, List, [], ◌∷◌, map, Some, None, Result, Ok, Err, ◌||◌, codes, refl, ap, ◌∙◌, sym, arith}
use Rattle.std.proofs.lemmas.Bool.Decides.{nat_tests}
use Rattle.std.proofs.lemmas.List.Folds.{list_any_at}
use Rattle.std.proofs.lemmas.Str.{IsUtf8-from_is_utf8, is_utf8-from_IsUtf8}
use Rattle.std.specs.List.{Contains, list_any}
use Rattle.std.specs.Prelude.{◌≢◌, unwrap_or}
use Rattle.std.specs.Result.{result_err}
use Rattle.std.specs.Str.{is_utf8}
use lib.IntN.{pos}
use Rattle.rt_sql.specs.declared.number.Numbers.TheVariants.{Within64Bits, AnySize}
use Rattle.rt_sql_cut.specs.declared.piece.Ending.{Ending}
use Rattle.rt_sql_cut.specs.declared.piece.Ending.TheVariants.{Whole, Incomplete, TooLong}
use Rattle.rt_sql_statement.specs.declared.refusal.Refusal.{Refusal}
use Rattle.rt_sql_statement.specs.declared.refusal.Refusal.TheVariants as r
use Rattle.rt_sql_request.specs.declared.request.Stmt.{Stmt}
use Rattle.rt_sql.specs.declared.token.Token.{Token}
use Rattle.rt_sql.specs.Grammar.{Spells, named_lines, is_command}
use Rattle.rt_sql.specs.Lex.{piece_tokens}
use Rattle.rt_sql.specs.Number.{Writes, WritesAnySize, WritesWithin64Bits, with_sign, decimal, fits, within, number_by}
use Rattle.rt_sql.specs.Parse.{IsText, ParsesText, ParsesAs, Parses, is_unknown}
use Rattle.rt_sql.specs.Token.{same_word, Text}
use Rattle.rt_sql.specs.declared.token.Token.TheVariants as token
use Rattle.rt_sql_cut.specs.Pieces.{PieceText}
use Rattle.rt_sql.specs.Reading as R
use Rattle.rt_sql.specs.Reading.{Outcome, Read, Reads}
use Rattle.rt_sql.specs.Tokens.{PieceTokens}
use Rattle.rt_sql.proofs.CompleteForms.{complete_whole}
use Rattle.rt_sql.proofs.Numbers.{fits_signed, fits_from_signed}
use Rattle.rt_sql.proofs.Basics.{cases, test, none, some_same}
use Rattle.rt_sql.proofs.Sound.{TakesOnly, TakesEach, same}
use Rattle.rt_sql.proofs.SoundForms.{sound_whole}
use Rattle.rt_sql.proofs.PieceLists.{piece_tokens_are, are_piece_tokens}
use Rattle.rt_sql.proofs.Transfer.{Carries, carry}

-- ---- which numbers each reading takes

exact : Read
exact b d = Some (with_sign b (decimal d))

exact_each : TakesEach exact WritesAnySize
unfolding exact
exact_each b d n w = rw w refl

within_only : TakesOnly (number_by Within64Bits) WritesWithin64Bits
unfolding number_by
within_only b d n e =
    test (fits b (decimal d))
    (λ f. let is_number = some_same (rw f at e) in (sym is_number, rw (← is_number) (fits_signed b (decimal d) f)))
    (λ f. none (rw f at e))

within_each : TakesEach (number_by Within64Bits) WritesWithin64Bits
unfolding number_by
within_each b d n w =
    let fitting = rw w.0 at w.1 in
    rw (fits_from_signed b (decimal d) fitting, w.0) refl

abbrev WritesCut : Writes
WritesCut b d n = number_by AnySize b d ≡ Some n

cut_from_any : Carries WritesAnySize WritesCut
unfolding number_by
cut_from_any b d n w = (unwrap_or (within b d) (pos 0), refl)

any_from_cut : Carries WritesCut WritesAnySize
any_from_cut b d n w = (with_sign b (decimal d), refl)

any_from_within : Carries WritesWithin64Bits WritesAnySize
any_from_within b d n w = (n, w.0)

none_some : {X : Type 0} {x : X} → None ≡ Some x → ⊥
none_some e = cc

-- ---- what a reading's failure says

pub read_whole : (read : Result Stmt Refusal) (outcome : Outcome Stmt) (new : List Token) → result_err read ≡ None → Reads outcome read new → (s : Stmt) × (outcome ≡ Some (s, new))
read_whole (Ok s) outcome new e reads = (s, reads)
read_whole (Err f) outcome new e reads = none (sym e)

pub failed : (read : Result Stmt Refusal) (outcome : Outcome Stmt) (new : List Token) (f : Refusal) → result_err read ≡ Some f → f ≢ r.OutOfMemory → Reads outcome read new → outcome ≡ None
failed (Ok s) outcome new f e other reads = none e
failed (Err g) outcome new f e other reads = reads (rw (some_same e) other)

-- ---- what a text spells

pub parses_ok : (text : Text) (s : Stmt) (left : List Token) → R.whole (number_by Within64Bits) (piece_tokens text) ≡ Some (s, left) → ParsesText text (Ok s)
parses_ok text s left e =
    (piece_tokens text, are_piece_tokens text, sound_whole (number_by Within64Bits) WritesWithin64Bits within_only (piece_tokens text) s left e)

pub parses_outside : (text : Text) (s : Stmt) (left : List Token) → R.whole (number_by Within64Bits) (piece_tokens text) ≡ None → R.whole (number_by AnySize) (piece_tokens text) ≡ Some (s, left) → ParsesText text (Err r.IntegerOutOfRange)
parses_outside text s left e f = (
  piece_tokens text,
  are_piece_tokens text,
  carry WritesCut WritesAnySize any_from_cut (piece_tokens text) s (sound_whole (number_by AnySize) WritesCut (λ b d n h. h) (piece_tokens text) s left f),
  λ asked g. none_some (sym e ∙ complete_whole (number_by Within64Bits) WritesWithin64Bits within_each (piece_tokens text) asked g),
)

unknown_is : (ts : List Token) → is_unknown ts ≡ R.unknown_in (R.first ts)
unfolding R.unknown_in R.first
unknown_is [] = refl
unknown_is (token.Dot w ∷ ts) = refl
unknown_is (token.Word x ∷ ts) = refl
unknown_is (token.Quoted x ∷ ts) = refl
unknown_is (token.Digits x ∷ ts) = refl
unknown_is (token.Text x ∷ ts) = refl
unknown_is (token.Blob x ∷ ts) = refl
unknown_is (token.Sign x ∷ ts) = refl
unknown_is (token.Bad ∷ ts) = refl

pub parses_unknown : (text : Text) → R.unknown_in (R.first (piece_tokens text)) ≡ true → ParsesText text (Err r.UnknownCommand)
parses_unknown text e = (piece_tokens text, are_piece_tokens text, unknown_is (piece_tokens text) ∙ e)

pub parses_none : (text : Text) → R.unknown_in (R.first (piece_tokens text)) ≡ false → R.whole (number_by AnySize) (piece_tokens text) ≡ None → ParsesText text (Err r.SyntaxError)
parses_none text known e = (
  piece_tokens text,
  are_piece_tokens text,
  unknown_is (piece_tokens text) ∙ known,
  λ asked g.
      let cut = carry WritesAnySize WritesCut cut_from_any (piece_tokens text) asked g in
      none_some (sym e ∙ complete_whole (number_by AnySize) WritesCut (λ b d n h. h) (piece_tokens text) cut.0 cut.1),
)

-- a dot line that spells something is known
neither : (x y : Bool) → (x || y) ≡ false → (x ≡ false) × (y ≡ false)
neither true y h = absurd (cc)
neither false y h = (refl, h)

asks_nothing : (w n : Text) (lines : List (Text × (Text → Stmt))) → list_any (same_word w) (map (λ line. line.0) lines) ≡ false → R.statement_by w n lines ≡ None
unfolding R.statement_by
asks_nothing w n [] h = refl
asks_nothing w n (line ∷ lines) h =
    let k = neither (same_word w line.0) (list_any (same_word w) (map (λ line. line.0) lines)) h in
    rw k.0 (asks_nothing w n lines k.1)

no_command : (read : Read) (w : Text) (ts : List Token) → is_command w ≡ false → R.command read w ts ≡ None
unfolding is_command R.command R.named_command
no_command read w ts h =
    let k = neither (same_word w (codes "WATCH")) (list_any (same_word w) (map (λ line. line.0) named_lines)) h in
    rw k.0 (cases (R.name ts) (λ e. rw e refl) (λ x e. rw (e, asks_nothing w x.0 named_lines k.1) refl))

read_known : (read : Read) (ts : List Token) (s : Stmt) → R.whole read ts ≡ Some (s, []) → is_unknown ts ≡ false
unfolding R.whole R.whole_command R.dot_in R.first R.rest
read_known read [] s e = refl
read_known read (token.Dot w ∷ ts) s e =
    test (is_command w) (λ known. rw known refl) (λ unknown. none (rw (no_command read w ts unknown) at e))
read_known read (_ ∷ ts) s e = refl

spelled_known : (read : Read) (writes : Writes) (each : TakesEach read writes) (ts : List Token) (s : Stmt) → Spells writes ts s → is_unknown ts ≡ false
spelled_known read writes each ts s g = read_known read ts s (complete_whole read writes each ts s g)

-- ---- laws

pub one_list : (text : Text) (one other : List Token) → PieceTokens text one → PieceTokens text other → one ≡ other
one_list text one other g h = sym (piece_tokens_are text one g) ∙ piece_tokens_are text other h

pub one_statement : (tokens : List Token) (one other : Stmt) → Spells WritesAnySize tokens one → Spells WritesAnySize tokens other → one ≡ other
one_statement tokens one other g h =
    (same (sym (complete_whole exact WritesAnySize exact_each tokens one g) ∙ complete_whole exact WritesAnySize exact_each tokens other h)).0

one_within : (tokens : List Token) (one other : Stmt) → Spells WritesWithin64Bits tokens one → Spells WritesWithin64Bits tokens other → one ≡ other
one_within tokens one other g h =
    (same (sym (complete_whole (number_by Within64Bits) WritesWithin64Bits within_each tokens one g) ∙ complete_whole (number_by Within64Bits) WritesWithin64Bits within_each tokens other h)).0

-- the four answers to a text
abbrev Kind : Text → Result Stmt Refusal → Type 0
Kind text answer =
    ((s : Stmt) × (answer ≡ Ok s) × ParsesText text (Ok s))
    ⊎ ((answer ≡ Err r.SyntaxError) × ParsesText text (Err r.SyntaxError))
    ⊎ ((answer ≡ Err r.IntegerOutOfRange) × ParsesText text (Err r.IntegerOutOfRange))
    ⊎ ((answer ≡ Err r.UnknownCommand) × ParsesText text (Err r.UnknownCommand))

kind : (text : Text) (answer : Result Stmt Refusal) → ParsesText text answer → Kind text answer
kind text (Ok s) g = inl (s, refl, g)
kind text (Err r.SyntaxError) g = inr (inl (refl, g))
kind text (Err r.IntegerOutOfRange) g = inr (inr (inl (refl, g)))
kind text (Err r.UnknownCommand) g = inr (inr (inr (refl, g)))
kind text (Err _) g = absurd g

ok_or_syntax : (text : Text) (s : Stmt) → ParsesText text (Ok s) → ParsesText text (Err r.SyntaxError) → ⊥
ok_or_syntax text s g h =
    let own = rw (one_list text g.0 h.0 g.1 h.1) at g.2 in
    let any = carry WritesWithin64Bits WritesAnySize any_from_within h.0 s own in
    h.3 any.0 any.1

ok_or_range : (text : Text) (s : Stmt) → ParsesText text (Ok s) → ParsesText text (Err r.IntegerOutOfRange) → ⊥
ok_or_range text s g h = h.3 s (rw (one_list text g.0 h.0 g.1 h.1) at g.2)

not_both : (x : Bool) → x ≡ true → x ≡ false → ⊥
not_both x e f = cc

ok_or_unknown : (text : Text) (s : Stmt) → ParsesText text (Ok s) → ParsesText text (Err r.UnknownCommand) → ⊥
ok_or_unknown text s g h =
    let own = rw (one_list text g.0 h.0 g.1 h.1) at g.2 in
    not_both (is_unknown h.0) h.2 (spelled_known (number_by Within64Bits) WritesWithin64Bits within_each h.0 s own)

syntax_or_range : (text : Text) → ParsesText text (Err r.SyntaxError) → ParsesText text (Err r.IntegerOutOfRange) → ⊥
syntax_or_range text g h =
    let own = rw (one_list text h.0 g.0 h.1 g.1) at h.2.1 in
    g.3 h.2.0 own

syntax_or_unknown : (text : Text) → ParsesText text (Err r.SyntaxError) → ParsesText text (Err r.UnknownCommand) → ⊥
syntax_or_unknown text g h = not_both (is_unknown g.0) (ap is_unknown (one_list text g.0 h.0 g.1 h.1) ∙ h.2) g.2

range_or_unknown : (text : Text) → ParsesText text (Err r.IntegerOutOfRange) → ParsesText text (Err r.UnknownCommand) → ⊥
range_or_unknown text g h =
    let own = rw (one_list text g.0 h.0 g.1 h.1) at g.2.1 in
    not_both (is_unknown h.0) h.2 (spelled_known exact WritesAnySize exact_each h.0 g.2.0 own)

one_ok : (text : Text) (s t : Stmt) → ParsesText text (Ok s) → ParsesText text (Ok t) → s ≡ t
one_ok text s t g h = one_within h.0 s t (rw (one_list text g.0 h.0 g.1 h.1) at g.2) h.2

one_kind : (text : Text) (one other : Result Stmt Refusal) → Kind text one → Kind text other → one ≡ other
one_kind text one other (inl g) (inl h) = g.1 ∙ ap Ok (one_ok text g.0 h.0 g.2 h.2) ∙ sym h.1
one_kind text one other (inl g) (inr (inl h)) = absurd (ok_or_syntax text g.0 g.2 h.1)
one_kind text one other (inl g) (inr (inr (inl h))) = absurd (ok_or_range text g.0 g.2 h.1)
one_kind text one other (inl g) (inr (inr (inr h))) = absurd (ok_or_unknown text g.0 g.2 h.1)
one_kind text one other (inr (inl g)) (inl h) = absurd (ok_or_syntax text h.0 h.2 g.1)
one_kind text one other (inr (inl g)) (inr (inl h)) = g.0 ∙ sym h.0
one_kind text one other (inr (inl g)) (inr (inr (inl h))) = absurd (syntax_or_range text g.1 h.1)
one_kind text one other (inr (inl g)) (inr (inr (inr h))) = absurd (syntax_or_unknown text g.1 h.1)
one_kind text one other (inr (inr (inl g))) (inl h) = absurd (ok_or_range text h.0 h.2 g.1)
one_kind text one other (inr (inr (inl g))) (inr (inl h)) = absurd (syntax_or_range text h.1 g.1)
one_kind text one other (inr (inr (inl g))) (inr (inr (inl h))) = g.0 ∙ sym h.0
one_kind text one other (inr (inr (inl g))) (inr (inr (inr h))) = absurd (range_or_unknown text g.1 h.1)
one_kind text one other (inr (inr (inr g))) (inl h) = absurd (ok_or_unknown text h.0 h.2 g.1)
one_kind text one other (inr (inr (inr g))) (inr (inl h)) = absurd (syntax_or_unknown text h.1 g.1)
one_kind text one other (inr (inr (inr g))) (inr (inr (inl h))) = absurd (range_or_unknown text h.1 g.1)
one_kind text one other (inr (inr (inr g))) (inr (inr (inr h))) = g.0 ∙ sym h.0

one_answer_as : (ending : Ending) (text : Text) (one other : Result Stmt Refusal) → ParsesAs ending text one → ParsesAs ending text other → one ≡ other
one_answer_as TooLong text one other g h = g ∙ sym h
one_answer_as Incomplete text one other g h = g ∙ sym h
one_answer_as Whole text one other (inl g) (inl h) = one_kind text one other (kind text one g.1) (kind text other h.1)
one_answer_as Whole text one other (inl g) (inr h) = absurd (h.0 g.0)
one_answer_as Whole text one other (inr g) (inl h) = absurd (g.0 h.0)
one_answer_as Whole text one other (inr g) (inr h) = g.1 ∙ sym h.1

pub one_answer : (piece : PieceText) (one other : Result Stmt Refusal) → Parses piece one → Parses piece other → one ≡ other
one_answer piece one other g h = one_answer_as piece.ending piece.text one other g h

pub parses_no_text : (piece : PieceText) → Whole ≡ piece.ending → ¬ IsText piece.text → Parses piece (Err r.NotUtf8)
parses_no_text piece e h = rw (← e) (inr (h, refl))

-- ---- each text has tokens, and each piece an answer

pub some_tokens : (text : Text) → (tokens : List Token) × PieceTokens text tokens
some_tokens text = (piece_tokens text, are_piece_tokens text)

abbrev Answer : Text → Type 0
Answer text = (answer : Result Stmt Refusal) × ParsesText text answer

abbrev reading : Read → Text → Outcome Stmt
reading read text = R.whole read (piece_tokens text)

refused : (text : Text) → reading (number_by Within64Bits) text ≡ None → Answer text
refused text none_within =
    test (R.unknown_in (R.first (piece_tokens text)))
    (λ unknown. (Err r.UnknownCommand, parses_unknown text unknown))
    (λ known.
    cases (reading (number_by AnySize) text)
    (λ no_form. (Err r.SyntaxError, parses_none text known no_form))
    (λ found is. (Err r.IntegerOutOfRange, parses_outside text found.0 found.1 none_within is)))

text_answer : (text : Text) → Answer text
text_answer text =
    cases (reading (number_by Within64Bits) text) (refused text) (λ found is. (Ok found.0, parses_ok text found.0 found.1 is))

zero_is : (b : ℕ) → (b == 0) ≡ true → b ≡ 0
zero_is b h = grind (arith, nat_tests)

zero_found : (text : Text) → list_any (λ b. b == 0) text ≡ true → Contains text 0
zero_found [] h = absurd (cc)
zero_found (b ∷ z) h =
    test (b == 0)
    (λ e. (0, omega arith, zero_is b e))
    (λ e. let k = zero_found z (rw e at h) in (suc k.0, omega (arith, k.1), k.2))

zero_lacks : (text : Text) → list_any (λ b. b == 0) text ≡ false → ¬ Contains text 0
zero_lacks text h k = not_both (list_any (λ b. b == 0) text) (list_any_at (λ b. b == 0) text k.0 0 k.1 (rw k.2 refl)) h

is_or_is_not : (text : Text) → IsText text ⊎ ¬ IsText text
is_or_is_not text =
    test (is_utf8 text)
    (λ is. test (list_any (λ b. b == 0) text)
    (λ any. inr (λ t. t.1 (zero_found text any)))
    (λ no. inl (IsUtf8-from_is_utf8 text is, zero_lacks text no)))
    (λ is_not. inr (λ t. not_both (is_utf8 text) (is_utf8-from_IsUtf8 text t.0) is_not))

whole_answer : (text : Text) → IsText text ⊎ ¬ IsText text → (answer : Result Stmt Refusal) × ParsesAs Whole text answer
whole_answer text (inl is) = let found = text_answer text in (found.0, inl (is, found.1))
whole_answer text (inr is_not) = (Err r.NotUtf8, inr (is_not, refl))

answer_as : (ending : Ending) (text : Text) → (answer : Result Stmt Refusal) × ParsesAs ending text answer
answer_as TooLong text = (Err r.StatementTooLong, refl)
answer_as Incomplete text = (Err r.IncompleteInput, refl)
answer_as Whole text = whole_answer text (is_or_is_not text)

pub some_answer : (piece : PieceText) → (answer : Result Stmt Refusal) × Parses piece answer
some_answer piece = answer_as piece.ending piece.text
