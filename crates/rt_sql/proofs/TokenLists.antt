-- The tokens of a text are the list that reading token by token gives.
use Rattle.std.proofs.Math.Numerals.{one-add}
use Rattle.std.proofs.Common.{slice_index, length-drop, lit<, zero-add, ◌≡◌, ◌≢◌, ℕ, zero, suc, ◌+◌, ◌<◌, ◌≤◌, ◌%◌, ◌⊎◌, inl, inr, ⊎_elim, Bool, true, false, not, ◌==◌, ◌&&◌, ◌||◌, List, [], ◌∷◌, ◌++◌, length, take, drop, Option, Some, None, refl, ap, ◌∙◌, sym, arith}
use Rattle.std.proofs.lemmas.Bool.Decides.{nat_tests}
use Rattle.std.proofs.lemmas.List.{take-append-drop}
use Rattle.std.proofs.lemmas.List.Folds.{length-prefix_len}
use Rattle.std.specs.Char.{is_ascii_digit, is_ascii_hexdigit}
use Rattle.std.specs.List.{prefix_len, list_all}
use Rattle.rt_sql.specs.declared.token.Sign.{Sign}
use Rattle.rt_sql.specs.declared.token.Sign.TheVariants.{LeftParenthesis, RightParenthesis, Comma, Semicolon, Plus, Minus, Star, Equal, DoubleEqual, LessGreater, BangEqual, Less, LessOrEqual, Greater, GreaterOrEqual}
use Rattle.rt_sql.specs.declared.token.Token.{Token}
use Rattle.rt_sql.specs.declared.token.Token.TheVariants as token
use Rattle.rt_sql_cut.specs.Text.{is_white}
use Rattle.rt_sql.specs.Token.{Text, begins_word, is_in_word, is_in_line, begins, double}
use Rattle.rt_sql.specs.Tokens.{spelling, is_byte, IsToken, IsLongest, TokenAt, GapAt, GapsAt, Gap, IsTokens}
use Rattle.rt_sql.specs.Lex.{Lexeme, bad, lexeme, token_lexeme, gap, is_gap, word, digits, in_quotes, blob, closing, quote_token, line_len, block_len, long_sign, short_sign, sign, sign_token, put, tokens_of}
use Rattle.rt_sql.proofs.Basics.{test, cases}
use Rattle.rt_sql.proofs.Comments.{line_passes, passes_line, line_stops, stops_line, is_open, and_both, begins_slash, block_end, open_lacks, lacks_open}
use Rattle.rt_sql.proofs.Cuts.{word_goes_on}
use Rattle.rt_sql.proofs.Lexing.{tokens_of-nil, tokens_of-step}
use Rattle.rt_sql.proofs.Quotes.{closing_doubled, closed_by, byte_is}

-- ---- fronts of a class

pub front_all : (p : ℕ → Bool) (z : Text) → list_all p (take (prefix_len p z) z) ≡ true
front_all p [] = refl
front_all p (b ∷ z) = test (p b) (λ e. rw (e, one-add, e) (front_all p z)) (λ e. rw e refl)

pub front_stops : (p : ℕ → Bool) (z : Text) → begins p (drop (prefix_len p z) z) ≡ false
front_stops p [] = refl
front_stops p (b ∷ z) = test (p b) (λ e. rw (e, one-add) (front_stops p z)) (λ e. rw e e)

pub front_is : (p : ℕ → Bool) (w after : Text) → list_all p w ≡ true → begins p after ≡ false → prefix_len p (w ++ after) ≡ length w
front_is p [] [] h stops = refl
front_is p [] (b ∷ z) h stops = rw stops refl
front_is p (b ∷ w) after h stops =
    let both = and_both (p b) (list_all p w) h in
    rw (both.0, one-add, front_is p w after both.1 stops) refl

pub take_front : (w after : Text) → take (length w) (w ++ after) ≡ w
take_front [] after = refl
take_front (b ∷ w) after = ap (λ x. b ∷ x) (take_front w after)

pub drop_front : (w after : Text) → drop (length w) (w ++ after) ≡ after
drop_front [] after = refl
drop_front (b ∷ w) after = drop_front w after

-- ---- the lexeme at a token

begins_front : (p : ℕ → Bool) (w after : Text) → begins p w ≡ true → begins p (w ++ after) ≡ true
begins_front p [] after h = absurd (cc)
begins_front p (b ∷ w) after h = h

word_not_white : (b : ℕ) → begins_word b ≡ true → is_white b ≡ false
unfolding begins_word
word_not_white b h = grind (arith, nat_tests)

digit_not_white : (b : ℕ) → is_ascii_digit b ≡ true → is_white b ≡ false
digit_not_white b h = grind (arith, nat_tests)

digit_not_word : (b : ℕ) → is_ascii_digit b ≡ true → begins_word b ≡ false
unfolding begins_word
digit_not_word b h = grind (arith, nat_tests)

first_in_word : (after : Text) → begins is_in_word after ≡ false → is_in_word (slice_index after 0) ≡ false
unfolding is_in_word
first_in_word [] h = refl
first_in_word (b ∷ z) h = h

slice_index-front : (w after : Text) → slice_index (w ++ after) (length w) ≡ slice_index after 0
slice_index-front [] after = refl
slice_index-front (b ∷ w) after = slice_index-front w after

no_digit_outside_word : (b : ℕ) → is_in_word b ≡ false → is_ascii_digit b ≡ false
unfolding is_in_word
no_digit_outside_word b h = grind (arith, nat_tests)

no_digit_after : (after : Text) → begins is_in_word after ≡ false → begins is_ascii_digit after ≡ false
no_digit_after [] h = refl
no_digit_after (b ∷ z) h = no_digit_outside_word b h

word_is : (w after : Text) → list_all is_in_word w ≡ true → begins is_in_word after ≡ false → word (w ++ after) ≡ (Some (token.Word w), length w)
unfolding word
word_is w after all stops = rw (front_is is_in_word w after all stops, take_front w after) refl

digits_is : (d after : Text) → list_all is_ascii_digit d ≡ true → begins is_in_word after ≡ false → digits (d ++ after) ≡ (Some (token.Digits d), length d)
unfolding digits
digits_is d after all stops =
    rw (front_is is_ascii_digit d after all (no_digit_after after stops), slice_index-front d after, first_in_word after stops, take_front d after) refl

-- ---- what a token's lexeme is

abbrev Lexed : Token → Lexeme → Text → Text → Type 0
Lexed t l start after = (n : ℕ) × (l ≡ (Some t, n)) × (0 < n) × (drop n start ≡ after)

-- or a longer token is there
abbrev Longer : Lexeme → Text → Text → Type 0
Longer l start after = (t : Token) × (n : ℕ) × (l ≡ (Some t, n)) × IsToken t start (drop n start) × (length (drop n start) < length after)

abbrev LexedOrLonger : Token → Lexeme → Text → Text → Type 0
LexedOrLonger t l start after = Lexed t l start after ⊎ Longer l start after

letter_or_word : (b c : ℕ) → begins_word b ≡ false → ((b == 88 || b == 120) && c == 39) ≡ false
unfolding begins_word
letter_or_word b c h = grind (arith, nat_tests)

digit_no_word : (b : ℕ) → is_ascii_digit b ≡ true → begins_word b ≡ false
unfolding begins_word
digit_no_word b h = grind (arith, nat_tests)

letter_begins : (b : ℕ) → (b ≡ 88) ⊎ (b ≡ 120) → ((b == 88 || b == 120) ≡ true) × (begins_word b ≡ true)
unfolding begins_word
letter_begins b (inl e) = rw e (refl, refl)
letter_begins b (inr e) = rw e (refl, refl)

text_is : (t s after : Text) → t ≡ double 39 s → begins (is_byte 39) after ≡ false → in_quotes 39 (t ++ 39 ∷ after) ≡ (Some (token.Text t), length t + 2)
unfolding in_quotes
text_is t s after d stops =
    let end : closing 39 0 (t ++ 39 ∷ after) ≡ Some (length t) = rw d (closing_doubled 39 0 s after stops ∙ ap Some (zero-add (length (double 39 s)))) in
    rw (end, take_front t (39 ∷ after)) refl

doubled_some : (q : ℕ) (n : Text) → n ≢ [] → double q n ≢ []
doubled_some q [] h = absurd (h refl)
doubled_some q (b ∷ n) h =
    test (b == q) (λ e. rw e (λ k. cc)) (λ e. rw e (λ k. cc))

not_zero : (n : ℕ) → (suc n == 0) ≡ false
not_zero n = grind (arith, nat_tests)

name_is : (t after : Text) → t ≢ [] → quote_token 34 (t ++ 34 ∷ after) (Some (length t)) ≡ (Some (token.Quoted t), length t + 2)
name_is [] after h = absurd (h refl)
name_is (b ∷ t) after h = rw (not_zero (length t)) (ap (λ x. (Some (token.Quoted (b ∷ x)), suc (length t) + 2)) (take_front t (34 ∷ after)))

quoted_is : (t n after : Text) → t ≡ double 34 n → n ≢ [] → begins (is_byte 34) after ≡ false → in_quotes 34 (t ++ 34 ∷ after) ≡ (Some (token.Quoted t), length t + 2)
unfolding in_quotes
quoted_is t n after d some stops =
    let end : closing 34 0 (t ++ 34 ∷ after) ≡ Some (length t) = rw d (closing_doubled 34 0 n after stops ∙ ap Some (zero-add (length (double 34 n)))) in
    rw end (name_is t after (rw d (doubled_some 34 n some)))

even_is : (n : ℕ) → n % 2 ≡ 0 → (n % 2 == 0) ≡ true
even_is n h = rw h refl

quote_ends_hex : (after : Text) → begins is_ascii_hexdigit (39 ∷ after) ≡ false
quote_ends_hex after = refl

first_after : (h after : Text) → slice_index (h ++ 39 ∷ after) (length h) ≡ 39
first_after [] after = refl
first_after (b ∷ h) after = first_after h after

blob_is : (h after : Text) (other : Lexeme) → list_all is_ascii_hexdigit h ≡ true → length h % 2 ≡ 0 → blob (h ++ 39 ∷ after) other ≡ (Some (token.Blob h), length h + 3)
unfolding blob
blob_is h after other all even =
    rw (front_is is_ascii_hexdigit h (39 ∷ after) all refl, first_after h after, even, take_front h (39 ∷ after)) refl

pub take_drop : (n : ℕ) (z : Text) → z ≡ take n z ++ drop n z
take_drop n z = sym (take-append-drop n z)

drop_past : (t after : Text) (q : ℕ) → drop (suc (length t)) (t ++ q ∷ after) ≡ after
drop_past [] after q = refl
drop_past (b ∷ t) after q = drop_past t after q

one_quote : (q : ℕ) (t after : Text) → drop (length t + 2) ((q ∷ t) ++ q ∷ after) ≡ after
one_quote q t after = let e : length t + 2 ≡ suc (suc (length t)) = omega arith in rw e (drop_past t after q)

two_quotes : (x q : ℕ) (t after : Text) → drop (length t + 3) ((x ∷ q ∷ t) ++ q ∷ after) ≡ after
two_quotes x q t after = let e : length t + 3 ≡ suc (suc (suc (length t))) = omega arith in rw e (drop_past t after q)

-- ---- the lexeme at a token

-- at a start that is spelled out, in terms of its first bytes
abbrev at_start : Text → Lexeme
at_start [] = bad
at_start (b ∷ z) = token_lexeme b (slice_index z 0) (b ∷ z)

moved : (t : Token) (start other after : Text) → start ≡ other → LexedOrLonger t (at_start other) other after → LexedOrLonger t (at_start start) start after
moved t start other after e h = rw e h

lexed_quoted : (q after : Text) (n : Text) → q ≡ double 34 n → n ≢ [] → begins (is_byte 34) after ≡ false → LexedOrLonger (token.Quoted q) (at_start ((34 ∷ q) ++ 34 ∷ after)) ((34 ∷ q) ++ 34 ∷ after) after
unfolding token_lexeme begins_word
lexed_quoted q after n d some stops = inl (length q + 2, quoted_is q n after d some stops, omega arith, one_quote 34 q after)

lexed_text : (t after : Text) (s : Text) → t ≡ double 39 s → begins (is_byte 39) after ≡ false → LexedOrLonger (token.Text t) (at_start ((39 ∷ t) ++ 39 ∷ after)) ((39 ∷ t) ++ 39 ∷ after) after
unfolding token_lexeme begins_word
lexed_text t after s d stops = inl (length t + 2, text_is t s after d stops, omega arith, one_quote 39 t after)

lexed_blob : (x : ℕ) (h after : Text) → (x ≡ 88) ⊎ (x ≡ 120) → list_all is_ascii_hexdigit h ≡ true → length h % 2 ≡ 0 → LexedOrLonger (token.Blob h) (at_start ((x ∷ 39 ∷ h) ++ 39 ∷ after)) ((x ∷ 39 ∷ h) ++ 39 ∷ after) after
unfolding token_lexeme
lexed_blob x h after letter all even =
    inl (length h + 3, rw ((letter_begins x letter).0) (blob_is h after (word ((x ∷ 39 ∷ h) ++ 39 ∷ after)) all even), omega arith, two_quotes x 39 h after)

lexed_digits : (b : ℕ) (d after : Text) → is_ascii_digit b ≡ true → list_all is_ascii_digit (b ∷ d) ≡ true → begins is_in_word after ≡ false → LexedOrLonger (token.Digits (b ∷ d)) (at_start ((b ∷ d) ++ after)) ((b ∷ d) ++ after) after
unfolding token_lexeme
lexed_digits b d after first all stops =
    let w = digit_no_word b first in
    inl (length (b ∷ d), rw (letter_or_word b (slice_index (d ++ after) 0) w, w, first) (digits_is (b ∷ d) after all stops), omega arith, drop_front (b ∷ d) after)

-- ---- blobs and words

at_place : (z : Text) (n b : ℕ) → slice_index z n ≡ b → 0 < b → drop n z ≡ b ∷ drop (suc n) z
at_place [] zero b e h = absurd (omega (arith, e))
at_place [] (suc n) b e h = absurd (omega (arith, e))
at_place (x ∷ z) zero b e h = ap (λ y. y ∷ z) e
at_place (x ∷ z) (suc n) b e h = at_place z n b e h

eqb_is : (a b : ℕ) → (a == b) ≡ true → a ≡ b
eqb_is a b h = byte_is a b h

blob_found : (x : ℕ) (z : Text) (n : ℕ) → (x ≡ 88) ⊎ (x ≡ 120) → n ≡ prefix_len is_ascii_hexdigit z → (slice_index z n == 39 && (n % 2 == 0)) ≡ true → IsToken (token.Blob (take n z)) (x ∷ 39 ∷ z) (drop (n + 3) (x ∷ 39 ∷ z))
blob_found x z n letter is_len h =
    let both = and_both (slice_index z n == 39) (n % 2 == 0) h in
    let quote : drop n z ≡ 39 ∷ drop (suc n) z = at_place z n 39 (eqb_is (slice_index z n) 39 both.0) (lit< tt) in
    let three : n + 3 ≡ suc (suc (suc n)) = omega arith in
    let len : length (take n z) ≡ n = rw is_len (length-prefix_len is_ascii_hexdigit z) in (
      x,
      letter,
      rw three (ap (λ y. x ∷ 39 ∷ y) (take_drop n z ∙ ap (λ y. take n z ++ y) quote)),
      rw is_len (front_all is_ascii_hexdigit z),
      rw len (eqb_is (n % 2) 0 both.1),
    )

no_quote_in_word : (c : ℕ) → is_in_word c ≡ true → (c == 39) ≡ false
unfolding is_in_word
no_quote_in_word c h = grind (arith, nat_tests)

is_letter : (x : ℕ) → (x == 88 || x == 120) ≡ true → (x ≡ 88) ⊎ (x ≡ 120)
is_letter x h = grind (arith, nat_tests)

quote_outside : (z : Text) → begins is_in_word (39 ∷ z) ≡ false
unfolding is_in_word
quote_outside z = refl

shorter_after_blob : (n : ℕ) (z : Text) (x : ℕ) → length (drop (n + 3) (x ∷ 39 ∷ z)) < length (39 ∷ z)
shorter_after_blob n z x = omega (arith, length-drop (n + 3) (x ∷ 39 ∷ z))

lexed_letter : (x : ℕ) (z : Text) → (x == 88 || x == 120) ≡ true → begins_word x ≡ true → LexedOrLonger (token.Word (x ∷ [])) (blob z (word (x ∷ 39 ∷ z))) (x ∷ 39 ∷ z) (39 ∷ z)
unfolding blob
lexed_letter x z letter first =
    let n = prefix_len is_ascii_hexdigit z in
    test (slice_index z n == 39 && (n % 2 == 0))
    (λ e. rw e (inr (token.Blob (take n z), n + 3, refl, blob_found x z n (is_letter x letter) refl e, shorter_after_blob n z x)))
    (λ e. rw e (inl (1, word_is (x ∷ []) (39 ∷ z) (rw (word_goes_on x first) refl) (quote_outside z), omega arith, refl)))

letter_word : (x : ℕ) (w after : Text) → begins_word x ≡ true → list_all is_in_word (x ∷ w) ≡ true → ((x == 88 || x == 120) ≡ true) × ((slice_index (w ++ after) 0 == 39) ≡ true) → LexedOrLonger (token.Word (x ∷ w)) (blob (drop 2 ((x ∷ w) ++ after)) (word ((x ∷ w) ++ after))) ((x ∷ w) ++ after) after
letter_word x [] [] first all e = absurd (cc)
letter_word x [] (c ∷ z) first all e = let quote = eqb_is c 39 e.1 in rw quote (lexed_letter x z e.0 first)
letter_word x (y ∷ w) after first all e =
    let goes = and_both (is_in_word y) (list_all is_in_word w) (and_both (is_in_word x) (list_all is_in_word (y ∷ w)) all).1 in
    absurd (let k = no_quote_in_word y goes.0 in cc)

lexed_word : (x : ℕ) (w after : Text) → begins_word x ≡ true → list_all is_in_word (x ∷ w) ≡ true → begins is_in_word after ≡ false → LexedOrLonger (token.Word (x ∷ w)) (at_start ((x ∷ w) ++ after)) ((x ∷ w) ++ after) after
unfolding token_lexeme
lexed_word x w after first all stops =
    test ((x == 88 || x == 120) && slice_index (w ++ after) 0 == 39)
    (λ e. rw e (letter_word x w after first all (and_both (x == 88 || x == 120) (slice_index (w ++ after) 0 == 39) e)))
    (λ e. rw (e, first) (inl (length (x ∷ w), word_is (x ∷ w) after all stops, omega arith, drop_front (x ∷ w) after)))

-- ---- signs

abbrev LexedSign : Sign → Text → Type 0
LexedSign s after = LexedOrLonger (token.Sign s) (at_start (spelling s ++ after)) (spelling s ++ after) after

lexed_sign : (s : Sign) (after : Text) → LexedSign s after
unfolding token_lexeme begins_word sign long_sign short_sign
lexed_sign LeftParenthesis [] = inl (1, refl, omega arith, refl)
lexed_sign LeftParenthesis (c ∷ z) = test (c == 61) (λ e. rw e (inl (1, refl, omega arith, refl))) (λ e. rw e (inl (1, refl, omega arith, refl)))
lexed_sign RightParenthesis [] = inl (1, refl, omega arith, refl)
lexed_sign RightParenthesis (c ∷ z) = test (c == 61) (λ e. rw e (inl (1, refl, omega arith, refl))) (λ e. rw e (inl (1, refl, omega arith, refl)))
lexed_sign Comma [] = inl (1, refl, omega arith, refl)
lexed_sign Comma (c ∷ z) = test (c == 61) (λ e. rw e (inl (1, refl, omega arith, refl))) (λ e. rw e (inl (1, refl, omega arith, refl)))
lexed_sign Semicolon [] = inl (1, refl, omega arith, refl)
lexed_sign Semicolon (c ∷ z) = test (c == 61) (λ e. rw e (inl (1, refl, omega arith, refl))) (λ e. rw e (inl (1, refl, omega arith, refl)))
lexed_sign Plus [] = inl (1, refl, omega arith, refl)
lexed_sign Plus (c ∷ z) = test (c == 61) (λ e. rw e (inl (1, refl, omega arith, refl))) (λ e. rw e (inl (1, refl, omega arith, refl)))
lexed_sign Minus [] = inl (1, refl, omega arith, refl)
lexed_sign Minus (c ∷ z) = test (c == 61) (λ e. rw e (inl (1, refl, omega arith, refl))) (λ e. rw e (inl (1, refl, omega arith, refl)))
lexed_sign Star [] = inl (1, refl, omega arith, refl)
lexed_sign Star (c ∷ z) = test (c == 61) (λ e. rw e (inl (1, refl, omega arith, refl))) (λ e. rw e (inl (1, refl, omega arith, refl)))
lexed_sign Equal [] = inl (1, refl, omega arith, refl)
lexed_sign Equal (c ∷ z) = test (c == 61) (λ e. rw e (inr (token.Sign DoubleEqual, 2, refl, ap (λ x. 61 ∷ x ∷ z) (eqb_is c 61 e), omega arith))) (λ e. rw e (inl (1, refl, omega arith, refl)))
lexed_sign Less [] = inl (1, refl, omega arith, refl)
lexed_sign Less (c ∷ z) = test (c == 61) (λ e. rw e (inr (token.Sign LessOrEqual, 2, refl, ap (λ x. 60 ∷ x ∷ z) (eqb_is c 61 e), omega arith))) (λ f. rw f (test (c == 62) (λ e. rw e (inr (token.Sign LessGreater, 2, refl, ap (λ x. 60 ∷ x ∷ z) (eqb_is c 62 e), omega arith))) (λ e. rw e (inl (1, refl, omega arith, refl)))))
lexed_sign Greater [] = inl (1, refl, omega arith, refl)
lexed_sign Greater (c ∷ z) = test (c == 61) (λ e. rw e (inr (token.Sign GreaterOrEqual, 2, refl, ap (λ x. 62 ∷ x ∷ z) (eqb_is c 61 e), omega arith))) (λ e. rw e (inl (1, refl, omega arith, refl)))
lexed_sign DoubleEqual after = inl (2, refl, omega arith, refl)
lexed_sign LessGreater after = inl (2, refl, omega arith, refl)
lexed_sign BangEqual after = inl (2, refl, omega arith, refl)
lexed_sign LessOrEqual after = inl (2, refl, omega arith, refl)
lexed_sign GreaterOrEqual after = inl (2, refl, omega arith, refl)

lexed : (t : Token) (start after : Text) → IsToken t start after → LexedOrLonger t (at_start start) start after
lexed (token.Word []) start after g = absurd (cc)
lexed (token.Word (x ∷ w)) start after g = moved (token.Word (x ∷ w)) start ((x ∷ w) ++ after) after g.0 (lexed_word x w after g.1.0 g.1.1 g.1.2)
lexed (token.Quoted q) start after g = moved (token.Quoted q) start ((34 ∷ q) ++ 34 ∷ after) after g.3.0 (lexed_quoted q after g.0 g.1 g.2 g.3.1)
lexed (token.Digits []) start after g = absurd (cc)
lexed (token.Digits (x ∷ d)) start after g = moved (token.Digits (x ∷ d)) start ((x ∷ d) ++ after) after g.0 (lexed_digits x d after g.1 g.2 g.3)
lexed (token.Text t) start after g = moved (token.Text t) start ((39 ∷ t) ++ 39 ∷ after) after g.2.0 (lexed_text t after g.0 g.1 g.2.1)
lexed (token.Blob h) start after g = moved (token.Blob h) start ((g.0 ∷ 39 ∷ h) ++ 39 ∷ after) after g.2 (lexed_blob g.0 h after g.1 g.3 g.4)
lexed (token.Sign s) start after g = moved (token.Sign s) start (spelling s ++ after) after g (lexed_sign s after)
lexed (token.Dot w) start after g = absurd g
lexed token.Bad start after g = absurd g

-- ---- what stands at a place where a lexeme is no gap

abbrev Found : Text → Option Token → ℕ → Type 0
Found start None n = ⊥
Found start (Some token.Bad) n = n ≡ 1
Found start (Some t) n = IsToken t start (drop n start) × (0 < n)

found_word : (x : ℕ) (z : Text) → begins_word x ≡ true → Found (x ∷ z) (word (x ∷ z)).0 (word (x ∷ z)).1
unfolding word
found_word x z first =
    let goes = word_goes_on x first in
    ((take_drop (prefix_len is_in_word (x ∷ z)) (x ∷ z), (rw (goes, one-add) first, front_all is_in_word (x ∷ z), front_stops is_in_word (x ∷ z))), rw goes (omega arith))

begins_at : (z : Text) (n : ℕ) → is_in_word (slice_index z n) ≡ false → begins is_in_word (drop n z) ≡ false
begins_at [] zero h = refl
begins_at [] (suc n) h = refl
begins_at (b ∷ z) zero h = h
begins_at (b ∷ z) (suc n) h = begins_at z n h

found_digits : (x : ℕ) (z : Text) → is_ascii_digit x ≡ true → Found (x ∷ z) (digits (x ∷ z)).0 (digits (x ∷ z)).1
unfolding digits
found_digits x z first =
    let n = prefix_len is_ascii_digit (x ∷ z) in
    test (is_in_word (slice_index (x ∷ z) n))
    (λ e. rw e refl)
    (λ e. rw e ((take_drop n (x ∷ z), rw (first, one-add) first, front_all is_ascii_digit (x ∷ z), begins_at (x ∷ z) n e), rw first (omega arith)))

found_blob : (x : ℕ) (z : Text) → (x == 88 || x == 120) ≡ true → begins_word x ≡ true → Found (x ∷ 39 ∷ z) (blob z (word (x ∷ 39 ∷ z))).0 (blob z (word (x ∷ 39 ∷ z))).1
unfolding blob
found_blob x z letter first =
    let n = prefix_len is_ascii_hexdigit z in
    test (slice_index z n == 39 && (n % 2 == 0))
    (λ e. rw e (blob_found x z n (is_letter x letter) refl e, omega arith))
    (λ e. rw e (found_word x (39 ∷ z) first))

-- the text up to the quote that closes
inside_is : (q n m : ℕ) (z inside after : Text) → z ≡ inside ++ q ∷ after → m ≡ length inside → (take m z ≡ inside) × (drop (m + 2) (q ∷ z) ≡ after)
inside_is q n m z inside after e f =
    (rw (f, e) (take_front inside (q ∷ after)), rw (f, e) (one_quote q inside after))

found_text : (z : Text) (o : Option ℕ) → closing 39 0 z ≡ o → Found (39 ∷ z) (quote_token 39 z o).0 (quote_token 39 z o).1
found_text z None e = refl
found_text z (Some m) e =
    let k = closed_by 39 0 z m e in
    let len : m ≡ length (double 39 k.0) = omega (arith, k.4) in
    let i = inside_is 39 0 m z (double 39 k.0) k.1 k.2 len in
    ((k.0, i.0, (rw (i.0, i.1) (ap (λ x. 39 ∷ x) k.2), rw i.1 k.3)), omega arith)

some_inside : (m : ℕ) (n : Text) → suc m ≡ length (double 34 n) → n ≢ []
some_inside m [] e = λ h. absurd (omega (arith, e))
some_inside m (b ∷ n) e = λ h. cc

found_quoted : (z : Text) (o : Option ℕ) → closing 34 0 z ≡ o → Found (34 ∷ z) (quote_token 34 z o).0 (quote_token 34 z o).1
found_quoted z None e = refl
found_quoted z (Some zero) e = refl
found_quoted z (Some (suc m)) e =
    let k = closed_by 34 0 z (suc m) e in
    let len : suc m ≡ length (double 34 k.0) = omega (arith, k.4) in
    let i = inside_is 34 0 (suc m) z (double 34 k.0) k.1 k.2 len in
    rw (not_zero m) ((k.0, i.0, some_inside m k.0 len, (rw (i.0, i.1) (ap (λ x. 34 ∷ x) k.2), rw i.1 k.3)), omega arith)

short_is : (b : ℕ) (s : Sign) → short_sign b ≡ Some s → b ∷ [] ≡ spelling s
unfolding short_sign
short_is b LeftParenthesis h = let e : b ≡ 40 = grind (arith, nat_tests) in rw e refl
short_is b RightParenthesis h = let e : b ≡ 41 = grind (arith, nat_tests) in rw e refl
short_is b Comma h = let e : b ≡ 44 = grind (arith, nat_tests) in rw e refl
short_is b Semicolon h = let e : b ≡ 59 = grind (arith, nat_tests) in rw e refl
short_is b Plus h = let e : b ≡ 43 = grind (arith, nat_tests) in rw e refl
short_is b Minus h = let e : b ≡ 45 = grind (arith, nat_tests) in rw e refl
short_is b Star h = let e : b ≡ 42 = grind (arith, nat_tests) in rw e refl
short_is b Equal h = let e : b ≡ 61 = grind (arith, nat_tests) in rw e refl
short_is b Less h = let e : b ≡ 60 = grind (arith, nat_tests) in rw e refl
short_is b Greater h = let e : b ≡ 62 = grind (arith, nat_tests) in rw e refl
short_is b DoubleEqual h = absurd (grind (arith, nat_tests))
short_is b LessGreater h = absurd (grind (arith, nat_tests))
short_is b BangEqual h = absurd (grind (arith, nat_tests))
short_is b LessOrEqual h = absurd (grind (arith, nat_tests))
short_is b GreaterOrEqual h = absurd (grind (arith, nat_tests))

long_is : (b c : ℕ) (s : Sign) → long_sign b c ≡ Some s → b ∷ c ∷ [] ≡ spelling s
unfolding long_sign
long_is b c DoubleEqual h = let e : b ≡ 61 = grind (arith, nat_tests) in let f : c ≡ 61 = grind (arith, nat_tests) in rw (e, f) refl
long_is b c LessGreater h = let e : b ≡ 60 = grind (arith, nat_tests) in let f : c ≡ 62 = grind (arith, nat_tests) in rw (e, f) refl
long_is b c BangEqual h = let e : b ≡ 33 = grind (arith, nat_tests) in let f : c ≡ 61 = grind (arith, nat_tests) in rw (e, f) refl
long_is b c LessOrEqual h = let e : b ≡ 60 = grind (arith, nat_tests) in let f : c ≡ 61 = grind (arith, nat_tests) in rw (e, f) refl
long_is b c GreaterOrEqual h = let e : b ≡ 62 = grind (arith, nat_tests) in let f : c ≡ 61 = grind (arith, nat_tests) in rw (e, f) refl
long_is b c LeftParenthesis h = absurd (grind (arith, nat_tests))
long_is b c RightParenthesis h = absurd (grind (arith, nat_tests))
long_is b c Comma h = absurd (grind (arith, nat_tests))
long_is b c Semicolon h = absurd (grind (arith, nat_tests))
long_is b c Plus h = absurd (grind (arith, nat_tests))
long_is b c Minus h = absurd (grind (arith, nat_tests))
long_is b c Star h = absurd (grind (arith, nat_tests))
long_is b c Equal h = absurd (grind (arith, nat_tests))
long_is b c Less h = absurd (grind (arith, nat_tests))
long_is b c Greater h = absurd (grind (arith, nat_tests))

found_short : (b : ℕ) (z : Text) (o : Option Sign) → short_sign b ≡ o → Found (b ∷ z) (sign_token o 1 bad).0 (sign_token o 1 bad).1
found_short b z None e = refl
found_short b z (Some s) e = (ap (λ x. x ++ z) (short_is b s e), omega arith)

no_long_at_end : (b : ℕ) → long_sign b 0 ≡ None
unfolding long_sign
no_long_at_end b = test (b == 60) (λ e. rw e refl) (λ e. rw e refl)

found_sign : (b : ℕ) (z : Text) → Found (b ∷ z) (sign b (slice_index z 0)).0 (sign b (slice_index z 0)).1
unfolding sign
found_sign b [] = rw (no_long_at_end b) (found_short b [] (short_sign b) refl)
found_sign b (c ∷ z) =
    cases (long_sign b c)
    (λ e. rw e (found_short b (c ∷ z) (short_sign b) refl))
    (λ s e. rw e (ap (λ x. x ++ z) (long_is b c s e), omega arith))

found_letter : (x : ℕ) (z : Text) → ((x == 88 || x == 120) ≡ true) × ((slice_index z 0 == 39) ≡ true) → Found (x ∷ z) (blob (drop 2 (x ∷ z)) (word (x ∷ z))).0 (blob (drop 2 (x ∷ z)) (word (x ∷ z))).1
found_letter x [] e = absurd (cc)
found_letter x (c ∷ z) e =
    let quote = eqb_is c 39 e.1 in
    rw quote (found_blob x z e.0 (letter_begins x (is_letter x e.0)).1)

found : (b : ℕ) (z : Text) → Found (b ∷ z) (at_start (b ∷ z)).0 (at_start (b ∷ z)).1
unfolding token_lexeme in_quotes
found b z =
    test ((b == 88 || b == 120) && slice_index z 0 == 39)
    (λ e. rw e (found_letter b z (and_both (b == 88 || b == 120) (slice_index z 0 == 39) e)))
    (λ e.
    test (begins_word b)
    (λ f. rw (e, f) (found_word b z f))
    (λ f.
    test (is_ascii_digit b)
    (λ g. rw (e, f, g) (found_digits b z g))
    (λ g.
    test (b == 39)
    (λ h. rw (e, f, g, h) (rw (eqb_is b 39 h) (found_text z (closing 39 0 z) refl)))
    (λ h.
    test (b == 34)
    (λ k. rw (e, f, g, h, k) (rw (eqb_is b 34 k) (found_quoted z (closing 34 0 z) refl)))
    (λ k. rw (e, f, g, h, k) (found_sign b z))))))

-- ---- white space and comments

same_slash : (body r : Text) → begins (λ c. c == 47) (body ++ 42 ∷ []) ≡ (slice_index (body ++ 42 ∷ 47 ∷ r) 0 == 47)
same_slash [] r = refl
same_slash (c ∷ body) r = refl

-- a comment up to its `*/`, or the end
abbrev Block : Text → Type 0
Block z = ((body : Text) × (z ≡ body ++ 42 ∷ 47 ∷ drop (block_len z) z) × (is_open (body ++ 42 ∷ []) ≡ true)) ⊎ ((is_open z ≡ true) × (drop (block_len z) z ≡ []))

block : (z : Text) → Block z
block [] = inr (refl, refl)
block (b ∷ z) =
    test (b == 42 && slice_index z 0 == 47)
    (λ e. rw e (inl ([], block_end b z (and_both (b == 42) (slice_index z 0 == 47) e), refl)))
    (λ e. rw e
    (⊎_elim
    (λ (k : (body : Text) × (z ≡ body ++ 42 ∷ 47 ∷ drop (block_len z) z) × (is_open (body ++ 42 ∷ []) ≡ true)).
    let not_yet : (b == 42 && begins (λ c. c == 47) (k.0 ++ 42 ∷ [])) ≡ false =
    ap (λ x. b == 42 && x) (same_slash k.0 (drop (block_len z) z)) ∙ ap (λ x. b == 42 && (slice_index x 0 == 47)) (sym k.1) ∙ e in
    inl (b ∷ k.0, ap (λ x. b ∷ x) k.1, rw not_yet k.2))
    (λ (k : (is_open z ≡ true) × (drop (block_len z) z ≡ [])).
    let not_yet : (b == 42 && begins (λ c. c == 47) z) ≡ false = ap (λ x. b == 42 && x) (begins_slash z) ∙ e in
    inr (rw not_yet k.0, k.1))
    (block z)))

abbrev GapFound : ℕ → Text → Type 0
GapFound b z = (n : ℕ) × (gap b (b ∷ z) ≡ (None, n)) × (0 < n) × GapAt (b ∷ z) (drop n (b ∷ z))

or_second : (x y : Bool) → (x || y) ≡ true → x ≡ false → y ≡ true
or_second true y h e = absurd (cc)
or_second false y h e = h

line_found : (b c : ℕ) (z : Text) → is_white b ≡ false → (b == 45) ≡ true → (c == 45) ≡ true → GapFound b (c ∷ z)
unfolding gap line_len
line_found b c z w e f =
    let n = prefix_len is_in_line z in
    let two : 2 + n ≡ suc (suc n) = omega arith in (
      2 + n,
      rw (w, e) refl,
      omega arith,
      rw two (inr (inl (take n z, ap (λ x. x ∷ c ∷ z) (eqb_is b 45 e) ∙ ap (λ x. 45 ∷ x ∷ z) (eqb_is c 45 f) ∙ ap (λ x. 45 ∷ 45 ∷ x) (take_drop n z), passes_line (take n z) (front_all is_in_line z), stops_line (drop n z) (front_stops is_in_line z)))),
    )

block_found : (b c : ℕ) (z : Text) → is_white b ≡ false → (b == 45) ≡ false → (b == 47) ≡ true → (c == 42) ≡ true → GapFound b (c ∷ z)
unfolding gap
block_found b c z w e f g =
    let n = block_len z in
    let two : 2 + n ≡ suc (suc n) = omega arith in
    let starts = ap (λ x. x ∷ c ∷ z) (eqb_is b 47 f) ∙ ap (λ x. 47 ∷ x ∷ z) (eqb_is c 42 g) in (
      2 + n,
      rw (w, e) refl,
      omega arith,
      rw two
          (⊎_elim
          (λ (k : (body : Text) × (z ≡ body ++ 42 ∷ 47 ∷ drop n z) × (is_open (body ++ 42 ∷ []) ≡ true)). inr (inr (inl (k.0, starts ∙ ap (λ x. 47 ∷ 42 ∷ x) k.1, open_lacks (k.0 ++ 42 ∷ []) k.2))))
          (λ (k : (is_open z ≡ true) × (drop n z ≡ [])). inr (inr (inr (z, starts, open_lacks z k.0, k.1))))
          (block z)),
    )

no_minus : (b : ℕ) → (b == 47) ≡ true → (b == 45) ≡ false
no_minus b h = grind (arith, nat_tests)

comment_found : (b : ℕ) (z : Text) → is_white b ≡ false → ((b == 45 && slice_index z 0 == 45) || (b == 47 && slice_index z 0 == 42)) ≡ true → GapFound b z
comment_found b [] w h = absurd (grind (arith, nat_tests))
comment_found b (c ∷ z) w h =
    test (b == 45 && c == 45)
    (λ e. let k = and_both (b == 45) (c == 45) e in line_found b c z w k.0 k.1)
    (λ e.
    let k = and_both (b == 47) (c == 42) (or_second (b == 45 && c == 45) (b == 47 && c == 42) h e) in
    block_found b c z w (no_minus b k.0) k.0 k.1)

gap_found : (b : ℕ) (z : Text) → is_gap b (slice_index z 0) ≡ true → GapFound b z
unfolding gap
gap_found b z h =
    test (is_white b)
    (λ w. (1, rw w refl, omega arith, inl (b, refl, w)))
    (λ w. comment_found b z w (rw w at h))

white_gap : (b c : ℕ) → is_white b ≡ true → is_gap b c ≡ true
white_gap b c w = rw w refl

comment_gap : (b c : ℕ) → ((b ≡ 45) × (c ≡ 45)) ⊎ ((b ≡ 47) × (c ≡ 42)) → is_gap b c ≡ true
comment_gap b c (inl e) = rw (e.0, e.1) refl
comment_gap b c (inr e) = rw (e.0, e.1) refl

gap_starts : (b : ℕ) (z later : Text) → GapAt (b ∷ z) later → is_gap b (slice_index z 0) ≡ true
gap_starts b z later (inl g) = let e : b ≡ g.0 = cc in white_gap b (slice_index z 0) (rw e g.2)
gap_starts b z later (inr (inl g)) =
    let e : b ≡ 45 = cc in
    let f : z ≡ (45 ∷ g.0) ++ later = cc in
    comment_gap b (slice_index z 0) (inl (e, ap (λ x. slice_index x 0) f))
gap_starts b z later (inr (inr (inl g))) =
    let e : b ≡ 47 = cc in
    let f : z ≡ (42 ∷ g.0) ++ 42 ∷ 47 ∷ later = cc in
    comment_gap b (slice_index z 0) (inr (e, ap (λ x. slice_index x 0) f))
gap_starts b z later (inr (inr (inr g))) =
    let e : b ≡ 47 = cc in
    let f : z ≡ 42 ∷ g.0 = cc in
    comment_gap b (slice_index z 0) (inr (e, ap (λ x. slice_index x 0) f))

abbrev NoGap : Text → Type 0
NoGap start = (later : Text) → GapAt start later → ⊥

no_gap_at : (b : ℕ) (z : Text) → is_gap b (slice_index z 0) ≡ false → NoGap (b ∷ z)
no_gap_at b z h later g = let k = gap_starts b z later g in cc

no_gap_nil : NoGap []
no_gap_nil later (inl g) = cc
no_gap_nil later (inr (inl g)) = cc
no_gap_nil later (inr (inr (inl g))) = cc
no_gap_nil later (inr (inr (inr g))) = cc

is_gap_no : (b : ℕ) (z : Text) → NoGap (b ∷ z) → is_gap b (slice_index z 0) ≡ false
is_gap_no b z lacks = test (is_gap b (slice_index z 0)) (λ e. let k = gap_found b z e in absurd (lacks (drop k.0 (b ∷ z)) k.3)) (λ e. e)

not_true : (x : Bool) → not x ≡ true → x ≡ false
not_true true h = cc
not_true false h = refl

block_len_is : (body after : Text) → is_open (body ++ 42 ∷ []) ≡ true → block_len (body ++ 42 ∷ 47 ∷ after) ≡ length body + 2
block_len_is [] after h = refl
block_len_is (b ∷ body) after h =
    let both = and_both (not (b == 42 && begins (λ c. c == 47) (body ++ 42 ∷ []))) (is_open (body ++ 42 ∷ [])) h in
    let not_yet : (b == 42 && slice_index (body ++ 42 ∷ 47 ∷ after) 0 == 47) ≡ false = ap (λ x. b == 42 && x) (sym (same_slash body after)) ∙ not_true (b == 42 && begins (λ c. c == 47) (body ++ 42 ∷ [])) both.0 in
    rw (not_yet, block_len_is body after both.1) (omega arith)

block_len_open : (z : Text) → is_open z ≡ true → block_len z ≡ length z
block_len_open [] h = refl
block_len_open (b ∷ z) h =
    let both = and_both (not (b == 42 && begins (λ c. c == 47) z)) (is_open z) h in
    let not_yet : (b == 42 && slice_index z 0 == 47) ≡ false = ap (λ x. b == 42 && x) (sym (begins_slash z)) ∙ not_true (b == 42 && begins (λ c. c == 47) z) both.0 in
    rw (not_yet, block_len_open z both.1) refl

drop_whole : (z : Text) → drop (length z) z ≡ []
drop_whole [] = refl
drop_whole (b ∷ z) = drop_whole z

-- ---- lists

lexeme_gap : (b : ℕ) (z : Text) → is_gap b (slice_index z 0) ≡ true → lexeme b (b ∷ z) ≡ gap b (b ∷ z)
unfolding lexeme
lexeme_gap b z h = rw h refl

lexeme_start : (b : ℕ) (z : Text) → is_gap b (slice_index z 0) ≡ false → lexeme b (b ∷ z) ≡ at_start (b ∷ z)
unfolding lexeme
lexeme_start b z h = rw h refl

lexed_tokens : (b : ℕ) (z : Text) (o : Option Token) (n : ℕ) → lexeme b (b ∷ z) ≡ (o, n) → 0 < n → tokens_of (b ∷ z) ≡ put o (tokens_of (drop n (b ∷ z)))
lexed_tokens b z o n e moves =
    let moves' : 0 < (lexeme b (b ∷ z)).1 = rw e moves in
    tokens_of-step b z moves' ∙ ap (λ (l : Lexeme). put l.0 (tokens_of (drop l.1 (b ∷ z)))) e

abbrev GapIs : ℕ → Text → Text → Type 0
GapIs b z later = (n : ℕ) × (gap b (b ∷ z) ≡ (None, n)) × (0 < n) × (drop n (b ∷ z) ≡ later)

white_len : (b : ℕ) (z later : Text) → is_white b ≡ true → z ≡ later → GapIs b z later
unfolding gap
white_len b z later w e = (1, rw w refl, omega arith, e)

line_gap : (line after : Text) → list_all is_in_line line ≡ true → begins is_in_line after ≡ false → GapIs 45 (45 ∷ line ++ after) after
unfolding gap line_len
line_gap line after all stops =
    let n = front_is is_in_line line after all stops in
    let two : 2 + length line ≡ suc (suc (length line)) = omega arith in
    (2 + length line, rw n refl, omega arith, rw two (drop_front line after))

drop_two : (body after : Text) → drop (length body + 2) (body ++ 42 ∷ 47 ∷ after) ≡ after
drop_two [] after = refl
drop_two (b ∷ body) after =
    let e : length (b ∷ body) + 2 ≡ suc (length body + 2) = omega arith in rw e (drop_two body after)

block_gap : (body after : Text) → is_open (body ++ 42 ∷ []) ≡ true → GapIs 47 (42 ∷ body ++ 42 ∷ 47 ∷ after) after
unfolding gap
block_gap body after open_to =
    let n = block_len_is body after open_to in
    let two : 2 + (length body + 2) ≡ suc (suc (length body + 2)) = omega arith in
    (2 + (length body + 2), rw n refl, omega arith, rw two (drop_two body after))

last_gap : (body : Text) → is_open body ≡ true → GapIs 47 (42 ∷ body) []
unfolding gap
last_gap body open_to =
    let n = block_len_open body open_to in
    let two : 2 + length body ≡ suc (suc (length body)) = omega arith in
    (2 + length body, rw n refl, omega arith, rw two (drop_whole body))

-- the length of a gap that is spelled out
gap_len : (b : ℕ) (z later : Text) → GapAt (b ∷ z) later → GapIs b z later
gap_len b z later (inl g) =
    let e : b ≡ g.0 = cc in
    let f : z ≡ later = cc in
    white_len b z later (rw e g.2) f
gap_len b z later (inr (inl g)) =
    let e : b ≡ 45 = cc in
    let f : z ≡ (45 ∷ g.0) ++ later = cc in
    rw (e, f) (line_gap g.0 later (line_passes g.0 g.2) (line_stops later g.3))
gap_len b z later (inr (inr (inl g))) =
    let e : b ≡ 47 = cc in
    let f : z ≡ (42 ∷ g.0) ++ 42 ∷ 47 ∷ later = cc in
    rw (e, f) (block_gap g.0 later (lacks_open (g.0 ++ 42 ∷ []) g.2))
gap_len b z later (inr (inr (inr g))) =
    let e : b ≡ 47 = cc in
    let f : z ≡ 42 ∷ g.0 = cc in
    rw (e, f, g.3) (last_gap g.0 (lacks_open g.0 g.2))

one_gap : (text next : Text) → GapAt text next → tokens_of text ≡ tokens_of next
one_gap [] next g = absurd (no_gap_nil next g)
one_gap (b ∷ z) next g =
    let l = gap_len b z next g in
    lexed_tokens b z None l.0 (lexeme_gap b z (gap_starts b z next g) ∙ l.1) l.2 ∙ ap tokens_of l.3

gap_tokens : (places : List Text) (text start : Text) → GapsAt places text start → tokens_of text ≡ tokens_of start
gap_tokens [] text start g = ap tokens_of g
gap_tokens (next ∷ places) text start g = one_gap text next g.0 ∙ gap_tokens places next start g.1

token_tokens : (t : Token) (b : ℕ) (z after : Text) → NoGap (b ∷ z) → IsLongest t (b ∷ z) after → tokens_of (b ∷ z) ≡ t ∷ tokens_of after
token_tokens t b z after lacks at =
    let starts = lexeme_start b z (is_gap_no b z lacks) in
    ⊎_elim
    (λ (l : Lexed t (at_start (b ∷ z)) (b ∷ z) after). lexed_tokens b z (Some t) l.0 (starts ∙ l.1) l.2 ∙ ap (λ x. t ∷ tokens_of x) l.3)
    (λ (l : Longer (at_start (b ∷ z)) (b ∷ z) after). absurd (omega (arith, l.4, at.1 l.0 (drop l.1 (b ∷ z)) l.3)))
    (lexed t (b ∷ z) after at.0)

bad_found : (start : Text) (o : Option Token) (n : ℕ) → Found start o n → ((other : Token) (left : Text) → IsToken other start left → ⊥) → (o ≡ Some token.Bad) × (n ≡ 1)
bad_found start None n f lacks = absurd f
bad_found start (Some token.Bad) n f lacks = (refl, f)
bad_found start (Some (token.Word x)) n f lacks = absurd (lacks (token.Word x) (drop n start) f.0)
bad_found start (Some (token.Quoted x)) n f lacks = absurd (lacks (token.Quoted x) (drop n start) f.0)
bad_found start (Some (token.Digits x)) n f lacks = absurd (lacks (token.Digits x) (drop n start) f.0)
bad_found start (Some (token.Text x)) n f lacks = absurd (lacks (token.Text x) (drop n start) f.0)
bad_found start (Some (token.Blob x)) n f lacks = absurd (lacks (token.Blob x) (drop n start) f.0)
bad_found start (Some (token.Sign x)) n f lacks = absurd (lacks (token.Sign x) (drop n start) f.0)
bad_found start (Some (token.Dot x)) n f lacks = absurd f.0

bad_tokens : (b : ℕ) (z : Text) → NoGap (b ∷ z) → ((other : Token) (left : Text) → IsToken other (b ∷ z) left → ⊥) → tokens_of (b ∷ z) ≡ token.Bad ∷ tokens_of z
bad_tokens b z lacks others =
    let starts = lexeme_start b z (is_gap_no b z lacks) in
    let k = bad_found (b ∷ z) (at_start (b ∷ z)).0 (at_start (b ∷ z)).1 (found b z) others in
    lexed_tokens b z (Some token.Bad) 1 (starts ∙ rw (← k.0, ← k.1) refl) (omega arith)

none_at_end : (t : Token) (after : Text) → IsToken t [] after → ⊥
none_at_end (token.Word []) after g = cc
none_at_end (token.Word (x ∷ w)) after g = cc
none_at_end (token.Quoted q) after g = let e = g.3.0 in cc
none_at_end (token.Digits []) after g = cc
none_at_end (token.Digits (x ∷ w)) after g = cc
none_at_end (token.Text q) after g = let e = g.2.0 in cc
none_at_end (token.Blob h) after g = let e = g.2 in cc
none_at_end (token.Sign LeftParenthesis) after g = cc
none_at_end (token.Sign RightParenthesis) after g = cc
none_at_end (token.Sign Comma) after g = cc
none_at_end (token.Sign Semicolon) after g = cc
none_at_end (token.Sign Plus) after g = cc
none_at_end (token.Sign Minus) after g = cc
none_at_end (token.Sign Star) after g = cc
none_at_end (token.Sign Equal) after g = cc
none_at_end (token.Sign DoubleEqual) after g = cc
none_at_end (token.Sign LessGreater) after g = cc
none_at_end (token.Sign BangEqual) after g = cc
none_at_end (token.Sign Less) after g = cc
none_at_end (token.Sign LessOrEqual) after g = cc
none_at_end (token.Sign Greater) after g = cc
none_at_end (token.Sign GreaterOrEqual) after g = cc
none_at_end (token.Dot w) after g = g
none_at_end token.Bad after g = g

proper_at : (t : Token) (start after : Text) → NoGap start → IsLongest t start after → tokens_of start ≡ t ∷ tokens_of after
proper_at t [] after lacks at = absurd (none_at_end t after at.0)
proper_at t (b ∷ z) after lacks at = token_tokens t b z after lacks at

tokens_at : (t : Token) (start after : Text) → NoGap start → TokenAt t start after → tokens_of start ≡ t ∷ tokens_of after
tokens_at (token.Word x) start after lacks at = proper_at (token.Word x) start after lacks at
tokens_at (token.Quoted x) start after lacks at = proper_at (token.Quoted x) start after lacks at
tokens_at (token.Digits x) start after lacks at = proper_at (token.Digits x) start after lacks at
tokens_at (token.Text x) start after lacks at = proper_at (token.Text x) start after lacks at
tokens_at (token.Blob x) start after lacks at = proper_at (token.Blob x) start after lacks at
tokens_at (token.Sign x) start after lacks at = proper_at (token.Sign x) start after lacks at
tokens_at (token.Dot x) start after lacks at = proper_at (token.Dot x) start after lacks at
tokens_at token.Bad start after lacks at =
    let lacks' : NoGap (at.0 ∷ after) = rw at.1 at lacks in
    let others : (other : Token) (left : Text) → IsToken other (at.0 ∷ after) left → ⊥ = rw at.1 at at.2 in
    rw at.1 (bad_tokens at.0 after lacks' others)

pub tokens_are : (text : Text) (ts : List Token) → IsTokens text ts → tokens_of text ≡ ts
tokens_are text [] g = gap_tokens g.0 text [] g.1 ∙ tokens_of-nil
tokens_are text (t ∷ ts) g =
    gap_tokens g.2.0 text g.0 g.2.1 ∙ tokens_at t g.0 g.1 g.2.2 g.3 ∙ ap (λ x. t ∷ x) (tokens_are g.1 ts g.4)

gap_more : (text next : Text) (ts : List Token) → GapAt text next → IsTokens next ts → IsTokens text ts
gap_more text next [] at g = (next ∷ g.0, (at, g.1), g.2)
gap_more text next (t ∷ ts) at g = (g.0, g.1, (next ∷ g.2.0, (at, g.2.1), g.2.2), g.3, g.4)

no_gap : (start : Text) → NoGap start → Gap start start
no_gap start lacks = ([], refl, lacks)

some_same : {A : Type 0} {a b : A} → Some a ≡ Some b → a ≡ b
some_same e = cc

lexeme_parts : {l : Lexeme} {o : Option Token} {n : ℕ} → l ≡ (o, n) → (l.0 ≡ o) × (l.1 ≡ n)
lexeme_parts e = (ap (λ (x : Lexeme). x.0) e, ap (λ (x : Lexeme). x.1) e)

longest_at : (b : ℕ) (z : Text) (t : Token) (n : ℕ) → at_start (b ∷ z) ≡ (Some t, n) → IsToken t (b ∷ z) (drop n (b ∷ z)) → IsLongest t (b ∷ z) (drop n (b ∷ z))
longest_at b z t n e g = (
  g,
  λ other left h.
      ⊎_elim
      (λ (l : Lexed other (at_start (b ∷ z)) (b ∷ z) left).
      let same_len : l.0 ≡ n = sym (lexeme_parts l.1).1 ∙ (lexeme_parts e).1 in
      let is_left : drop n (b ∷ z) ≡ left = rw same_len at l.3 in
      omega (arith, ap length is_left))
      (λ (l : Longer (at_start (b ∷ z)) (b ∷ z) left).
      let same_len : l.1 ≡ n = sym (lexeme_parts l.2).1 ∙ (lexeme_parts e).1 in
      let less : length (drop n (b ∷ z)) < length left = rw same_len at l.4 in
      omega arith)
      (lexed other (b ∷ z) left h),
)

bad_is_none : (b : ℕ) (z : Text) (n : ℕ) → at_start (b ∷ z) ≡ (Some token.Bad, n) → (other : Token) (left : Text) → IsToken other (b ∷ z) left → ⊥
bad_is_none b z n e other left h =
    ⊎_elim
    (λ (l : Lexed other (at_start (b ∷ z)) (b ∷ z) left).
    let same_token : other ≡ token.Bad = some_same (sym (lexeme_parts l.1).0 ∙ (lexeme_parts e).0) in
    rw same_token at h)
    (λ (l : Longer (at_start (b ∷ z)) (b ∷ z) left).
    let same_token : l.0 ≡ token.Bad = some_same (sym (lexeme_parts l.2).0 ∙ (lexeme_parts e).0) in
    rw same_token at l.3)
    (lexed other (b ∷ z) left h)

drop_shorter : (n b : ℕ) (z : Text) → 0 < n → length (drop n (b ∷ z)) ≤ length z
drop_shorter n b z h = omega (arith, length-drop n (b ∷ z))

module _ (b : ℕ) (z : Text) (others : (rest : Text) → length rest ≤ length z → IsTokens rest (tokens_of rest)) (starts : is_gap b (slice_index z 0) ≡ false) where
  proper_lexeme : (t : Token) (n : ℕ) → at_start (b ∷ z) ≡ (Some t, n) → 0 < n → TokenAt t (b ∷ z) (drop n (b ∷ z)) → IsTokens (b ∷ z) (tokens_of (b ∷ z))
  proper_lexeme t n e moves at =
      rw (lexed_tokens b z (Some t) n (lexeme_start b z starts ∙ e) moves)
      (b ∷ z, drop n (b ∷ z), no_gap (b ∷ z) (no_gap_at b z starts), at, others (drop n (b ∷ z)) (drop_shorter n b z moves))

  one_lexeme : (o : Option Token) (n : ℕ) → at_start (b ∷ z) ≡ (o, n) → Found (b ∷ z) o n → IsTokens (b ∷ z) (tokens_of (b ∷ z))
  one_lexeme None n e f = absurd f
  one_lexeme (Some token.Bad) n e f =
      let e1 : at_start (b ∷ z) ≡ (Some token.Bad, 1) = rw f at e in
      proper_lexeme token.Bad 1 e1 (omega arith) (b, refl, λ other left h. bad_is_none b z 1 e1 other left h)
  one_lexeme (Some (token.Word x)) n e f = proper_lexeme (token.Word x) n e f.1 (longest_at b z (token.Word x) n e f.0)
  one_lexeme (Some (token.Quoted x)) n e f = proper_lexeme (token.Quoted x) n e f.1 (longest_at b z (token.Quoted x) n e f.0)
  one_lexeme (Some (token.Digits x)) n e f = proper_lexeme (token.Digits x) n e f.1 (longest_at b z (token.Digits x) n e f.0)
  one_lexeme (Some (token.Text x)) n e f = proper_lexeme (token.Text x) n e f.1 (longest_at b z (token.Text x) n e f.0)
  one_lexeme (Some (token.Blob x)) n e f = proper_lexeme (token.Blob x) n e f.1 (longest_at b z (token.Blob x) n e f.0)
  one_lexeme (Some (token.Sign x)) n e f = proper_lexeme (token.Sign x) n e f.1 (longest_at b z (token.Sign x) n e f.0)
  one_lexeme (Some (token.Dot x)) n e f = absurd f.0

are_tokens_from : (n : ℕ) (text : Text) → length text ≤ n → IsTokens text (tokens_of text)
are_tokens_from n [] h = rw tokens_of-nil ([], refl, no_gap_nil)
are_tokens_from zero (b ∷ z) h = absurd (omega arith)
are_tokens_from (suc n) (b ∷ z) h =
    test (is_gap b (slice_index z 0))
    (λ e.
    let k = gap_found b z e in
    rw (lexed_tokens b z None k.0 (lexeme_gap b z e ∙ k.1) k.2)
    (gap_more (b ∷ z) (drop k.0 (b ∷ z)) (tokens_of (drop k.0 (b ∷ z))) k.3 (are_tokens_from n (drop k.0 (b ∷ z)) (omega (arith, drop_shorter k.0 b z k.2)))))
    (λ e. one_lexeme b z (λ rest l. are_tokens_from n rest (omega arith)) e (at_start (b ∷ z)).0 (at_start (b ∷ z)).1 refl (found b z))

pub are_tokens : (text : Text) → IsTokens text (tokens_of text)
are_tokens text = are_tokens_from (length text) text (omega arith)
