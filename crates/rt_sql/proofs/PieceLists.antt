-- The tokens of a piece of a script.
use Rattle.std.proofs.Common.{◌≡◌, ℕ, inl, inr, true, false, ◌==◌, List, [], ◌∷◌, ◌++◌, length, take, drop, refl, ap, ◌∙◌, sym, arith}
use Rattle.std.proofs.Math.Numerals.{one-add}
use Rattle.std.proofs.lemmas.Bool.Decides.{nat_tests}
use Rattle.rt_sql.specs.declared.token.Token.{Token}
use Rattle.rt_sql.specs.declared.token.Token.TheVariants as token
use Rattle.rt_sql.specs.Token.{Text, begins_word, is_in_word, begins}
use Rattle.rt_sql.specs.Tokens.{is_byte, IsDotWord, IsDotLine, PieceTokens}
use Rattle.rt_sql.specs.Lex.{dot_len, tokens_of, piece_tokens}
use Rattle.rt_sql.proofs.Basics.{test}
use Rattle.rt_sql.proofs.Cuts.{word_goes_on}
use Rattle.rt_sql.proofs.TokenLists.{tokens_are, are_tokens, front_is, front_all, front_stops, take_front, drop_front, take_drop}
use Rattle.rt_sql.proofs.Lexing.{tokens_of-nil}

piece_dot : (z : Text) → piece_tokens (46 ∷ z) ≡ token.Dot (take (dot_len z) z) ∷ tokens_of (drop (dot_len z) z)
unfolding piece_tokens
piece_dot z = refl

piece_other : (z : Text) → begins (is_byte 46) z ≡ false → piece_tokens z ≡ tokens_of z
unfolding piece_tokens
piece_other [] h = sym tokens_of-nil
piece_other (b ∷ z) h = rw h refl

dot_len_none : (after : Text) → begins begins_word after ≡ false → dot_len after ≡ 0
dot_len_none [] h = refl
dot_len_none (b ∷ z) h = rw h refl

dot_len_is : (w after : Text) → IsDotWord w after → dot_len (w ++ after) ≡ length w
dot_len_is [] after g = dot_len_none after g
dot_len_is (b ∷ w) after g = rw g.0 (front_is is_in_word (b ∷ w) after g.1 g.2)

dot_tokens : (w after : Text) → IsDotWord w after → piece_tokens (46 ∷ w ++ after) ≡ token.Dot w ∷ tokens_of after
dot_tokens w after g =
    let n = dot_len_is w after g in
    piece_dot (w ++ after) ∙ rw (n, take_front w after, drop_front w after) refl

dot_line_tokens : (text : Text) (ts : List Token) → IsDotLine text ts → piece_tokens text ≡ ts
dot_line_tokens text [] g = absurd g
dot_line_tokens text (token.Dot w ∷ ts) g = ap piece_tokens g.1 ∙ dot_tokens w g.0 g.2 ∙ ap (λ x. token.Dot w ∷ x) (tokens_are g.0 ts g.3)
dot_line_tokens text (token.Word x ∷ ts) g = absurd g
dot_line_tokens text (token.Quoted x ∷ ts) g = absurd g
dot_line_tokens text (token.Digits x ∷ ts) g = absurd g
dot_line_tokens text (token.Text x ∷ ts) g = absurd g
dot_line_tokens text (token.Blob x ∷ ts) g = absurd g
dot_line_tokens text (token.Sign x ∷ ts) g = absurd g
dot_line_tokens text (token.Bad ∷ ts) g = absurd g

pub piece_tokens_are : (text : Text) (ts : List Token) → PieceTokens text ts → piece_tokens text ≡ ts
piece_tokens_are text ts (inl g) = dot_line_tokens text ts g
piece_tokens_are text ts (inr g) = piece_other text g.0 ∙ tokens_are text ts g.1

dot_word : (z : Text) → IsDotWord (take (dot_len z) z) (drop (dot_len z) z)
dot_word [] = refl
dot_word (b ∷ z) =
    test (begins_word b)
    (λ e. rw (e, word_goes_on b e, one-add) (e, rw (word_goes_on b e) (front_all is_in_word z), front_stops is_in_word z))
    (λ e. rw (e) e)

byte_is : (x y : ℕ) → (x == y) ≡ true → x ≡ y
byte_is x y h = grind (arith, nat_tests)

dot_line : (b : ℕ) (z : Text) → b ≡ 46 → IsDotLine (b ∷ z) (piece_tokens (b ∷ z))
dot_line b z e =
    let n = dot_len z in
    rw (e, piece_dot z) (drop n z, ap (λ x. 46 ∷ x) (take_drop n z), dot_word z, are_tokens (drop n z))

pub are_piece_tokens : (text : Text) → PieceTokens text (piece_tokens text)
are_piece_tokens [] = inr (refl, rw (piece_other [] refl) (are_tokens []))
are_piece_tokens (b ∷ z) =
    test (b == 46)
    (λ e. inl (dot_line b z (byte_is b 46 e)))
    (λ e. inr (e, rw (piece_other (b ∷ z) e) (are_tokens (b ∷ z))))
