-- What a cursor shows first, and after that.
use Rattle.std.proofs.lemmas.Bool.Decides.{nat_tests}
use Rattle.std.proofs.Common.{◌≢◌, ℕ, false, ◌==◌, ◌∷◌, length, slice_index, take, drop, arith, ◌≡◌, List, [], Option, Some, None, refl, ap, ◌∙◌, sym}
use Rattle.rt_sql.specs.declared.token.Token.{Token}
use Rattle.rt_sql.specs.declared.tokens.Tokens.TheInside.{Inside}
use Rattle.rt_sql.specs.Token.{Text}
use Rattle.rt_sql.specs.Cursor.{tokens_left, EndsWithText}
use Rattle.rt_sql.specs.Lex.{put, tokens_of, dot_len, piece_tokens}
use Rattle.rt_sql.specs.declared.token.Token.TheVariants as token
use Rattle.rt_sql.specs.Reading.{first, rest}
use Rattle.rt_sql.proofs.Lexing.{tokens_of-nil}

first-put : (next : Option Token) (ts : List Token) → (next ≡ None → ts ≡ []) → first (put next ts) ≡ next
unfolding first
first-put None ts h = rw (h refl) refl
first-put (Some t) ts h = refl

rest-put : (next : Option Token) (ts : List Token) → (next ≡ None → ts ≡ []) → rest (put next ts) ≡ ts
unfolding rest
rest-put None ts h = rw (h refl) refl
rest-put (Some t) ts h = refl

no_tokens : (t : Inside) → EndsWithText t → t.next ≡ None → tokens_of t.text.now ≡ []
no_tokens t ends none = ap tokens_of (ends none) ∙ tokens_of-nil

pub first_left : (t : Inside) → EndsWithText t → first (tokens_left t) ≡ t.next
first_left t ends = first-put t.next (tokens_of t.text.now) (no_tokens t ends)

pub rest_left : (t : Inside) → EndsWithText t → rest (tokens_left t) ≡ tokens_of t.text.now
rest_left t ends = rest-put t.next (tokens_of t.text.now) (no_tokens t ends)

pub first_lexed : (next : Option Token) (left text : Text) → tokens_of left ≡ put next (tokens_of text) → (next ≡ None → text ≡ []) → first (tokens_of left) ≡ next
first_lexed next left text e ends = rw e (first-put next (tokens_of text) (λ n. ap tokens_of (ends n) ∙ tokens_of-nil))

pub after_one : (ts : List Token) → rest (token.Bad ∷ ts) ≡ ts
unfolding rest
after_one ts = refl

-- ---- a piece of a script

other_byte : (x y : ℕ) → x ≢ y → (x == y) ≡ false
other_byte x y h = grind (arith, nat_tests)

pub piece_empty : (z : Text) → length z ≡ 0 → piece_tokens z ≡ tokens_of z
unfolding piece_tokens
piece_empty [] h = sym tokens_of-nil
piece_empty (b ∷ z) h = absurd (omega (arith, h))

pub piece_other : (z : Text) → slice_index z 0 ≢ 46 → piece_tokens z ≡ tokens_of z
unfolding piece_tokens
piece_other [] h = sym tokens_of-nil
piece_other (b ∷ z) h = rw (other_byte b 46 h) refl

pub piece_dot : (z : Text) → slice_index z 0 ≡ 46 → piece_tokens z ≡ token.Dot (take (dot_len (drop 1 z)) (drop 1 z)) ∷ tokens_of (drop (dot_len (drop 1 z)) (drop 1 z))
unfolding piece_tokens
piece_dot [] h = absurd (omega (arith, h))
piece_dot (b ∷ z) h = rw h refl
