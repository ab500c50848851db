-- The first token of a text, and the tokens of a whole text, as functions (own).
use Rattle.std.specs.Prelude.{ℕ, zero, suc, ◌+◌, ◌-◌, ◌%◌, Bool, List, [], ◌∷◌, ◌&&◌, ◌||◌, take, drop, slice_index, Option, Some, None, ◌==◌, if◌then◌else◌}
use Rattle.std.specs.Char.{is_ascii_digit, is_ascii_hexdigit}
use Rattle.std.specs.List.{prefix_len}
use Rattle.rt_sql.specs.declared.token.Sign.{Sign}
use Rattle.rt_sql.specs.declared.token.Sign.TheVariants.{LeftParenthesis, RightParenthesis, Comma, Semicolon, Plus, Minus, Star, Equal, DoubleEqual, LessGreater, BangEqual, Less, LessOrEqual, Greater, GreaterOrEqual}
use Rattle.rt_sql.specs.declared.token.Token.{Token}
use Rattle.rt_sql.specs.declared.token.Token.TheVariants as token
use Rattle.rt_sql_cut.specs.Text.{is_white}
use Rattle.rt_sql.specs.Token.{Text, begins_word, is_in_word, is_in_line}

-- a token, or none for white space and a comment, and its length in bytes
abbrev pub Lexeme : Type 0
Lexeme = Option Token × ℕ

abbrev pub bad : Lexeme
bad = (Some token.Bad, 1)

unfoldable pub word : Text → Lexeme
word z = (Some (token.Word (take (prefix_len is_in_word z) z)), prefix_len is_in_word z)

unfoldable pub digits : Text → Lexeme
digits z =
    let end = prefix_len is_ascii_digit z in
    if is_in_word (slice_index z end) then bad else (Some (token.Digits (take end z)), end)

-- the place of the closing quote; z begins at the place `at`
abbrev pub closing : ℕ → ℕ → Text → Option ℕ
closing quote at [] = None
closing quote at (b ∷ []) = if b == quote then Some at else None
closing quote at (b ∷ c ∷ z) =
    if b == quote then (if c == quote then closing quote (at + 2) z else Some at) else closing quote (at + 1) (c ∷ z)

-- a text in single quotes, or a name in double ones, which isn't empty
abbrev pub quote_token : ℕ → Text → Option ℕ → Lexeme
quote_token quote z None = bad
quote_token quote z (Some end) =
    if quote == 39 then (Some (token.Text (take end z)), end + 2)
    else (if end == 0 then bad else (Some (token.Quoted (take end z)), end + 2))

-- for z without its first byte, the quote
unfoldable pub in_quotes : ℕ → Text → Lexeme
in_quotes quote z = quote_token quote z (closing quote 0 z)

-- for z without its first two bytes; if it is no blob, the letter begins a word
unfoldable pub blob : Text → Lexeme → Lexeme
blob z other =
    let end = prefix_len is_ascii_hexdigit z in
    if slice_index z end == 39 && (end % 2) == 0 then (Some (token.Blob (take end z)), end + 3) else other

-- the length of a comment of a line, and of one up to `*/`, without the two bytes that begin it
unfoldable pub line_len : Text → ℕ
line_len z = prefix_len is_in_line z

abbrev pub block_len : Text → ℕ
block_len [] = 0
block_len (b ∷ z) = if b == 42 && slice_index z 0 == 47 then 2 else suc (block_len z)

unfoldable pub long_sign : ℕ → ℕ → Option Sign
long_sign b c =
    if c == 61 then (if b == 61 then Some DoubleEqual else (if b == 60 then Some LessOrEqual else (if b == 62 then Some GreaterOrEqual else (if b == 33 then Some BangEqual else None))))
    else (if b == 60 && c == 62 then Some LessGreater else None)

unfoldable pub short_sign : ℕ → Option Sign
short_sign b =
    if b == 40 then Some LeftParenthesis else (if b == 41 then Some RightParenthesis else (if b == 44 then Some Comma else (if b == 59 then Some Semicolon
    else (if b == 43 then Some Plus else (if b == 45 then Some Minus else (if b == 42 then Some Star
    else (if b == 61 then Some Equal else (if b == 60 then Some Less else (if b == 62 then Some Greater else None)))))))))

abbrev pub sign_token : Option Sign → ℕ → Lexeme → Lexeme
sign_token None len other = other
sign_token (Some sign) len other = (Some (token.Sign sign), len)

-- at a byte b, which the text z begins with, and the byte c after it
unfoldable pub sign : ℕ → ℕ → Lexeme
sign b c = sign_token (long_sign b c) 2 (sign_token (short_sign b) 1 bad)

abbrev pub begins_comment : ℕ → ℕ → Bool
begins_comment b c = (b == 45 && c == 45) || (b == 47 && c == 42)

abbrev pub is_gap : ℕ → ℕ → Bool
is_gap b c = is_white b || begins_comment b c

unfoldable pub gap : ℕ → Text → Lexeme
gap b z =
    if is_white b then (None, 1)
    else (if b == 45 then (None, 2 + line_len (drop 2 z)) else (None, 2 + block_len (drop 2 z)))

-- at a byte b, which the text z begins with, and the byte c after it
unfoldable pub token_lexeme : ℕ → ℕ → Text → Lexeme
token_lexeme b c z =
    if (b == 88 || b == 120) && c == 39 then blob (drop 2 z) (word z)
    else (if begins_word b then word z
    else (if is_ascii_digit b then digits z
    else (if b == 39 || b == 34 then in_quotes b (drop 1 z)
    else sign b c)))

unfoldable pub lexeme : ℕ → Text → Lexeme
lexeme b z = if is_gap b (slice_index z 1) then gap b z else token_lexeme b (slice_index z 1) z

abbrev pub put : Option Token → List Token → List Token
put None ts = ts
put (Some t) ts = t ∷ ts

-- The number counts the bytes that are left of a token that was read.
abbrev pub tokens_from : ℕ → Text → List Token
tokens_from left [] = []
tokens_from (suc left) (b ∷ z) = tokens_from left z
tokens_from zero (b ∷ z) = let found = lexeme b (b ∷ z) in put found.0 (tokens_from (found.1 - 1) z)

unfoldable pub tokens_of : Text → List Token
tokens_of z = tokens_from 0 z

-- ---- a dot line begins with its word

abbrev pub dot_len : Text → ℕ
dot_len [] = 0
dot_len (b ∷ z) = if begins_word b then prefix_len is_in_word (b ∷ z) else 0

unfoldable pub piece_tokens : Text → List Token
piece_tokens [] = []
piece_tokens (b ∷ z) = if b == 46 then token.Dot (take (dot_len z) z) ∷ tokens_of (drop (dot_len z) z) else tokens_of (b ∷ z)
