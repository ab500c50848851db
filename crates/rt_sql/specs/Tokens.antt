-- The tokens of a text, each by its longest spelling (SQLite's documentation: Identifiers and literals; Comments).
use Rattle.std.specs.Prelude.{◌≡◌, ◌≢◌, ◌⊎◌, ℕ, ◌≤◌, ◌%◌, Bool, false, ◌==◌, List, [], ◌∷◌, ◌++◌, length, IsTrue, codes}
use Rattle.std.specs.Char.{is_ascii_digit, is_ascii_hexdigit}
use Rattle.std.specs.List.{list_all}
use Rattle.rt_sql.specs.declared.token.Sign.{Sign}
use Rattle.rt_sql.specs.declared.token.Sign.TheVariants.{LeftParenthesis, RightParenthesis, Comma, Semicolon, Plus, Minus, Star, Equal, DoubleEqual, LessGreater, BangEqual, Less, LessOrEqual, Greater, GreaterOrEqual}
use Rattle.rt_sql.specs.declared.token.Token.{Token}
use Rattle.rt_sql.specs.declared.token.Token.TheVariants as token
use Rattle.rt_sql_cut.specs.Text.{is_white, IsLineText, EndsLine, IsBlockText, IsOpenBlockText}
use Rattle.rt_sql.specs.Token.{Text, begins_word, is_in_word, begins, double}

abbrev pub spelling : Sign → Text
spelling LeftParenthesis = codes "("
spelling RightParenthesis = codes ")"
spelling Comma = codes ","
spelling Semicolon = codes ";"
spelling Plus = codes "+"
spelling Minus = codes "-"
spelling Star = codes "*"
spelling Equal = codes "="
spelling DoubleEqual = codes "=="
spelling LessGreater = codes "<>"
spelling BangEqual = codes "!="
spelling Less = codes "<"
spelling LessOrEqual = codes "<="
spelling Greater = codes ">"
spelling GreaterOrEqual = codes ">="

-- a word, as long as it goes on
abbrev pub IsWord : Text → Text → Type 0
IsWord w after = IsTrue (begins begins_word w) × IsTrue (list_all is_in_word w) × (begins is_in_word after ≡ false)

abbrev pub is_byte : ℕ → ℕ → Bool
is_byte b c = c == b

-- the text in quotes, one inside doubled
abbrev pub IsInQuotes : ℕ → Text → Text → Text → Type 0
IsInQuotes quote inside text after = (text ≡ (quote ∷ inside) ++ quote ∷ after) × (begins (is_byte quote) after ≡ false)

-- the text begins with a spelling of the token, and `after` follows
abbrev pub IsToken : Token → Text → Text → Type 0
IsToken (token.Word w) text after = (text ≡ w ++ after) × IsWord w after
IsToken (token.Quoted q) text after = (n : Text) × (q ≡ double 34 n) × (n ≢ []) × IsInQuotes 34 q text after
IsToken (token.Digits d) text after = (text ≡ d ++ after) × IsTrue (begins is_ascii_digit d) × IsTrue (list_all is_ascii_digit d) × (begins is_in_word after ≡ false)
IsToken (token.Text t) text after = (s : Text) × (t ≡ double 39 s) × IsInQuotes 39 t text after
IsToken (token.Blob h) text after =
    (x : ℕ) × ((x ≡ 88) ⊎ (x ≡ 120)) × (text ≡ (x ∷ 39 ∷ h) ++ 39 ∷ after) × IsTrue (list_all is_ascii_hexdigit h) × (length h % 2 ≡ 0)
IsToken (token.Sign s) text after = text ≡ spelling s ++ after
IsToken (token.Dot w) text after = ⊥
IsToken token.Bad text after = ⊥

-- and no token at this place is longer
abbrev pub IsLongest : Token → Text → Text → Type 0
IsLongest t text after = IsToken t text after × ((other : Token) (left : Text) → IsToken other text left → length after ≤ length left)

-- a character at which no token begins
abbrev pub IsBad : Text → Text → Type 0
IsBad text after = (b : ℕ) × (text ≡ b ∷ after) × ((other : Token) (left : Text) → IsToken other text left → ⊥)

abbrev pub TokenAt : Token → Text → Text → Type 0
TokenAt (token.Word w) = IsLongest (token.Word w)
TokenAt (token.Quoted q) = IsLongest (token.Quoted q)
TokenAt (token.Digits d) = IsLongest (token.Digits d)
TokenAt (token.Text t) = IsLongest (token.Text t)
TokenAt (token.Blob h) = IsLongest (token.Blob h)
TokenAt (token.Sign s) = IsLongest (token.Sign s)
TokenAt (token.Dot w) = IsLongest (token.Dot w)
TokenAt token.Bad = IsBad

-- ---- white space and comments

-- `--` up to a line feed or the end
abbrev pub IsLine : Text → Text → Type 0
IsLine text after = (line : Text) × (text ≡ (45 ∷ 45 ∷ line) ++ after) × IsLineText line × EndsLine after

-- `/*` up to the next `*/`, or up to the end if none comes
abbrev pub IsBlock : Text → Text → Type 0
IsBlock text after = (body : Text) × (text ≡ (47 ∷ 42 ∷ body) ++ 42 ∷ 47 ∷ after) × IsBlockText body

abbrev pub IsLastBlock : Text → Text → Type 0
IsLastBlock text after = (body : Text) × (text ≡ 47 ∷ 42 ∷ body) × IsOpenBlockText body × (after ≡ [])

abbrev pub IsWhite : Text → Text → Type 0
IsWhite text after = (b : ℕ) × (text ≡ b ∷ after) × IsTrue (is_white b)

-- the text begins with one of them, and `after` follows
abbrev pub GapAt : Text → Text → Type 0
GapAt text after = IsWhite text after ⊎ IsLine text after ⊎ IsBlock text after ⊎ IsLastBlock text after

-- one after another, and then `start`
abbrev pub GapsAt : List Text → Text → Text → Type 0
GapsAt [] text start = text ≡ start
GapsAt (next ∷ more) text start = GapAt text next × GapsAt more next start

-- all of them up to `start`
abbrev pub Gap : Text → Text → Type 0
Gap text start = (places : List Text) × GapsAt places text start × ((later : Text) → GapAt start later → ⊥)

-- ---- lists of tokens

abbrev pub IsTokens : Text → List Token → Type 0
IsTokens text [] = Gap text []
IsTokens text (t ∷ ts) = (start after : Text) × Gap text start × TokenAt t start after × IsTokens after ts

-- after the dot that begins a dot line: a word, or none
abbrev pub IsDotWord : Text → Text → Type 0
IsDotWord [] after = begins begins_word after ≡ false
IsDotWord (b ∷ w) after = IsWord (b ∷ w) after

abbrev pub IsDotLine : Text → List Token → Type 0
IsDotLine text [] = ⊥
IsDotLine text (token.Dot w ∷ ts) = (after : Text) × (text ≡ (46 ∷ w) ++ after) × IsDotWord w after × IsTokens after ts
IsDotLine text (t ∷ ts) = ⊥

-- the tokens of a piece of a script, which is a dot line if it begins with a dot
abbrev pub PieceTokens : Text → List Token → Type 0
PieceTokens text tokens = IsDotLine text tokens ⊎ ((begins (is_byte 46) text ≡ false) × IsTokens text tokens)
