-- The characters of a statement's text, as bytes, and its words (SQLite's documentation: Identifiers and literals; SQLite
-- keywords).
use Rattle.std.specs.Prelude.{◌≡◌, ℕ, ◌+◌, ◌-◌, ◌*◌, ◌<◌, Bool, false, not, List, [], ◌∷◌, ◌++◌, length, take, drop, slice_index, ◌&&◌, ◌||◌, ◌==◌, nat_le, if◌then◌else◌, codes}
use Rattle.std.specs.Char.{is_ascii_alphabetic, is_ascii_alphanumeric, is_ascii_digit}
use Rattle.std.specs.Int.{is_in_range}
use Rattle.std.specs.List.{list_any}
use Rattle.std.specs.Str.{str_eq_ignore_ascii_case}

abbrev pub Text : Type 0
Text = List ℕ

-- a letter, `_`, or a byte of a character past ASCII
unfoldable pub begins_word : ℕ → Bool
begins_word b = is_ascii_alphabetic b || b == 95 || nat_le 128 b

-- the same, a digit or `$`
unfoldable pub is_in_word : ℕ → Bool
is_in_word b = is_ascii_alphanumeric b || b == 95 || b == 36 || nat_le 128 b

abbrev pub begins : (ℕ → Bool) → Text → Bool
begins is_in [] = false
begins is_in (b ∷ z) = is_in b

-- with each quote twice
abbrev pub double : ℕ → Text → Text
double quote [] = []
double quote (b ∷ z) = if b == quote then b ∷ b ∷ double quote z else b ∷ double quote z

-- with one quote for each two
abbrev pub undouble : ℕ → Text → Text
undouble quote [] = []
undouble quote (b ∷ []) = b ∷ []
undouble quote (b ∷ c ∷ z) = if b == quote && c == quote then b ∷ undouble quote z else b ∷ undouble quote (c ∷ z)

-- at this place two quotes stand side by side
abbrev pub IsPairAt : ℕ → Text → ℕ → Type 0
IsPairAt quote text at = (at + 1 < length text) × (slice_index text at ≡ quote) × (slice_index text (at + 1) ≡ quote)

-- and nothing before them is doubled
abbrev pub UndoublesAt : ℕ → Text → ℕ → Type 0
UndoublesAt quote text at = undouble quote text ≡ take (at + 1) text ++ undouble quote (drop (at + 2) text)

abbrev pub hex_value : ℕ → ℕ
hex_value b = if is_ascii_digit b then b - 48 else (if is_in_range 97 102 b then b - 87 else (if is_in_range 65 70 b then b - 55 else 0))

-- the byte that two hexadecimal digits write
abbrev pub hex_byte : ℕ → ℕ → ℕ
hex_byte high low = 16 * hex_value high + hex_value low

-- the bytes that pairs of hexadecimal digits write
abbrev pub hex_bytes : Text → List ℕ
hex_bytes [] = []
hex_bytes (high ∷ []) = []
hex_bytes (high ∷ low ∷ z) = hex_byte high low ∷ hex_bytes z

-- a byte that a comment of a line goes on over
unfoldable pub is_in_line : ℕ → Bool
is_in_line b = not (b == 10)

abbrev pub same_word : Text → Text → Bool
same_word a b = str_eq_ignore_ascii_case a b

-- the words that are no names unless they are quoted
abbrev pub reserved_words : List Text
reserved_words =
    codes "AND" ∷ codes "BETWEEN" ∷ codes "CREATE" ∷ codes "DELETE" ∷ codes "DROP" ∷ codes "EXISTS" ∷ codes "FROM"
    ∷ codes "INSERT" ∷ codes "INTO" ∷ codes "IS" ∷ codes "NOT" ∷ codes "NULL" ∷ codes "OR" ∷ codes "ORDER"
    ∷ codes "SELECT" ∷ codes "SET" ∷ codes "TABLE" ∷ codes "UPDATE" ∷ codes "USING" ∷ codes "VALUES" ∷ codes "WHERE" ∷ []

unfoldable pub is_reserved : Text → Bool
is_reserved word = list_any (same_word word) reserved_words
