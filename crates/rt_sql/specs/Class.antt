-- Kinds of characters (own).
use Rattle.std.specs.Prelude.{ℕ, Bool}
use Rattle.std.specs.Char.{is_ascii_digit, is_ascii_hexdigit}
use Rattle.rt_sql.specs.declared.lexer.Class.{Class}
use Rattle.rt_sql.specs.declared.lexer.Class.TheVariants.{Digit, Hex, InWord, InLine}
use Rattle.rt_sql.specs.Token.{is_in_word, is_in_line}

abbrev pub is_in : Class → ℕ → Bool
is_in Digit b = is_ascii_digit b
is_in Hex b = is_ascii_hexdigit b
is_in InWord b = is_in_word b
is_in InLine b = is_in_line b
