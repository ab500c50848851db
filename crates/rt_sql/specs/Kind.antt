-- What a byte is to the lexer (own).
use Rattle.std.specs.Prelude.{ℕ, ◌==◌, if◌then◌else◌}
use Rattle.std.specs.Char.{is_ascii_digit}
use Rattle.rt_sql_cut.specs.Text.{is_white}
use Rattle.rt_sql.specs.declared.kind.Kind.{Kind}
use Rattle.rt_sql.specs.declared.kind.Kind.TheVariants.{Letter, Digit, Dollar, White, Mark}
use Rattle.rt_sql.specs.Token.{begins_word}

unfoldable pub kind_of : ℕ → Kind
kind_of b = if begins_word b then Letter else (if is_ascii_digit b then Digit else (if b == 36 then Dollar else (if is_white b then White else Mark)))
