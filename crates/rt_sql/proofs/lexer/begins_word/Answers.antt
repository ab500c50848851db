use Rattle.std.proofs.Common.{◌∙◌, sym}
use Rattle.rt_sql.proofs.Lexemes.{letter_kind, no_letter}
use Rattle.rt_sql.proofs.lexer.begins_word.Goals as goal

pub returns-in-Letter : goal.returns-in-Letter
returns-in-Letter c = sym (letter_kind c.args.b _ c.in-Letter.ensures)

pub returns-in_default : goal.returns-in_default
returns-in_default c = sym (letter_kind c.args.b _ c.kind_of.ensures ∙ no_letter _ c.in_default.not-Letter)
