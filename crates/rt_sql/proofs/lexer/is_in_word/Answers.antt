use Rattle.std.proofs.Common.{◌∙◌, sym}
use Rattle.rt_sql.proofs.Lexemes.{word_kind, a_word, no_word}
use Rattle.rt_sql.proofs.lexer.is_in_word.Goals as goal

pub returns-in-Letter : goal.returns-in-Letter
returns-in-Letter c = sym (word_kind c.args.b _ c.kind_of.ensures ∙ a_word _ c.in-Letter.is)

pub returns-in_default : goal.returns-in_default
returns-in_default c = sym (word_kind c.args.b _ c.kind_of.ensures ∙ no_word _ c.in_default.not-Letter c.in_default.not-Digit c.in_default.not-Dollar)
