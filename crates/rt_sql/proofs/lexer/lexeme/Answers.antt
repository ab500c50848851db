use Rattle.std.proofs.Common.{sym, ◌∙◌}
use Rattle.rt_sql.proofs.Cuts.{cut_after_first, ascii_from_white}
use Rattle.rt_sql.proofs.Lexemes.{of_kind, no_mark, white_lexeme, digit_lexeme}
use Rattle.rt_sql.proofs.lexer.lexeme.Goals as goal

pub digits-requires : goal.digits-requires
digits-requires c = rw (← c.requires.first) (of_kind c.args.first _ c.in-Digit.ensures).0

pub letter_lexeme-requires-clause-letter : goal.letter_lexeme-requires-clause-letter
letter_lexeme-requires-clause-letter c = of_kind c.args.first _ c.in-Letter.ensures

pub mark_lexeme-requires-clause-word : goal.mark_lexeme-requires-clause-word
mark_lexeme-requires-clause-word c = (no_mark c.args.first _ c.kind_of.ensures c.in-Dollar.is).0

pub mark_lexeme-requires-clause-digit : goal.mark_lexeme-requires-clause-digit
mark_lexeme-requires-clause-digit c = (no_mark c.args.first _ c.kind_of.ensures c.in-Dollar.is).1

pub mark_lexeme-requires-clause-white : goal.mark_lexeme-requires-clause-white
mark_lexeme-requires-clause-white c = (no_mark c.args.first _ c.kind_of.ensures c.in-Dollar.is).2

pub returns-in-White-clause-value : goal.returns-in-White-clause-value
returns-in-White-clause-value c = sym (white_lexeme c.args.first c.args.text.now (of_kind c.args.first _ c.in-White.ensures).0)

pub returns-in-White-clause-cut : goal.returns-in-White-clause-cut
returns-in-White-clause-cut c = cut_after_first c.args.text.now c.utf8.text c.requires.some (rw (← c.requires.first) (ascii_from_white c.args.first (of_kind c.args.first _ c.in-White.ensures).0))

pub returns-in-Digit-clause-value : goal.returns-in-Digit-clause-value
returns-in-Digit-clause-value c =
    let is = of_kind c.args.first _ c.in-Digit.ensures in
    c.digits.ensures.value ∙ sym (digit_lexeme c.args.first c.args.text.now is.0 is.1)
