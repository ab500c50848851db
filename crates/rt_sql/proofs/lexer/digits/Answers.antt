use Rattle.std.proofs.Common.{arith, rules}
use Rattle.rt_sql.proofs.Cuts.{cut_at_front, cut_after_first, ascii_outside_word, ascii_from_digit}
use Rattle.rt_sql.specs.Lex.{digits}
use Rattle.rt_sql.proofs.lexer.digits.Goals as goal

pub range-requires-clause-end_boundary : goal.range-requires-clause-end_boundary
unfolding digits
range-requires-clause-end_boundary c = grind (arith, cut_at_front, cut_after_first, ascii_outside_word, ascii_from_digit)

pub returns-clause-value : goal.returns-clause-value
unfolding digits
returns-clause-value c = search rules

pub returns-clause-cut : goal.returns-clause-cut
unfolding digits
returns-clause-cut c = grind (arith, cut_at_front, cut_after_first, ascii_outside_word, ascii_from_digit)
