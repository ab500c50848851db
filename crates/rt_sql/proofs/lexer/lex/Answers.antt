use Rattle.std.proofs.Common.{◌∙◌, rules, arith}
use Rattle.rt_sql.proofs.Lexing.{lex_step, put_none}
use Rattle.rt_sql.proofs.lexer.lex.Goals as goal

pub returns-then-is_some-clause-tokens : goal.returns-then-is_some-clause-tokens
returns-then-is_some-clause-tokens c =
    c.loop-first.invariant.1 ∙ lex_step _ _ _ _ (omega arith) (search rules) c.lexeme-token.ensures.value c.lexeme-token.ensures.moves c.range_from-rest.ensures.value

pub loop-first-preserved : goal.loop-first-preserved
loop-first-preserved c = (
  c.range_from-rest.utf8,
  c.loop-first.invariant.1 ∙ lex_step _ _ _ _ (omega arith) (search rules) c.lexeme-token.ensures.value c.lexeme-token.ensures.moves c.range_from-rest.ensures.value
      ∙ put_none c.lexeme-token.result.0 _ (cc),
)
