use Rattle.rt_sql.proofs.Cuts.{word_moves}
use Rattle.rt_sql.proofs.lexer.word.Goals as goal

pub returns-clause-moves : goal.returns-clause-moves
returns-clause-moves c = λ h. rw (c.prefix_len-end.ensures.value, c.as_bytes.ensures.value) (word_moves c.args.text.now h)
