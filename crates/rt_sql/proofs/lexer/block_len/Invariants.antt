use Rattle.std.proofs.Common.{◌≡◌, ◌+◌, drop}
use Rattle.rt_sql.specs.Lex.{block_len}
use Rattle.rt_sql.proofs.lexer.block_len.Given as goal

abbrev pub invariant-loop-at : goal.invariant-loop-at
invariant-loop-at l = l.at + block_len (drop l.at l.rest) ≡ block_len l.rest
