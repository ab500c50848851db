use Rattle.std.proofs.Common.{◌≡◌, length}
use Rattle.rt_sql.specs.Reading.{skip_words}
use Rattle.rt_sql.proofs.grammar.create.skip_words.Given as goal

abbrev pub invariant-words : goal.invariant-words
invariant-words l = skip_words l.initial.tokens ≡ skip_words l.tokens

abbrev pub decreases-words : goal.decreases-words
decreases-words l = length l.tokens
