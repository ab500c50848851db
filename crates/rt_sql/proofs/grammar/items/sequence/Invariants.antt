use Rattle.std.proofs.Common.{◌≡◌, length}
use Rattle.rt_sql.specs.Number.{number_by}
use Rattle.rt_sql.specs.Reading.{sees, sequence, sequence_from}
use Rattle.rt_sql.proofs.grammar.items.sequence.Given as goal

abbrev pub invariant-items : goal.invariant-items
invariant-items g l =
    let item = g.T.Item.rule (number_by l.numbers) in
    sequence (sees l.separator) item l.initial.tokens ≡ sequence_from (sees l.separator) item (length l.tokens) l.items l.tokens

abbrev pub decreases-items : goal.decreases-items
decreases-items g l = length l.tokens
