use Rattle.rt_check.proofs.Places.{position-there, any-there}
use Rattle.rt_check.proofs.index.found_at.Goals as goal

pub returns-then-stands_at-clause-index : goal.returns-then-stands_at-clause-index
returns-then-stands_at-clause-index c =
    position-there c.args.numbers.now.keys c.args.index c.args.number.now c.are_distinct.ensures (c.stands_at.ensures c.if-stands_at.true)

pub returns-then-stands_at-clause-found : goal.returns-then-stands_at-clause-found
returns-then-stands_at-clause-found c = any-there c.args.numbers.now.keys c.args.index c.args.number.now (c.stands_at.ensures c.if-stands_at.true)
