use Rattle.rt_table_store.proofs.Ranking.{at-equal, at-gap}
use Rattle.rt_table_store.proofs.largest.place_of.Goals as goal

pub returns-in-Ok-clause-order : goal.returns-in-Ok-clause-order
returns-in-Ok-clause-order c = at-equal c.args.ids.now c.requires c.args.id.now c.in-Ok.place c.in-Ok.ensures.bound c.in-Ok.ensures.ok

pub returns-in-Err-clause-order : goal.returns-in-Err-clause-order
returns-in-Err-clause-order c = at-gap c.args.ids.now c.requires c.args.id.now c.in-Err.place c.in-Err.ensures.bound c.in-Err.ensures.position
