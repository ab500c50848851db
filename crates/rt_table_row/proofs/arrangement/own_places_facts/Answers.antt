use Rattle.rt_table_row.proofs.Arranging.{length-own_places}
use Rattle.rt_table_row.proofs.arrangement.own_places_facts.Goals as goal

pub returns : goal.returns
returns c = length-own_places c.args.count
