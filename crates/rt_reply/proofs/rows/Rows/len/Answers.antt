use Rattle.std.proofs.Common.{ap}
use Rattle.rt_reply.specs.Rows.{box_values, id_values, values_in}
use Rattle.rt_reply.proofs.Listed.{as-many}
use Rattle.rt_reply.proofs.rows.Rows.len.Goals as goal

pub returns-in-One : goal.returns-in-One
returns-in-One c = as-many box_values c.in-One.rows (values_in c.args.self.now) _ (ap values_in c.in-One.is) c.len.ensures

pub returns-in-Two : goal.returns-in-Two
returns-in-Two c = as-many box_values c.in-Two.rows (values_in c.args.self.now) _ (ap values_in c.in-Two.is) c.len-in-Two.ensures

pub returns-in-Three : goal.returns-in-Three
returns-in-Three c = as-many box_values c.in-Three.rows (values_in c.args.self.now) _ (ap values_in c.in-Three.is) c.len-in-Three.ensures

pub returns-in-Ids : goal.returns-in-Ids
returns-in-Ids c = as-many id_values c.in-Ids.ids (values_in c.args.self.now) _ (ap values_in c.in-Ids.is) c.len-in-Ids.ensures
