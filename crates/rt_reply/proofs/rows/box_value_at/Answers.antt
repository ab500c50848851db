use Rattle.std.proofs.Common.{arith}
use Rattle.rt_reply.proofs.rows.box_value_at.Goals as goal

pub value_at-requires : goal.value_at-requires
value_at-requires g c = omega (arith, c.facts.ensures.few)
