use Rattle.rt_map.proofs.bytes.arena_of.Goals as goal

pub returns-in-Ok-Some-clause-kept : goal.returns-in-Ok-Some-clause-kept
returns-in-Ok-Some-clause-kept g c = rw c.in-Ok-Some.field-0-is at c.in-Ok-Some.ensures.arena
