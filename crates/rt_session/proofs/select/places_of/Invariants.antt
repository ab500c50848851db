use Rattle.std.proofs.Common.{take}
use Rattle.rt_session.specs.Selecting.{ArePlaces}
use Rattle.rt_session.proofs.select.places_of.Given as goal

abbrev pub invariant-loop-name : goal.invariant-loop-name
invariant-loop-name l = ArePlaces l.schema.names (take l.name-index l.names) l.places.items
