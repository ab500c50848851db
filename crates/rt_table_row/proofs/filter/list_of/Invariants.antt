use Rattle.std.proofs.Common.{take}
use Rattle.rt_table_row.specs.Filters.{ArePlaces}
use Rattle.rt_table_row.proofs.filter.list_of.Given as goal

abbrev pub invariant-loop-test : goal.invariant-loop-test
invariant-loop-test l = ArePlaces l.schema.names (take l.test-index l.cond) l.places.items
