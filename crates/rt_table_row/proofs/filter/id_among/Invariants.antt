use Rattle.std.proofs.Common.{◌≡◌, false, length, take, zip}
use Rattle.std.specs.List.{list_any}
use Rattle.rt_table_row.specs.Filters.{fixes_id}
use Rattle.rt_table_row.proofs.filter.id_among.Given as goal

abbrev pub invariant-loop-test : goal.invariant-loop-test
invariant-loop-test l = list_any fixes_id (take (length l.yielded) (zip l.tests l.places)) ≡ false
