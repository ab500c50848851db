use Rattle.std.proofs.Common.{◌≡◌, map, take}
use Rattle.rt_table_row.specs.NewRows.{number_in}
use Rattle.rt_table_row.proofs.new_row.numbers_in.Given as goal

abbrev pub invariant-loop-value : goal.invariant-loop-value
invariant-loop-value l = l.numbers.items ≡ map number_in (take l.value-index l.values)
