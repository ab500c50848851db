use Rattle.std.proofs.Common.{◌≡◌, ◌++◌, take}
use Rattle.rt_table_row.proofs.entry.push_copies.Given as goal

abbrev pub invariant-loop-value : goal.invariant-loop-value
invariant-loop-value l = l.values.items ≡ l.fn.values.items ++ take l.value-index l.auxiliary
