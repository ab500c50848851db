use Rattle.std.proofs.Common.{◌≡◌, length}
use Rattle.rt_table_row.specs.Columns.{are_distinct}
use Rattle.rt_table_row.proofs.schema.are_distinct.Given as goal

-- what is left decides
abbrev pub invariant-loop-name : goal.invariant-loop-name
invariant-loop-name l = are_distinct l.fn.names ≡ are_distinct l.rest

abbrev pub decreases-loop-name : goal.decreases-loop-name
decreases-loop-name l = length l.rest
