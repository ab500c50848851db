use Rattle.std.proofs.Common.{◌≡◌, length}
use Rattle.rt_table_row.specs.Columns.{are_distinct}
use Rattle.rt_table_row.specs.Settings.{set_names}
use Rattle.rt_table_row.proofs.settings.are_few_distinct.Given as goal

-- what is left decides
abbrev pub invariant-loop-set : goal.invariant-loop-set
invariant-loop-set l = are_distinct (set_names l.fn.sets) ≡ are_distinct (set_names l.rest)

abbrev pub decreases-loop-set : goal.decreases-loop-set
decreases-loop-set l = length l.rest
