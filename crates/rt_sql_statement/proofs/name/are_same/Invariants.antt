use Rattle.std.proofs.Common.{◌≡◌, length, drop}
use Rattle.rt_sql_statement.specs.Name.{same_name}
use Rattle.rt_sql_statement.proofs.name.are_same.Given as goal

abbrev pub invariant-loop-at : goal.invariant-loop-at
invariant-loop-at l = (length l.own ≡ length l.other) × (same_name l.own l.other ≡ same_name (drop l.at l.own) (drop l.at l.other))
