use Rattle.std.proofs.Common.{◌≡◌, ℤ, List, map, take}
use Rattle.std.specs.Ordering.{int_cmp}
use Rattle.std.specs.Option.{unwrap_or}
use Rattle.std.specs.BTreeMap.{get}
use Rattle.rt_table_row.specs.Rows.{TableRow, row_at}
use Rattle.rt_table_row.specs.Edits.{outcome}
use Rattle.rt_table_row.specs.Entries.{step_of}
use Rattle.rt_table_view.specs.Fates.{fate_of}
use Rattle.rt_table_view.proofs.changes.fates.Given as goal

abbrev pub invariant-loop-step : goal.invariant-loop-step
invariant-loop-step g l =
    (rows : List TableRow) (q : ℤ) → row_at (outcome rows (map step_of (take l.step-index l.plan))) q ≡ unwrap_or (fate_of (get int_cmp l.rows q)) (row_at rows q)
