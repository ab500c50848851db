-- When a table is ready for a plan. Source: own.
use Rattle.std.specs.Prelude.{◌≡◌, ℕ, ◌≤◌, List}
use Rattle.std.specs.List.{All}
use Rattle.rt_table_row.specs.Edits.{Step, outcome}
use Rattle.rt_table_row.specs.Views.{deltas}
use Rattle.rt_table_step.specs.Steps.{ApplyTo, inserts_all, auxiliary_rows_all}
use Rattle.rt_table_view.specs.Preparing.{IsAwaited}
use Rattle.rt_table.specs.Held.{Held}

-- the steps apply, there is room for the rows that they insert, each view awaits them, and the changes of the views lie
-- ready
pub record IsReady {D : ℕ} (held : Held D) (steps : List Step) : Type 0 where
  pub apply : ApplyTo held.lists.columns held.lists.rows steps
  pub room : inserts_all steps ≤ held.room
  pub auxiliary_room : auxiliary_rows_all steps ≤ held.auxiliary_room
  pub awaited : All (IsAwaited held.lists.columns held.lists.rows (outcome held.lists.rows steps)) held.awaited
  pub staged : held.staged ≡ deltas held.lists.columns held.lists.views held.lists.rows (outcome held.lists.rows steps)
