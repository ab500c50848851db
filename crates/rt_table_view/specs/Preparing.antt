-- What a view has ready before the steps of a plan are carried out. Source: own.
use Rattle.std.specs.Prelude.{◌≡◌, ◌≤◌, ℤ, false, List, length, map}
use Rattle.std.specs.Ordering.{int_eq}
use Rattle.std.specs.List.{All, list_any}
use Rattle.rt_table_row.specs.Rows.{TableRow, row_at}
use Rattle.rt_table_row.specs.Columns.{Columns}
use Rattle.rt_table_row.specs.Conditions.{holds}
use Rattle.rt_table_row.specs.Edits.{Step, outcome}
use Rattle.rt_table_row.specs.Views.{ViewChange, deltas}
use Rattle.rt_table_view.specs.declared.view.Watched.{Watched}
use Rattle.rt_table_view.specs.Watching.{Awaited, AreShifts, view_of, awaited_of, IsKept}

-- at each other id the rows are the same
abbrev pub DifferAt : List ℤ → List TableRow → List TableRow → Type 0
DifferAt ids before after = (id : ℤ) → list_any (int_eq id) ids ≡ false → row_at after id ≡ row_at before id

-- a view has ready which ids come and leave as these rows become those, and the room for it
pub record IsAwaited (columns : Columns) (before after : List TableRow) (a : Awaited) : Type 0 where
  pub shifts : AreShifts (holds columns a.view.cond) before after a.shifts
  pub room : length a.shifts ≤ a.room

-- views that are kept stay so
abbrev pub StayKept : List Watched → List Watched → Type 0
StayKept old new = (columns : Columns) (rows : List TableRow) → All (IsKept columns rows) old → All (IsKept columns rows) new

-- what the steps change in views that are kept
abbrev pub Stages : List TableRow → List Step → List Watched → List ViewChange → Type 0
Stages before steps views staged =
    (columns : Columns) → All (IsKept columns before) views → staged ≡ deltas columns (map view_of views) before (outcome before steps)

-- views that are kept await the steps
abbrev pub AwaitSteps : List TableRow → List Step → List Watched → List Watched → Type 0
AwaitSteps before steps old new =
    (columns : Columns) → All (IsKept columns before) old → All (IsAwaited columns before (outcome before steps)) (map awaited_of new)

-- views that awaited other rows, and were kept, are kept of those
abbrev pub KeepAwaited : List Watched → List Watched → Type 0
KeepAwaited old new = (columns : Columns) (before after : List TableRow) → All (IsAwaited columns before after) (map awaited_of old)
    → All (IsKept columns before) old → All (IsKept columns after) new
