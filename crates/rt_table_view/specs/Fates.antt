-- What is known of the ids that steps touch: which row has them afterwards, and what that changes in a view. Source: own.
use Rattle.std.specs.Prelude.{◌≡◌, ◌<◌, ℕ, ℤ, length, slice_index_or, Bool, true, false, List, [], ◌∷◌, Option, Some, None, if◌then◌else◌, is_some}
use Rattle.std.specs.Borrow.{Bor}
use Rattle.std.specs.Option.{option_map, unwrap_or}
use Rattle.std.specs.BTreeMap.{BTreeMap, get}
use Rattle.std.specs.List.{flat_map}
use Rattle.std.specs.Ordering.{int_eq, int_cmp}
use Rattle.rt_table_row.specs.declared.entry.Entry.{Entry}
use Rattle.rt_table_row.specs.Rows.{TableRow, row_at}
use Rattle.rt_table_row.specs.Filters.{admits}
use Rattle.rt_table_row.specs.Views.{ViewChange, change_at}
use Rattle.rt_table_view.specs.declared.view.Watched.{Watched}
use Rattle.rt_table_view.specs.declared.view.Shift.{Shift}
use Rattle.rt_table_view.specs.Watching.{shown}
use Rattle.rt_table_row.specs.declared.entry.RowView.{RowView}
use Rattle.rt_table_row.specs.Entries.{row_of, view_row}
use Rattle.rt_table_row.specs.Edits.{Step, Leaves, Comes, Becomes, outcome}

-- the row that has a touched id afterwards, if one has
abbrev pub Fate : Type 0
Fate = Option TableRow

abbrev pub fate_of : {D : _} → Option (Option (Bor (Entry D))) → Option Fate
fate_of fate = option_map (λ row. option_map (λ entry. row_of entry.now) row) fate

-- what is known of an id after one step more
abbrev pub fate_after : Step → ℤ → Option Fate → Option Fate
fate_after (Leaves id) q fate = if int_eq q id then Some None else fate
fate_after (Comes row) q fate = if int_eq q row.id then Some (Some row) else fate
fate_after (Becomes id row) q fate = if int_eq q row.id then Some (Some row) else (if int_eq q id then Some None else fate)

-- what changes in a view if the row of an id was the first, and is the second
abbrev pub changes_seen : {D : _} → List ℕ → Option (RowView D) → Option (RowView D) → List ViewChange
changes_seen view before after = change_at view (option_map view_row before) (option_map view_row after)

-- what changes in a view at an id
abbrev pub changes_at : Watched → List TableRow → (ℤ → Option TableRow) → ℤ → List ViewChange
changes_at watched before after id =
    change_at watched.name (shown (admits watched.filter) (row_at before id)) (shown (admits watched.filter) (after id))

-- what is known of each touched id
abbrev pub Fates : ℕ → Type 0
Fates D = BTreeMap ℤ (Option (Bor (Entry D)))

abbrev pub fate_at : {D : _} → Fates D → ℤ → Option Fate
fate_at fates id = fate_of (get int_cmp fates id)

-- the row of each id afterwards
abbrev pub rows_after : {D : _} → List TableRow → Fates D → ℤ → Option TableRow
rows_after before fates id = unwrap_or (fate_at fates id) (row_at before id)

-- they say which row each id has after the steps, whatever the rows are
abbrev pub Settles : {D : _} → List Step → Fates D → Type 0
Settles steps fates = (rows : List TableRow) (id : ℤ) → row_at (outcome rows steps) id ≡ rows_after rows fates id

-- what changes in a view at these ids
abbrev pub view_changes : {D : _} → Watched → List TableRow → Fates D → List ℤ → List ViewChange
view_changes watched before fates ids = flat_map (changes_at watched before (rows_after before fates)) ids

-- and in all views
abbrev pub all_changes : {D : _} → List Watched → List TableRow → Fates D → List ℤ → List ViewChange
all_changes views before fates ids = flat_map (λ watched. view_changes watched before fates ids) views

-- an id comes into a view or leaves it, where the view has a row of it before or after, and not both
abbrev pub shift : ℤ → Bool → Bool → List Shift
shift id was_in is_in = if was_in then (if is_in then [] else record { id = id; is_in = false } ∷ [])
    else (if is_in then record { id = id; is_in = true } ∷ [] else [])

abbrev pub shifts_at : Watched → List TableRow → (ℤ → Option TableRow) → ℤ → List Shift
shifts_at watched before after id = shift id (is_some (shown (admits watched.filter) (row_at before id))) (is_some (shown (admits watched.filter) (after id)))

-- which of these ids come into a view or leave it
abbrev pub view_shifts : {D : _} → Watched → List TableRow → Fates D → List ℤ → List Shift
view_shifts watched before fates ids = flat_map (shifts_at watched before (rows_after before fates)) ids

-- each view has ready which ids come and leave
abbrev pub HaveShifts : {D : _} → List TableRow → Fates D → List ℤ → List Watched → List Watched → Type 0
HaveShifts before fates ids old new =
    (k : ℕ) (w : Watched) → k < length old → (slice_index_or new k w).shifts.items ≡ view_shifts (slice_index_or old k w) before fates ids
