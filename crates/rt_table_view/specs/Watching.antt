-- A view as a table keeps it: with the ids of its rows. Source: own.
use Rattle.std.specs.Prelude.{◌≡◌, ◌<◌, ℕ, ℤ, Bool, false, length, slice_index_or, List, map, filter, Option, Some, None, if◌then◌else◌}
use Rattle.std.specs.Ordering.{int_eq}
use Rattle.std.specs.Option.{option_map_or}
use Rattle.std.specs.List.{All, list_any, filter_map}
use Rattle.indexmap.specs.IndexSet.{spare}
use Rattle.rt_table_row.specs.Columns.{Columns}
use Rattle.rt_tree_walk.specs.declared.searching.Row.{Row}
use Rattle.rt_sql_statement.specs.declared.value.Value.{Value}
use Rattle.rt_table_row.specs.Rows.{TableRow, row_at, values_of}
use Rattle.rt_table_row.specs.Filters.{Placed, IsFilterOf, admits}
use Rattle.rt_table_row.specs.Views.{View}
use Rattle.rt_table_store.specs.Trees.{leaf_row}
use Rattle.rt_table_view.specs.declared.view.Watched.{Watched}
use Rattle.rt_reply.specs.declared.rows.RowsOf.{RowsOf}
use Rattle.rt_reply.specs.Rows.{values_of_rows}
use Rattle.rt_table_view.specs.declared.view.Shift.{Shift}

-- the view that it is
abbrev pub view_of : Watched → View
view_of watched = record { name = watched.name; cond = watched.filter.cond }

-- the values of the rows of which the condition holds
abbrev pub shown_rows : Placed → List TableRow → List (List Value)
shown_rows condition rows = map values_of (filter (admits condition) rows)

-- if the rows that were found are those that pass a test, the answer has their values
abbrev pub ShowsPicked : {D : _} → List TableRow → List (Row D) → RowsOf D → Type 0
ShowsPicked rows found answer = (p : TableRow → Bool) → found ≡ map leaf_row (filter p rows) → values_of_rows answer ≡ map values_of (filter p rows)

-- the rows that have these ids, in their order, and those of what was found of them
abbrev pub rows_named : List TableRow → List ℤ → List TableRow
rows_named rows ids = filter_map (row_at rows) ids

abbrev pub rows_found : {D : _} → List TableRow → List (Row D) → List TableRow
rows_found rows found = filter_map (λ row. row_at rows row.id) found

-- the id is one of these
abbrev pub is_listed : List ℤ → ℤ → Bool
is_listed ids id = list_any (int_eq id) ids

-- the row is there, and passes
abbrev pub is_picked : (TableRow → Bool) → Option TableRow → Bool
is_picked p row = option_map_or p row false

-- an id is kept exactly where the table's row of that id is picked
abbrev pub KeepsIds : (TableRow → Bool) → List TableRow → List ℤ → Type 0
KeepsIds p rows ids = (id : ℤ) → list_any (int_eq id) ids ≡ is_picked p (row_at rows id)

-- the view's filter is of the table's columns, and its ids are those of the rows that it shows
pub record IsKept (columns : Columns) (rows : List TableRow) (watched : Watched) : Type 0 where
  pub filter_is : IsFilterOf columns watched.filter.cond watched.filter
  pub ids_are : KeepsIds (admits watched.filter) rows watched.ids.keys

-- the row, where it passes
abbrev pub shown : (TableRow → Bool) → Option TableRow → Option TableRow
shown p None = None
shown p (Some row) = if p row then Some row else None

-- what a view has ready for the next plan: room for ids that come, and which ids come and leave
pub record Awaited : Type 0 where
  pub view : View
  pub room : ℕ
  pub shifts : List Shift

abbrev pub awaited_of : Watched → Awaited
awaited_of watched = record { view = view_of watched; room = spare watched.ids; shifts = watched.shifts.items }

abbrev pub shifted_ids : List Shift → List ℤ
shifted_ids shifts = map (λ s. s.id) shifts

-- each shift says whether the row that then has the id is picked; at the other ids that stays as it was
pub record AreShifts (p : TableRow → Bool) (before after : List TableRow) (shifts : List Shift) : Type 0 where
  pub are_in : All (λ s. s.is_in ≡ is_picked p (row_at after s.id)) shifts
  pub others : (id : ℤ) → list_any (int_eq id) (shifted_ids shifts) ≡ false → is_picked p (row_at after id) ≡ is_picked p (row_at before id)

-- the view with its shifts carried out
pub record IsRefreshed (old new : Watched) : Type 0 where
  pub name_is : new.name ≡ old.name
  pub filter_is : new.filter ≡ old.filter
  pub ids_are : (is_in : ℤ → Bool) → All (λ s. s.is_in ≡ is_in s.id) old.shifts.items → (id : ℤ) → list_any (int_eq id) new.ids.keys
      ≡ (if list_any (int_eq id) (shifted_ids old.shifts.items) then is_in id else list_any (int_eq id) old.ids.keys)

-- the same view, whatever it has ready
pub record IsRoomier (old new : Watched) : Type 0 where
  pub name_is : new.name ≡ old.name
  pub filter_is : new.filter ≡ old.filter
  pub keys_are : new.ids.keys ≡ old.ids.keys

-- each view is the same, whatever it has ready
abbrev pub AreRoomier : List Watched → List Watched → Type 0
AreRoomier old new = (k : ℕ) (w : Watched) → k < length old → IsRoomier (slice_index_or old k w) (slice_index_or new k w)
