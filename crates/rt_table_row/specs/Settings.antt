-- What an UPDATE sets, looked up: the columns that the sources read, and where each column's new value comes from.
-- Source: own.
use Rattle.std.specs.Prelude.{◌≡◌, ◌⊎◌, ℕ, suc, ◌<◌, ◌+ℤ◌, ◌-ℤ◌, Bool, true, false, not, ◌&&◌, if◌then◌else◌, List, [], ◌∷◌, map, length, Option, Some, Result, Err, slice_index_or}
use Rattle.std.specs.Option.{option_map}
use Rattle.std.specs.List.{list_all, list_any}
use Rattle.rt_sql_statement.specs.declared.value.Value.{Value}
use Rattle.rt_sql_statement.specs.declared.value.Value.TheVariants.{Null, Int}
use Rattle.rt_sql_statement.specs.declared.refusal.Refusal.{Refusal}
use Rattle.rt_sql_statement.specs.declared.refusal.Refusal.TheVariants.{BadColumnList, NoSuchColumn, WrongType, IntegerOutOfRange, OutOfMemory}
use Rattle.rt_sql_statement.specs.Name.{same_name}
use Rattle.rt_sql_statement.specs.declared.statement.Source.{Source}
use Rattle.rt_sql_statement.specs.declared.statement.Source.TheVariants as source
use Rattle.rt_table_row.specs.declared.settings.Reading.{Reading}
use Rattle.rt_table_row.specs.declared.settings.Reading.TheVariants.{Literal, Column, Plus, Minus}
use Rattle.rt_table_row.specs.Rows.{TableRow}
use Rattle.rt_table_row.specs.Columns.{Columns, place_of, has_name, are_distinct}
use Rattle.rt_table_row.specs.NewRows.{is_integer, number_in, fits_bits, id_value, given_id, coordinate_values, row_from}
use Rattle.rt_table_row.specs.Edits.{Setting, columns_read, is_summable, sum_fits, new_value, new_values}

-- where a column's new value comes from: what the column at that place held, or what the reading at that place gives
pub data Fill : Type 0 where
  Kept : ℕ → Fill
  Set : ℕ → Fill

pub record ColumnReadings : Type 0 where
  pub readings : List Reading
  pub fills : List Fill

-- what a set gives its column, from the values that the row had
abbrev pub read : List Value → Reading → Value
read values (Literal value) = value
read values (Column place) = slice_index_or values place Null
read values (Plus place number) = Int (number_in (slice_index_or values place Null) +ℤ number)
read values (Minus place number) = Int (number_in (slice_index_or values place Null) -ℤ number)

-- a sum is of an integer
abbrev pub reads_integer : List Value → Reading → Bool
reads_integer values (Literal value) = true
reads_integer values (Column place) = true
reads_integer values (Plus place number) = is_integer (slice_index_or values place Null)
reads_integer values (Minus place number) = is_integer (slice_index_or values place Null)

-- a sum has 64 bits
abbrev pub reading_fits : List Value → Reading → Bool
reading_fits values (Literal value) = true
reading_fits values (Column place) = true
reading_fits values (Plus place number) = fits_bits 63 (number_in (slice_index_or values place Null) +ℤ number)
reading_fits values (Minus place number) = fits_bits 63 (number_in (slice_index_or values place Null) -ℤ number)

-- what a column holds afterwards
abbrev pub fill_value : List Reading → List Value → Fill → Value
fill_value readings values (Kept place) = slice_index_or values place Null
fill_value readings values (Set at) = read values (slice_index_or readings at (Literal Null))

abbrev pub values_after : ColumnReadings → List Value → List Value
values_after sets values = map (fill_value sets.readings values) sets.fills

-- the row that one of these values becomes, or the first thing that is wrong, each over all columns before the next: a
-- type, a sum of more than 64 bits, and what a new row is refused for
abbrev pub new_row : ℕ → ColumnReadings → List Value → Result TableRow Refusal
new_row axes sets old =
    let new = values_after sets old in
    if not (list_all (reads_integer old) sets.readings) then Err WrongType
    else (if not (is_integer (id_value new) && list_all is_integer (coordinate_values axes new)) then Err WrongType
    else (if not (list_all (reading_fits old) sets.readings) then Err IntegerOutOfRange
    else row_from axes (given_id new) new))

abbrev pub set_names : List Setting → List (List ℕ)
set_names sets = map (λ (set : Setting). set.0) sets

-- the columns that are set and those that are read are the table's
abbrev pub has_set_columns : Columns → List Setting → Bool
has_set_columns columns sets =
    list_all (has_name columns.names) (set_names sets) && list_all (λ (set : Setting). list_all (has_name columns.names) (columns_read set.1)) sets

-- The sets are of distinct columns of the table, and what was looked up gives what they give.
pub record IsSettingsOf (columns : Columns) (sets : List Setting) (found : ColumnReadings) : Type 0 where
  pub distinct : are_distinct (set_names sets) ≡ true
  pub known : has_set_columns columns sets ≡ true
  pub each : length found.fills ≡ length columns.names
  pub summable : (values : List Value) → list_all (reads_integer values) found.readings ≡ list_all (λ (set : Setting). is_summable columns.names values set.1) sets
  pub fits : (values : List Value) → list_all (reading_fits values) found.readings ≡ list_all (λ (set : Setting). sum_fits columns.names values set.1) sets
  pub same : (values : List Value) → values_after found values ≡ new_values columns.names values sets

-- why there are none
abbrev pub IsBadSettings : Columns → List Setting → Refusal → Type 0
IsBadSettings columns sets refusal =
    ((refusal ≡ BadColumnList) × (are_distinct (set_names sets) ≡ false))
    ⊎ ((refusal ≡ NoSuchColumn) × (are_distinct (set_names sets) ≡ true) × (has_set_columns columns sets ≡ false))
    ⊎ (refusal ≡ OutOfMemory)

-- ---- how they are looked up

-- what a set gives, its column looked up; none if no column has the name
abbrev pub reading_of : List (List ℕ) → Source → Option Reading
reading_of names (source.Literal value) = Some (Literal value)
reading_of names (source.Column name) = option_map (λ place. Column place) (place_of names name)
reading_of names (source.Plus name number) = option_map (λ place. Plus place number) (place_of names name)
reading_of names (source.Minus name number) = option_map (λ place. Minus place number) (place_of names name)

-- each column that a set is of or reads is the table's
abbrev pub are_known : List (List ℕ) → List Setting → Bool
are_known names sets = list_all (λ (set : Setting). has_name names set.0 && list_all (has_name names) (columns_read set.1)) sets

-- why there are no readings
abbrev pub IsUnknownSet : List (List ℕ) → List Setting → Refusal → Type 0
IsUnknownSet names sets refusal = ((refusal ≡ NoSuchColumn) × (are_known names sets ≡ false)) ⊎ (refusal ≡ OutOfMemory)

abbrev pub has_set : List Setting → List ℕ → Bool
has_set sets name = list_any (λ (set : Setting). same_name name set.0) sets

-- There is a reading for each column, which gives its new value. If no set is of the column, it reads itself.
pub record AreReadings (names : List (List ℕ)) (sets : List Setting) (readings : List Reading) : Type 0 where
  pub each : length readings ≡ length names
  pub known : are_known names sets ≡ true
  pub kept : (place : ℕ) → place < length names → has_set sets (slice_index_or names place []) ≡ false → slice_index_or readings place (Literal Null) ≡ Column place
  pub summable : (values : List Value) → list_all (reads_integer values) readings ≡ list_all (λ (set : Setting). is_summable names values set.1) sets
  pub fits : (values : List Value) → list_all (reading_fits values) readings ≡ list_all (λ (set : Setting). sum_fits names values set.1) sets
  pub same : (values : List Value) (place : ℕ) → place < length names →
      read values (slice_index_or readings place (Literal Null)) ≡ new_value names values sets (slice_index_or names place [])

-- with a reading for each column, a column holds what the one at its own place gives
abbrev pub own_fills : ℕ → List Reading → List Fill
own_fills place [] = []
own_fills place (reading ∷ readings) = Set place ∷ own_fills (suc place) readings

abbrev pub column_readings : List Reading → ColumnReadings
column_readings readings = record { readings = readings; fills = own_fills 0 readings }
