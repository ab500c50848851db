-- A condition whose columns were looked up: each test has the place of the column that it looks at. Source: own.
use Rattle.std.specs.Prelude.{◌≡◌, ◌⊎◌, ℕ, ℤ, ◌==◌, Bool, true, false, not, ◌&&◌, List, [], ◌∷◌, map, zip, Some, slice_index_or}
use Rattle.std.specs.List.{list_all}
use Rattle.std.specs.Option.{option_map_or}
use Rattle.rt_sql_statement.specs.declared.value.Value.{Value}
use Rattle.rt_sql_statement.specs.declared.value.Value.TheVariants.{Null}
use Rattle.rt_box.specs.declared.operator.Operator.{Operator}
use Rattle.rt_box.specs.declared.operator.Operator.TheVariants.{Eq}
use Rattle.rt_sql_statement.specs.declared.statement.Test.{Test}
use Rattle.rt_sql_statement.specs.declared.statement.Test.TheVariants.{Compare, IsNull, IsNotNull}
use Rattle.rt_sql_statement.specs.declared.refusal.Refusal.{Refusal}
use Rattle.rt_sql_statement.specs.declared.refusal.Refusal.TheVariants.{NoSuchColumn, OutOfMemory}
use Rattle.rt_table_row.specs.declared.filter.TestPlaces.{TestPlaces}
use Rattle.rt_table_row.specs.declared.filter.TestPlaces.TheVariants.{One, Many}
use Rattle.rt_table_row.specs.Values.{is_null, compares}
use Rattle.rt_table_row.specs.Columns.{Columns, place_of}
use Rattle.rt_table_row.specs.Conditions.{column_of, has_columns, holds}
use Rattle.rt_table_row.specs.NewRows.{is_integer}
use Rattle.rt_table_row.specs.Rows.{TableRow, values_of}

pub record Placed : Type 0 where
  pub cond : List Test
  pub places : List ℕ

-- the places, wherever they stand
abbrev pub places_at : TestPlaces → List ℕ
places_at (One place) = place ∷ []
places_at (Many places) = places.items

-- the value passes the test
abbrev pub value_passes : Value → Test → Bool
value_passes value (Compare c) = compares c.op value c.value
value_passes value (IsNull name) = is_null value
value_passes value (IsNotNull name) = not (is_null value)

abbrev pub passes_at : TableRow → Test × ℕ → Bool
passes_at row test = value_passes (slice_index_or (values_of row) test.1 Null) test.0

-- the row passes all of the tests
abbrev pub admits : Placed → TableRow → Bool
admits filter row = list_all (passes_at row) (zip filter.cond filter.places)

-- each place is that of the column that its test looks at
abbrev pub ArePlaces : List (List ℕ) → List Test → List ℕ → Type 0
ArePlaces names cond places = map (λ (test : Test). place_of names (column_of test)) cond ≡ map Some places

-- the same of places wherever they stand
abbrev pub HavePlaces : Columns → List Test → TestPlaces → Type 0
HavePlaces columns cond places = ArePlaces columns.names cond (places_at places)

-- The filter picks the rows that the condition picks, and each test looks at a column of the table.
pub record IsFilterOf (columns : Columns) (cond : List Test) (filter : Placed) : Type 0 where
  pub known : has_columns columns cond ≡ true
  pub cond_is : filter.cond ≡ cond
  pub places_are : ArePlaces columns.names cond filter.places
  pub same : (row : TableRow) → admits filter row ≡ holds columns cond row

-- why there is none
abbrev pub IsUnknown : Columns → List Test → Refusal → Type 0
IsUnknown columns cond refusal = ((refusal ≡ NoSuchColumn) × (has_columns columns cond ≡ false)) ⊎ (refusal ≡ OutOfMemory)

abbrev pub is_equality : Operator → Bool
is_equality Eq = true
is_equality op = false

-- a comparison by `=` with an integer
abbrev pub is_integer_equality : Test → Bool
is_integer_equality (Compare c) = is_equality c.op && is_integer c.value
is_integer_equality (IsNull name) = false
is_integer_equality (IsNotNull name) = false

-- and of the id: its column stands first
abbrev pub fixes_id : Test × ℕ → Bool
fixes_id test = test.1 == 0 && is_integer_equality test.0

-- each row that passes all of the tests has the id
abbrev pub FixesId : List Test → List ℕ → ℤ → Type 0
FixesId tests places id = (row : TableRow) → list_all (passes_at row) (zip tests places) ≡ true → row.id ≡ id

-- the condition is one such test
abbrev pub is_by_id : Columns → List Test → Bool
is_by_id columns [] = false
is_by_id columns (test ∷ []) = option_map_or (λ place. fixes_id (test, place)) (place_of columns.names (column_of test)) false
is_by_id columns (test ∷ other ∷ more) = false
