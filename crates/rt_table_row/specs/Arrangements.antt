-- The columns that an INSERT lists, looked up: each column of the table has the place of its value. Source: own.
use Rattle.std.specs.Prelude.{◌≡◌, ◌⊎◌, ℕ, zero, suc, true, false, List, [], ◌∷◌, ◌++◌, map, length, Option, Some, slice_index_or}
use Rattle.std.specs.List.{list_all}
use Rattle.std.specs.Option.{option_map_or}
use Rattle.rt_sql_statement.specs.declared.value.Value.{Value}
use Rattle.rt_sql_statement.specs.declared.value.Value.TheVariants.{Null}
use Rattle.rt_sql_statement.specs.declared.refusal.Refusal.{Refusal}
use Rattle.rt_sql_statement.specs.declared.refusal.Refusal.TheVariants.{BadColumnList, NoSuchColumn, OutOfMemory}
use Rattle.rt_table_row.specs.declared.arrangement.Places.{Places}
use Rattle.rt_table_row.specs.declared.arrangement.Places.TheVariants.{Own, Listed}
use Rattle.rt_table_row.specs.Columns.{Columns, has_name, are_distinct}
use Rattle.rt_table_row.specs.Edits.{column_values}

pub record ColumnPlaces : Type 0 where
  pub width : ℕ
  pub places : List (Option ℕ)

-- `n` columns, each in its own place
abbrev pub own_places : ℕ → List (Option ℕ)
own_places zero = []
own_places (suc n) = own_places n ++ Some n ∷ []

abbrev pub places_in : Places → List (Option ℕ)
places_in (Own count) = own_places count
places_in (Listed places) = places.items

-- the value at the place; NULL if the column isn't listed
abbrev pub value_at : List Value → Option ℕ → Value
value_at values place = option_map_or (λ k. slice_index_or values k Null) place Null

-- the values in the order of the table's columns
abbrev pub row_values : ColumnPlaces → List Value → List Value
row_values arrangement values = map (value_at values) arrangement.places

-- The names are distinct columns of the table, and values for them are arranged as they ask.
pub record IsArrangementOf (columns : Columns) (names : List (List ℕ)) (arrangement : ColumnPlaces) : Type 0 where
  pub distinct : are_distinct names ≡ true
  pub known : list_all (has_name columns.names) names ≡ true
  pub width_is : arrangement.width ≡ length names
  pub each : length arrangement.places ≡ length columns.names
  pub same : (values : List Value) → row_values arrangement values ≡ column_values columns.names names values

-- why there is none
abbrev pub IsBadList : Columns → List (List ℕ) → Refusal → Type 0
IsBadList columns names refusal =
    ((refusal ≡ BadColumnList) × (are_distinct names ≡ false))
    ⊎ ((refusal ≡ NoSuchColumn) × (are_distinct names ≡ true) × (list_all (has_name columns.names) names ≡ false))
    ⊎ (refusal ≡ OutOfMemory)
