-- What a condition picks. Source: SQLite's documentation (SELECT, the WHERE clause; SQL Language Expressions).
use Rattle.std.specs.Prelude.{ℕ, Bool, not, List, filter, slice_index_or}
use Rattle.std.specs.List.{list_all}
use Rattle.std.specs.Option.{option_map_or}
use Rattle.rt_sql_statement.specs.declared.value.Value.{Value}
use Rattle.rt_sql_statement.specs.declared.value.Value.TheVariants.{Null}
use Rattle.rt_sql_statement.specs.declared.statement.Test.{Test}
use Rattle.rt_sql_statement.specs.declared.statement.Test.TheVariants.{Compare, IsNull, IsNotNull}
use Rattle.rt_table_row.specs.Values.{is_null, compares}
use Rattle.rt_table_row.specs.Columns.{Columns, place_of, has_name}
use Rattle.rt_table_row.specs.Rows.{TableRow, values_of}

-- the value of the column of that name
abbrev pub value_in : List (List ℕ) → List Value → List ℕ → Value
value_in names values name = option_map_or (λ place. slice_index_or values place Null) (place_of names name) Null

-- the column that a test looks at
abbrev pub column_of : Test → List ℕ
column_of (Compare c) = c.column
column_of (IsNull name) = name
column_of (IsNotNull name) = name

abbrev pub passes : List (List ℕ) → List Value → Test → Bool
passes names values (Compare c) = compares c.op (value_in names values c.column) c.value
passes names values (IsNull name) = is_null (value_in names values name)
passes names values (IsNotNull name) = not (is_null (value_in names values name))

-- a condition holds of a row that passes all of its tests
abbrev pub holds : Columns → List Test → TableRow → Bool
holds columns cond row = list_all (passes columns.names (values_of row)) cond

-- each test looks at a column of the table
abbrev pub has_columns : Columns → List Test → Bool
has_columns columns cond = list_all (λ test. has_name columns.names (column_of test)) cond

-- the rows of which the condition holds, in their order
abbrev pub picked : Columns → List Test → List TableRow → List TableRow
picked columns cond rows = filter (holds columns cond) rows
