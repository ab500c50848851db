-- What a statement does to the rows of a table, as a list of steps. Source: SQLite's documentation (The SQLite R*Tree
-- Module; The ON CONFLICT Clause; UPDATE). New ids, the order of the refusals, and that an UPDATE goes by rising id,
-- are own.
use Rattle.std.specs.Prelude.{ℕ, ◌-◌, ◌^◌, ℤ, pos, ◌+ℤ◌, ◌-ℤ◌, Bool, true, not, ◌&&◌, ◌==◌, nat_le, if◌then◌else◌, List, [], ◌∷◌, ◌++◌, length, map, find, Option, Some, None, Result, Ok, Err}
use Rattle.std.specs.List.{list_all}
use Rattle.std.specs.Ordering.{int_eq}
use Rattle.std.specs.Option.{option_map_or}
use Rattle.rt_sql_statement.specs.Name.{same_name}
use Rattle.rt_sql_statement.specs.declared.value.Value.{Value}
use Rattle.rt_sql_statement.specs.declared.value.Value.TheVariants.{Int}
use Rattle.rt_sql_statement.specs.declared.statement.Rule.{Rule}
use Rattle.rt_sql_statement.specs.declared.statement.Rule.TheVariants.{Abort, Replace, Ignore}
use Rattle.rt_sql_statement.specs.declared.statement.Source.{Source}
use Rattle.rt_sql_statement.specs.declared.statement.Source.TheVariants.{Literal, Column, Plus, Minus}
use Rattle.rt_sql_statement.specs.declared.statement.Test.{Test}
use Rattle.rt_sql_statement.specs.declared.statement.Edit.{Edit}
use Rattle.rt_sql_statement.specs.declared.statement.Edit.TheVariants.{Insert, Update, Delete}
use Rattle.rt_sql_statement.specs.declared.refusal.Refusal.{Refusal}
use Rattle.rt_sql_statement.specs.declared.refusal.Refusal.TheVariants.{BadColumnList, NoSuchColumn, WrongNumberOfValues, WrongType, IntegerOutOfRange, IdAlreadyTaken, MinimumAboveMaximum, TableFull}
use Rattle.rt_table_row.specs.Columns.{Columns, has_name, are_distinct}
use Rattle.rt_table_row.specs.Rows.{TableRow, values_of, has_id, with_row, without_id, largest_id}
use Rattle.rt_table_row.specs.Conditions.{value_in, has_columns, picked}
use Rattle.rt_table_row.specs.NewRows.{is_integer, number_in, fits_bits, id_value, given_id, coordinate_values, row_from}

-- one change of the rows: the row of an id goes, a row comes, or another row stands in the place of the one of an id
pub data Step : Type 0 where
  Leaves : ℤ → Step
  Comes : TableRow → Step
  Becomes : ℤ → TableRow → Step

-- the step, or the refusal of the whole
abbrev pub Steps : Type 0
Steps = Result (List Step) Refusal

abbrev pub after_step : List TableRow → Step → List TableRow
after_step rows (Leaves id) = without_id rows id
after_step rows (Comes row) = with_row rows row
after_step rows (Becomes id row) = with_row (without_id rows id) row

-- the rows after all of the steps
abbrev pub outcome : List TableRow → List Step → List TableRow
outcome rows [] = rows
outcome rows (step ∷ steps) = outcome (after_step rows step) steps

abbrev pub and_then : {A B : Type 0} → Result A Refusal → (A → Result B Refusal) → Result B Refusal
and_then (Ok a) next = next a
and_then (Err refusal) next = Err refusal

-- these steps and then further ones
abbrev pub steps_and : List Step → Steps → Steps
steps_and steps later = and_then later (λ more. Ok (steps ++ more))

-- ---- INSERT

abbrev pub largest_integer : ℤ
largest_integer = pos (2 ^ 63 - 1)

abbrev pub most_rows : ℕ
most_rows = 1048576

-- one more than the largest id, 1 in an empty table; none beside the largest integer
abbrev pub new_id : List TableRow → Option ℤ
new_id rows = option_map_or (λ id. if int_eq id largest_integer then None else Some (id +ℤ pos 1)) (largest_id rows) (Some (pos 1))

abbrev pub id_or_new : List TableRow → Option ℤ → Option ℤ
id_or_new rows None = new_id rows
id_or_new rows (Some id) = Some id

-- a row whose id another row has
abbrev pub put_over : Rule → TableRow → Steps
put_over Replace row = Ok (Becomes row.id row ∷ [])
put_over Abort row = Err IdAlreadyTaken
put_over Ignore row = Err IdAlreadyTaken

abbrev pub put_row : Rule → List TableRow → TableRow → Steps
put_row rule rows row =
    if has_id rows row.id then put_over rule row
    else (if nat_le most_rows (length rows) then Err TableFull
    else Ok (Comes row ∷ []))

-- OR IGNORE skips a row whose id is taken or whose minimum is above its maximum
abbrev pub unless_ignored : Rule → Steps → Steps
unless_ignored Abort steps = steps
unless_ignored Replace steps = steps
unless_ignored Ignore (Ok steps) = Ok steps
unless_ignored Ignore (Err IdAlreadyTaken) = Ok []
unless_ignored Ignore (Err MinimumAboveMaximum) = Ok []
unless_ignored Ignore (Err refusal) = Err refusal

-- a row of these values is put among the rows
abbrev pub put : ℕ → Rule → List TableRow → List Value → Steps
put axes rule rows values =
    unless_ignored rule (and_then (row_from axes (id_or_new rows (given_id values)) values) (put_row rule rows))

-- one row after the other, each among the rows as they then are
abbrev pub put_all : ℕ → Rule → List TableRow → List (List Value) → Steps
put_all axes rule rows [] = Ok []
put_all axes rule rows (values ∷ lists) =
    and_then (put axes rule rows values) (λ steps. steps_and steps (put_all axes rule (outcome rows steps) lists))

-- the values in the order of the table's columns; a column that isn't listed gets NULL
abbrev pub column_values : List (List ℕ) → List (List ℕ) → List Value → List Value
column_values names listed values = map (value_in listed values) names

-- the columns that an INSERT lists, or all of them
abbrev pub listed_columns : Columns → Option (List (List ℕ)) → List (List ℕ)
listed_columns columns None = columns.names
listed_columns columns (Some listed) = listed

abbrev pub insert : Columns → List TableRow → Rule → Option (List (List ℕ)) → List (List Value) → Steps
insert columns rows rule listed lists =
    let names = listed_columns columns listed in
    if not (are_distinct names) then Err BadColumnList
    else (if not (list_all (has_name columns.names) names) then Err NoSuchColumn
    else (if not (list_all (λ values. length values == length names) lists) then Err WrongNumberOfValues
    else put_all columns.axes rule rows (map (column_values columns.names names) lists)))

-- ---- DELETE

abbrev pub delete : Columns → List TableRow → List Test → Steps
delete columns rows cond =
    if not (has_columns columns cond) then Err NoSuchColumn
    else Ok (map (λ row. Leaves row.id) (picked columns cond rows))

-- the steps in which the row of an id goes, if there is one
abbrev pub leaving : List TableRow → ℤ → List Step
leaving rows id = if has_id rows id then Leaves id ∷ [] else []

-- ---- UPDATE

-- a column, and what it is set to
abbrev pub Setting : Type 0
Setting = List ℕ × Source

-- the columns that a source reads
abbrev pub columns_read : Source → List (List ℕ)
columns_read (Literal value) = []
columns_read (Column name) = name ∷ []
columns_read (Plus name number) = name ∷ []
columns_read (Minus name number) = name ∷ []

-- what a source gives, from the values that the row had; sums are of whole numbers without bounds
abbrev pub source_value : List (List ℕ) → List Value → Source → Value
source_value names values (Literal value) = value
source_value names values (Column name) = value_in names values name
source_value names values (Plus name number) = Int (number_in (value_in names values name) +ℤ number)
source_value names values (Minus name number) = Int (number_in (value_in names values name) -ℤ number)

-- a sum is of an integer
abbrev pub is_summable : List (List ℕ) → List Value → Source → Bool
is_summable names values (Literal value) = true
is_summable names values (Column name) = true
is_summable names values (Plus name number) = is_integer (value_in names values name)
is_summable names values (Minus name number) = is_integer (value_in names values name)

-- a sum has 64 bits
abbrev pub sum_fits : List (List ℕ) → List Value → Source → Bool
sum_fits names values (Literal value) = true
sum_fits names values (Column name) = true
sum_fits names values (Plus name number) = fits_bits 63 (number_in (value_in names values name) +ℤ number)
sum_fits names values (Minus name number) = fits_bits 63 (number_in (value_in names values name) -ℤ number)

-- what a column holds afterwards
abbrev pub new_value : List (List ℕ) → List Value → List Setting → List ℕ → Value
new_value names values sets name =
    option_map_or (λ set. source_value names values set.1) (find (λ set. same_name name set.0) sets) (value_in names values name)

abbrev pub new_values : List (List ℕ) → List Value → List Setting → List Value
new_values names values sets = map (new_value names values sets) names

-- the row of the old id is now this one, unless another row has the new id
abbrev pub replace_row : List TableRow → ℤ → TableRow → Steps
replace_row rows old row =
    if not (int_eq old row.id) && has_id rows row.id then Err IdAlreadyTaken
    else Ok (Becomes old row ∷ [])

-- the step of one row, or the first thing that is wrong, each over all columns before the next: a type, an integer
-- out of range, a minimum above its maximum, an id that another row has
abbrev pub update_row : Columns → List TableRow → List Setting → TableRow → Steps
update_row columns rows sets row =
    let old = values_of row in
    let new = new_values columns.names old sets in
    if not (list_all (λ set. is_summable columns.names old set.1) sets) then Err WrongType
    else (if not (is_integer (id_value new) && list_all is_integer (coordinate_values columns.axes new)) then Err WrongType
    else (if not (list_all (λ set. sum_fits columns.names old set.1) sets) then Err IntegerOutOfRange
    else and_then (row_from columns.axes (given_id new) new) (replace_row rows row.id)))

-- one row after the other, each among the rows as they then are
abbrev pub update_all : Columns → List TableRow → List Setting → List TableRow → Steps
update_all columns rows sets [] = Ok []
update_all columns rows sets (row ∷ later) =
    and_then (update_row columns rows sets row) (λ steps. steps_and steps (update_all columns (outcome rows steps) sets later))

abbrev pub update : Columns → List TableRow → List Setting → List Test → Steps
update columns rows sets cond =
    let names = map (λ set. set.0) sets in
    if not (are_distinct names) then Err BadColumnList
    else (if not (list_all (has_name columns.names) names && list_all (λ set. list_all (has_name columns.names) (columns_read set.1)) sets && has_columns columns cond) then Err NoSuchColumn
    else update_all columns rows sets (picked columns cond rows))

-- ---- all edits

abbrev pub steps_of : Edit → Columns → List TableRow → Steps
steps_of (Insert rule listed lists) columns rows = insert columns rows rule listed lists
steps_of (Update sets cond) columns rows = update columns rows sets cond
steps_of (Delete cond) columns rows = delete columns rows cond
