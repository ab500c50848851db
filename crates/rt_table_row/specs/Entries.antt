-- A row as a table keeps it, and a value of it that is looked at where it stands. Source: own.
use Rattle.std.specs.Prelude.{List, map, ◌++◌}
use Rattle.rt_sql_statement.specs.declared.value.Value.{Value}
use Rattle.rt_sql_statement.specs.declared.value.Value.TheVariants.{Null, Int}
use Rattle.rt_table_row.specs.declared.entry.Entry.{Entry}
use Rattle.rt_table_row.specs.declared.entry.RowView.{RowView}
use Rattle.rt_table_row.specs.declared.entry.ListedRow.{ListedRow}
use Rattle.rt_table_row.specs.declared.entry.Step as declared
use Rattle.rt_table_row.specs.declared.entry.Step.TheVariants as step
use Rattle.rt_table_row.specs.declared.entry.Field.{Field}
use Rattle.rt_table_row.specs.declared.entry.Field.TheVariants.{Number, Auxiliary, Missing}
use Rattle.rt_table_row.specs.Rows.{TableRow}
use Rattle.rt_table_row.specs.Edits.{Step, Leaves, Comes, Becomes}

-- the row that an entry is
abbrev pub row_of : {D : _} → Entry D → TableRow
row_of entry = record { id = entry.id; box = entry.rect; auxiliary = entry.auxiliary }

-- the row that is looked at
abbrev pub view_row : {D : _} → RowView D → TableRow
view_row view = record { id = view.id; box = view.rect; auxiliary = view.auxiliary.now }

-- the values of a row in a list, column by column
abbrev pub listed_values : ListedRow → List Value
listed_values row = map Int row.numbers.now ++ row.auxiliary.now

-- the step that a step of entries is
abbrev pub step_of : {D : _} → declared.Step D → Step
step_of (step.Leaves id) = Leaves id
step_of (step.Comes entry) = Comes (row_of entry)
step_of (step.Becomes id entry) = Becomes id (row_of entry)

-- the value that is looked at; NULL if no column has that place
abbrev pub field_value : Field → Value
field_value (Number n) = Int n
field_value (Auxiliary value) = value.now
field_value Missing = Null
