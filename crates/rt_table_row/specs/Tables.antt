-- A table: its columns, its rows and its views (SQLite's documentation: The SQLite R*Tree Module; views own).
use Rattle.std.specs.Prelude.{ℕ, Bool, not, if◌then◌else◌, List, [], ◌∷◌, ◌++◌, filter, find, Option, Some, None, Result, Ok, Err}
use Rattle.std.specs.List.{list_any}
use Rattle.rt_sql_statement.specs.Name.{same_name}
use Rattle.rt_sql_statement.specs.declared.statement.Test.{Test}
use Rattle.rt_sql_statement.specs.declared.refusal.Refusal.{Refusal}
use Rattle.rt_sql_statement.specs.declared.refusal.Refusal.TheVariants.{NoSuchColumn, NoSuchView, ViewAlreadyExists}
use Rattle.rt_table_row.specs.Columns.{Columns}
use Rattle.rt_table_row.specs.Rows.{TableRow}
use Rattle.rt_table_row.specs.Conditions.{has_columns, picked}
use Rattle.rt_table_row.specs.Edits.{Steps, outcome, and_then}
use Rattle.rt_table_row.specs.Views.{View, ViewChange, deltas}

pub record TableLists : Type 0 where
  pub columns : Columns
  pub rows : List TableRow
  pub views : List View

-- a table without rows and views
abbrev pub new_table : Columns → TableLists
new_table columns = record { columns = columns; rows = []; views = [] }

-- the table after the steps, and what they changed in its views
abbrev pub edited : TableLists → Steps → Result (List ViewChange × TableLists) Refusal
edited t steps =
    and_then steps (λ done. Ok (deltas t.columns t.views t.rows (outcome t.rows done), record t { rows = outcome t.rows done }))

-- the rows that a condition picks
abbrev pub select : TableLists → List Test → Result (List TableRow) Refusal
select t cond = if has_columns t.columns cond then Ok (picked t.columns cond t.rows) else Err NoSuchColumn

abbrev pub is_view : List ℕ → View → Bool
is_view name view = same_name name view.name

abbrev pub has_view : TableLists → List ℕ → Bool
has_view t name = list_any (is_view name) t.views

-- the view stands last
abbrev pub watch : TableLists → List ℕ → List Test → Result TableLists Refusal
watch t name cond =
    if has_view t name then Err ViewAlreadyExists
    else (if not (has_columns t.columns cond) then Err NoSuchColumn
    else Ok (record t { views = t.views ++ record { name = name; cond = cond } ∷ [] }))

abbrev pub unwatch : TableLists → List ℕ → Result TableLists Refusal
unwatch t name =
    if has_view t name then Ok (record t { views = filter (λ view. not (is_view name view)) t.views }) else Err NoSuchView

abbrev pub view_outcome : TableLists → Option View → Result (List TableRow) Refusal
view_outcome t None = Err NoSuchView
view_outcome t (Some view) = Ok (picked t.columns view.cond t.rows)

-- the rows of a view, as they are now
abbrev pub view : TableLists → List ℕ → Result (List TableRow) Refusal
view t name = view_outcome t (find (is_view name) t.views)
