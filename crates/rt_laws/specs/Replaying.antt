-- What holds of the changes of every view. Source: own.
use Rattle.std.specs.Prelude.{◌≡◌, ℤ, not, List, [], ◌∷◌, ◌++◌, map, filter, int_lt, if◌then◌else◌}
use Rattle.std.specs.Ordering.{int_eq}
use Rattle.rt_sql_statement.specs.declared.value.Value.{Value}
use Rattle.rt_table_row.specs.Columns.{Columns}
use Rattle.rt_table_row.specs.Rows.{TableRow, AreRising, values_of}
use Rattle.rt_table_row.specs.Conditions.{picked}
use Rattle.rt_table_row.specs.NewRows.{number_in, id_value}
use Rattle.rt_table_row.specs.Edits.{Step, outcome}
use Rattle.rt_table_row.specs.Views.{View, ViewChange, delta}

-- the id of a row that is printed
abbrev pub printed_id : List Value → ℤ
printed_id row = number_in (id_value row)

-- a row that came stands at its place by id; one that left is no longer there
abbrev pub after_change : List (List Value) → ViewChange → List (List Value)
after_change shown change =
    if change.came
    then filter (λ row. int_lt (printed_id row) (printed_id change.row)) shown ++ change.row ∷ filter (λ row. int_lt (printed_id change.row) (printed_id row)) shown
    else filter (λ row. not (int_eq (printed_id change.row) (printed_id row))) shown

-- the rows that a reader of the changes has after all of them
abbrev pub replayed : List (List Value) → List ViewChange → List (List Value)
replayed shown [] = shown
replayed shown (change ∷ changes) = replayed (after_change shown change) changes

-- The changes that are printed of a view turn the rows that it showed into the rows that it shows.
abbrev pub ChangesReplay : Type 0
ChangesReplay =
    (columns : Columns) (view : View) (rows : List TableRow) (steps : List Step) → AreRising rows
    → replayed (map values_of (picked columns view.cond rows)) (delta view.name (picked columns view.cond rows) (picked columns view.cond (outcome rows steps)))
    ≡ map values_of (picked columns view.cond (outcome rows steps))
