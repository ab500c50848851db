-- The rows of an answer, whatever their number of axes, and which of their columns are shown. Source: own.
use Rattle.std.specs.Prelude.{ℤ, List, [], ◌∷◌, map, ℕ, slice_index_or, Option, Some, None, Vec}
use Rattle.rt_tree_walk.specs.declared.searching.Row.{Row}
use Rattle.rt_sql_statement.specs.declared.value.Value.{Value}
use Rattle.rt_sql_statement.specs.declared.value.Value.TheVariants.{Int, Null}
use Rattle.rt_table_row.specs.Rows.{values_of}
use Rattle.rt_reply.specs.declared.rows.RowsOf.{RowsOf}
use Rattle.rt_reply.specs.declared.rows.RowsOf.TheVariants as of_axes
use Rattle.rt_reply.specs.declared.rows.Rows.{Rows}
use Rattle.rt_reply.specs.declared.rows.Rows.TheVariants as rows
use Rattle.std.specs.Global.{Global}

-- the values of a row without auxiliary ones, column by column
abbrev pub box_values : {D : _} → Row D → List Value
box_values row = values_of (record { id = row.id; box = row.rect; auxiliary = [] })

-- the values of a row of which only the id is kept
abbrev pub id_values : ℤ → List Value
id_values id = Int id ∷ []

abbrev pub values_of_rows : {D : _} → RowsOf D → List (List Value)
values_of_rows (of_axes.Boxes found) = map box_values found.items
values_of_rows (of_axes.Listed list) = list

abbrev pub values_in : Rows → List (List Value)
values_in (rows.One found) = map box_values found.items
values_in (rows.Two found) = map box_values found.items
values_in (rows.Three found) = map box_values found.items
values_in (rows.Listed list) = list
values_in (rows.Ids ids) = map id_values ids.items

-- the values at these places
abbrev pub values_at : List ℕ → List Value → List Value
values_at places values = map (λ place. slice_index_or values place Null) places

-- the rows with the columns at these places, or with all
abbrev pub values_shown : Option (Vec ℕ Global) → Rows → List (List Value)
values_shown None rows = values_in rows
values_shown (Some places) rows = map (values_at places.items) (values_in rows)
