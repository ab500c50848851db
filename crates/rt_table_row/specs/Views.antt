-- Watched views, and what a statement changes in one (own).
use Rattle.std.specs.Prelude.{ℕ, ℤ, Bool, true, false, int_lt, if◌then◌else◌, List, [], ◌∷◌, ◌++◌, map, filter, Option, Some, None}
use Rattle.std.specs.List.{flat_map}
use Rattle.std.specs.Cmp.Lexicographic.{pointwise}
use Rattle.rt_sql_statement.specs.declared.value.Value.{Value}
use Rattle.rt_sql_statement.specs.declared.statement.Test.{Test}
use Rattle.rt_sql_statement.specs.Value.{same_value}
use Rattle.rt_table_row.specs.Columns.{Columns}
use Rattle.rt_table_row.specs.Rows.{TableRow, values_of, row_at}
use Rattle.rt_table_row.specs.Conditions.{picked}

-- a view: its name, and the condition that its rows meet
pub record View : Type 0 where
  pub name : List ℕ
  pub cond : List Test

-- a row that came into a view, or left it
pub record ViewChange : Type 0 where
  pub view : List ℕ
  pub came : Bool
  pub row : List Value

abbrev pub same_row : TableRow → TableRow → Bool
same_row a b = pointwise same_value (values_of a) (values_of b)

-- a sorted list of ids with one more
abbrev pub with_id : List ℤ → ℤ → List ℤ
with_id ids id = filter (λ i. int_lt i id) ids ++ id ∷ filter (λ i. int_lt id i) ids

-- the ids of both lists of rows, each once, by rising id
abbrev pub ids_of_both : List TableRow → List TableRow → List ℤ
ids_of_both [] after = map (λ r. r.id) after
ids_of_both (r ∷ rs) after = with_id (ids_of_both rs after) r.id

abbrev pub left : List ℕ → TableRow → ViewChange
left view row = record { view = view; came = false; row = values_of row }

abbrev pub came : List ℕ → TableRow → ViewChange
came view row = record { view = view; came = true; row = values_of row }

-- at one id: nothing if the rows are equal, else the row that left and then the row that came
abbrev pub change_at : List ℕ → Option TableRow → Option TableRow → List ViewChange
change_at view None None = []
change_at view (Some old) None = left view old ∷ []
change_at view None (Some new) = came view new ∷ []
change_at view (Some old) (Some new) = if same_row old new then [] else left view old ∷ came view new ∷ []

-- what differs between the two lists of rows, by rising id
abbrev pub delta : List ℕ → List TableRow → List TableRow → List ViewChange
delta view before after = flat_map (λ id. change_at view (row_at before id) (row_at after id)) (ids_of_both before after)

-- what a statement that made these rows of those changed in the views, in the order in which they were named
abbrev pub deltas : Columns → List View → List TableRow → List TableRow → List ViewChange
deltas columns views before after =
    flat_map (λ view. delta view.name (picked columns view.cond before) (picked columns view.cond after)) views
