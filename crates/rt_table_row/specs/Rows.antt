-- The rows of a table, a plain list by rising id (SQLite: the id is the primary key; the order own).
use Rattle.std.specs.Prelude.{◌-◌, ℤ, ◌<ℤ◌, int_lt, Bool, not, List, ◌∷◌, ◌++◌, length, map, filter, find, AllPairs, Option, slice_get}
use Rattle.std.specs.Option.{option_map}
use Rattle.std.specs.Ordering.{int_eq}
use Rattle.std.specs.List.{list_any}
use Rattle.rt_box.specs.declared.interval.Interval.{Interval}
use Rattle.rt_box.specs.Rect.{coordinates}
use Rattle.rt_sql_statement.specs.declared.value.Value.{Value}
use Rattle.rt_sql_statement.specs.declared.value.Value.TheVariants.{Int}

-- a row: its id, its box, and the values of the auxiliary columns
pub record TableRow : Type 0 where
  pub id : ℤ
  pub box : List Interval
  pub auxiliary : List Value

-- a row's values, column by column
abbrev pub values_of : TableRow → List Value
values_of row = Int row.id ∷ map Int (coordinates row.box) ++ row.auxiliary

-- each id is larger than those before it
abbrev pub AreRising : List TableRow → Type 0
AreRising rows = AllPairs (λ r s. r.id <ℤ s.id) rows

abbrev pub row_at : List TableRow → ℤ → Option TableRow
row_at rows id = find (λ r. int_eq id r.id) rows

abbrev pub has_id : List TableRow → ℤ → Bool
has_id rows id = list_any (λ r. int_eq id r.id) rows

-- the row stands at its place by id: after those of smaller ids, before those of larger ones
abbrev pub with_row : List TableRow → TableRow → List TableRow
with_row rows row = filter (λ r. int_lt r.id row.id) rows ++ row ∷ filter (λ r. int_lt row.id r.id) rows

abbrev pub without_id : List TableRow → ℤ → List TableRow
without_id rows id = filter (λ r. not (int_eq id r.id)) rows

-- of rows by rising id, the largest one
abbrev pub largest_id : List TableRow → Option ℤ
largest_id rows = option_map (λ r. r.id) (slice_get rows (length rows - 1))
