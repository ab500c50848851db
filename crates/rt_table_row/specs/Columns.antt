-- The columns of a table. Source: SQLite's documentation (The SQLite R*Tree Module, sections 3.1 and 4); one to
-- three axes, and 100 columns with the auxiliary ones, are own.
use Rattle.std.specs.Prelude.{◌≡◌, ℕ, ◌+◌, ◌*◌, ◌/◌, ◌≤◌, Bool, true, not, ◌&&◌, ◌||◌, ◌==◌, nat_le, if◌then◌else◌, List, [], ◌∷◌, length, map, filter, drop, position, Option, Result, Ok, Err}
use Rattle.std.specs.List.{list_any, list_all}
use Rattle.std.specs.Str.{str_to_ascii_lowercase}
use Rattle.rt_sql_statement.specs.Name.{same_name}
use Rattle.rt_sql_statement.specs.declared.statement.ColumnDef.{ColumnDef}
use Rattle.rt_sql_statement.specs.declared.refusal.Refusal.{Refusal}
use Rattle.rt_sql_statement.specs.declared.refusal.Refusal.TheVariants.{BadColumnList}

-- how many axes the rows' boxes have, and the names of the columns: the id's, a minimum's and a maximum's for each
-- axis, and those of the auxiliary columns
pub record Columns : Type 0 where
  pub axes : ℕ
  pub names : List (List ℕ)

-- where the column of that name stands
abbrev pub place_of : List (List ℕ) → List ℕ → Option ℕ
place_of names name = position (same_name name) names

abbrev pub has_name : List (List ℕ) → List ℕ → Bool
has_name names name = list_any (same_name name) names

-- no name stands twice
abbrev pub are_distinct : List (List ℕ) → Bool
are_distinct [] = true
are_distinct (name ∷ names) = not (has_name names name) && are_distinct names

abbrev pub plain_columns : List ColumnDef → List ColumnDef
plain_columns columns = filter (λ c. not c.auxiliary) columns

-- an id and one to three pairs of coordinates, and then auxiliary columns; 100 in all at most, of distinct names
abbrev pub is_column_list : List ColumnDef → Bool
is_column_list columns =
    let plain = length (plain_columns columns) in
    (plain == 3 || plain == 5 || plain == 7)
    && list_all (λ c. c.auxiliary) (drop plain columns)
    && nat_le (length columns) 100
    && are_distinct (map (λ c. c.name) columns)

-- the columns of a CREATE
abbrev pub columns_of : List ColumnDef → Result Columns Refusal
columns_of columns =
    if is_column_list columns
    then Ok (record { axes = length (plain_columns columns) / 2; names = map (λ c. c.name) columns })
    else Err BadColumnList

-- one to three axes; columns enough for an id and two coordinates of each axis; no two of one name
abbrev pub AreColumns : ℕ → List (List ℕ) → Type 0
AreColumns axes names = (1 ≤ axes) × (axes ≤ 3) × (1 + 2 * axes ≤ length names) × (are_distinct names ≡ true)

-- a set of names in lower case has one name more
abbrev pub AddsName : List ℕ → (List ℕ → Bool) → (List ℕ → Bool) → Type 0
AddsName name before after =
    (other : List ℕ) → after (str_to_ascii_lowercase other) ≡ (same_name name other || before (str_to_ascii_lowercase other))
