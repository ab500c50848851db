-- The window of a condition: what it asks of each coordinate of a row's box. Source: SQLite's documentation (The SQLite
-- R*Tree Module, section 3.3: queries by coordinates); what a text, a blob or NULL asks is own.
use Rattle.std.specs.Prelude.{◌≡◌, ◌≢◌, ℕ, suc, ◌*◌, ◌<◌, ◌↔◌, ℤ, Bool, true, false, not, ◌||◌, ◌&&◌, nat_lt, List, All, length, zip, Some, FitsSigned}
use Rattle.std.specs.Int.{w32}
use Rattle.rt_box.specs.declared.interval.Interval.{Interval}
use Rattle.rt_box.specs.Window.{Allows, Admits}
use Rattle.rt_box.specs.declared.operator.Operator.{Operator}
use Rattle.rt_box.specs.declared.operator.Operator.TheVariants.{Ne}
use Rattle.rt_sql_statement.specs.declared.statement.Test.{Test}
use Rattle.rt_sql_statement.specs.declared.statement.Test.TheVariants.{Compare, IsNull, IsNotNull}
use Rattle.rt_sql_statement.specs.declared.value.Value.TheVariants.{Int}
use Rattle.rt_table_row.specs.Values.{compares}
use Rattle.rt_table_row.specs.Columns.{Columns, place_of}
use Rattle.rt_table_row.specs.Conditions.{column_of}
use Rattle.rt_table_row.specs.Rows.{TableRow}
use Rattle.rt_table_row.specs.Filters.{Placed, admits}

abbrev pub is_unequal : Operator → Bool
is_unequal Ne = true
is_unequal op = false

-- a coordinate that is this number passes the test; `<>` and `!=` would leave a gap, so they allow every number
abbrev pub allows : Test → ℤ → Bool
allows (Compare c) z = is_unequal c.op || compares c.op (Int z) c.value
allows (IsNull name) z = false
allows (IsNotNull name) z = true

-- if the test looks at that coordinate, it allows it the number; the id's column stands before the coordinates
abbrev pub AllowsAt : List (List ℕ) → ℕ → ℤ → Test → Type 0
AllowsAt names coordinate z test = place_of names (column_of test) ≡ Some (suc coordinate) → allows test z ≡ true

-- each coordinate may be the 32-bit numbers that all of the tests allow it
pub record IsWindowOf (columns : Columns) (cond : List Test) (window : List Interval) : Type 0 where
  pub long : length window ≡ 2 * columns.axes
  pub exact : (coordinate : ℕ) (z : ℤ) → coordinate < 2 * columns.axes
      → (Allows window coordinate z ↔ (FitsSigned w32 z × All (AllowsAt columns.names coordinate z) cond))

-- the same of a filter, whose columns were looked up
abbrev pub AllowsAtPlace : ℕ → ℤ → Test × ℕ → Type 0
AllowsAtPlace coordinate z test = test.1 ≡ suc coordinate → allows test.0 z ≡ true

pub record IsWindowAt (axes : ℕ) (filter : Placed) (window : List Interval) : Type 0 where
  pub long : length window ≡ 2 * axes
  pub exact : (coordinate : ℕ) (z : ℤ) → coordinate < 2 * axes
      → (Allows window coordinate z ↔ (FitsSigned w32 z × All (AllowsAtPlace coordinate z) (zip filter.cond filter.places)))

-- the test is one of `coordinates` coordinates, and no `<>`: the window says all that it asks (own)
abbrev pub is_gap : Test → Bool
is_gap (Compare c) = is_unequal c.op
is_gap (IsNull name) = false
is_gap (IsNotNull name) = false

abbrev pub is_said : ℕ → Test × ℕ → Bool
is_said coordinates test = nat_lt 0 test.1 && nat_lt test.1 (suc coordinates) && not (is_gap test.0)

-- a row passes whose box the window admits: nothing is left to be tested (own)
abbrev pub SaysAll : ℕ → Placed → Type 0
SaysAll axes filter = (window : List Interval) (row : TableRow) → IsWindowAt axes filter window → Admits window row.box → admits filter row ≡ true

-- of the numbers that the coordinate was allowed, those stay that pass; the other coordinates keep theirs (own)
pub record NarrowsTo (old new : List Interval) (coordinate : ℕ) (passes : ℤ → Bool) : Type 0 where
  pub long : length new ≡ length old
  pub taken : (z : ℤ) → Allows new coordinate z ↔ (Allows old coordinate z × (passes z ≡ true))
  pub others : (k : ℕ) (z : ℤ) → k ≢ coordinate → (Allows new k z ↔ Allows old k z)

-- of the numbers that the coordinates of `axes` axes were allowed, those stay that the test allows (own)
pub record NarrowsAt (axes : ℕ) (old new : List Interval) (test : Test × ℕ) : Type 0 where
  pub long : length new ≡ length old
  pub exact : (k : ℕ) (z : ℤ) → k < 2 * axes → (Allows new k z ↔ (Allows old k z × AllowsAtPlace k z test))
