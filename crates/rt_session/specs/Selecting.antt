-- Columns that a SELECT shows, looked up once (own).
use Rattle.std.specs.Prelude.{◌≡◌, ◌≢◌, ℕ, false, List, map, Some}
use Rattle.std.specs.List.{list_all}
use Rattle.rt_sql_statement.specs.declared.refusal.Refusal.{Refusal}
use Rattle.rt_sql_statement.specs.declared.refusal.Refusal.TheVariants.{OutOfMemory, NoSuchColumn}
use Rattle.rt_table_row.specs.Columns.{place_of, has_name}

-- where the columns of these names stand
abbrev pub ArePlaces : List (List ℕ) → List (List ℕ) → List ℕ → Type 0
ArePlaces columns names places = map Some places ≡ map (place_of columns) names

-- one of the names is no column's
abbrev pub IsMissing : List (List ℕ) → List (List ℕ) → Refusal → Type 0
IsMissing columns names refusal = refusal ≢ OutOfMemory → (refusal ≡ NoSuchColumn) × (list_all (has_name columns) names ≡ false)
