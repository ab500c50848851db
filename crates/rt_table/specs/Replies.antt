-- What a call answers that may run out of memory, and rows as lists of values. Source: own.
use Rattle.std.specs.Prelude.{◌≡◌, ◌⊎◌, ℕ, ℤ, List, map, Result, Ok, Err}
use Rattle.rt_check_dump.specs.declared.dump.AnyShadow.{AnyShadow}
use Rattle.rt_check_dump.specs.declared.dump.AnyShadow.TheVariants.{One, Two, Three}
use Rattle.rt_sql_statement.specs.declared.value.Value.{Value}
use Rattle.rt_sql_statement.specs.declared.refusal.Refusal.{Refusal}
use Rattle.rt_sql_statement.specs.declared.refusal.Refusal.TheVariants.{OutOfMemory}
use Rattle.rt_box.specs.declared.interval.Interval.{Interval}
use Rattle.rt_sql_statement.specs.declared.statement.Test.{Test}
use Rattle.rt_table_row.specs.Rows.{TableRow, values_of}
use Rattle.rt_table_row.specs.Windows.{IsWindowOf}
use Rattle.rt_table_store.specs.Visiting.{Visits}
use Rattle.rt_table.specs.Held.{Held, TableAndTree}

-- the refusal that is wanted, or want of memory
abbrev pub Refuses : {A : Type 0} → Result A Refusal → Refusal → Type 0
Refuses wanted refusal = (wanted ≡ Err refusal) ⊎ (refusal ≡ OutOfMemory)

-- the rows that are wanted, each as its values
abbrev pub Shows : Result (List TableRow) Refusal → List (List Value) → Type 0
Shows wanted values = (rows : List TableRow) × (wanted ≡ Ok rows) × (values ≡ map values_of rows)

-- their ids
abbrev pub ShowsIds : Result (List TableRow) Refusal → List ℤ → Type 0
ShowsIds wanted ids = (rows : List TableRow) × (wanted ≡ Ok rows) × (ids ≡ map (λ row. row.id) rows)

-- `visited` nodes of the tree are reached by the window
abbrev pub VisitsAny : AnyShadow → List Interval → ℕ → Type 0
VisitsAny (One tree) window visited = Visits tree window visited
VisitsAny (Two tree) window visited = Visits tree window visited
VisitsAny (Three tree) window visited = Visits tree window visited

-- the same of a window of the condition
abbrev pub VisitsBy : {D : ℕ} → Held D → List Test → ℕ → Type 0
VisitsBy table cond visited = (window : List Interval) × IsWindowOf table.lists.columns cond window × Visits table.tree window visited

abbrev pub VisitsAnyBy : TableAndTree → List Test → ℕ → Type 0
VisitsAnyBy table cond visited = (window : List Interval) × IsWindowOf table.lists.columns cond window × VisitsAny table.tree window visited
