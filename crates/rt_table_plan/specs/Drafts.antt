-- A plan while it is made: which ids have rows after its steps, without those rows. Source: own.
use Rattle.std.specs.Prelude.{◌≡◌, ℕ, ℤ, Bool, true, false, if◌then◌else◌, List, [], ◌∷◌, map, filter, Option, Some, None, Result, Ok, Vec}
use Rattle.std.specs.declared.alloc.Global.{Global}
use Rattle.std.specs.List.{filter_map}
use Rattle.std.specs.Option.{option_map_or}
use Rattle.std.specs.Ordering.{int_eq}
use Rattle.indexmap.specs.IndexMap.{get}
use Rattle.rt_sql_statement.specs.declared.refusal.Refusal.{Refusal}
use Rattle.rt_tree_walk.specs.declared.searching.Row.{Row}
use Rattle.rt_table_plan.specs.declared.draft.Latest.{Latest}
use Rattle.rt_table_plan.specs.declared.draft.Draft.{Draft}
use Rattle.rt_table_row.specs.Rows.{TableRow, values_of, row_at, has_id}
use Rattle.rt_table_row.specs.declared.entry.Step as declared
use Rattle.rt_table_row.specs.Entries.{step_of}
use Rattle.rt_table_row.specs.Edits.{Step, Steps, Leaves, Comes, Becomes, outcome, and_then, steps_and, replace_row}
use Rattle.rt_table_row.specs.Settings.{ColumnReadings, new_row}
use Rattle.rt_table_row.specs.Filters.{Placed, admits}
use Rattle.rt_table_row.specs.Answers.{GivesAs}
use Rattle.rt_table_store.specs.Trees.{leaf_row}

-- whether the id has a row: what the steps left of it, or else what was there before them
abbrev pub is_there : List TableRow → (ℤ → Option Bool) → ℤ → Bool
is_there rows touched id = option_map_or (λ there. there) (touched id) (has_id rows id)

-- what is known of the touched ids tells which ids have rows now
abbrev pub Knows : List TableRow → (ℤ → Option Bool) → List TableRow → Type 0
Knows rows touched now = (id : ℤ) → has_id now id ≡ is_there rows touched id

-- the ids that the step touches have or haven't rows after it
abbrev pub touched_by : (ℤ → Option Bool) → Step → ℤ → Option Bool
touched_by touched (Leaves old) id = if int_eq old id then Some false else touched id
touched_by touched (Comes row) id = if int_eq row.id id then Some true else touched id
touched_by touched (Becomes old row) id = if int_eq row.id id then Some true else (if int_eq old id then Some false else touched id)

-- there is an id, and it is this one
abbrev pub is_id : Option ℤ → ℤ → Bool
is_id None id = false
is_id (Some own) id = int_eq own id

-- whether the last step gave the id a row or left it without one; if it did neither, what the steps before it did
abbrev pub known : (ℤ → Option Bool) → Latest → ℤ → Option Bool
known before latest id = if is_id latest.came id then Some true else (if is_id latest.left id then Some false else before id)

-- the same of a whole draft
abbrev pub known_of : {D : _} → Draft D → ℤ → Option Bool
known_of draft = known (get int_eq draft.touched) draft.latest

-- what the last step touches is what this step touches
abbrev pub IsTouchedBy : Step → Latest → Type 0
IsTouchedBy step latest = (before : ℤ → Option Bool) (id : ℤ) → known before latest id ≡ touched_by before step id

-- the draft knows what a step more touches
abbrev pub KnowsStep : {D : _} → Draft D → Draft D → Step → Type 0
KnowsStep old new step = (id : ℤ) → known_of new id ≡ touched_by (known_of old) step id

-- the answer that is due among the rows as the draft's steps leave them; `view` tells the steps that are given
abbrev pub GivesAmong : {D : _} {B : Type 0} → List TableRow → Draft D → (B → List Step) → (List TableRow → Steps) → Result B Refusal → Type 0
GivesAmong rows draft view wanted result = (now : List TableRow) → Knows rows (known_of draft) now → GivesAs view (wanted now) result

abbrev pub step_list : {D : _} → Vec (declared.Step D) Global → List Step
step_list steps = map step_of steps.items

abbrev pub one_step : {D : _} → declared.Step D → List Step
one_step step = step_of step ∷ []

-- the same of a step
abbrev pub GivesStep : {D : _} → List TableRow → Draft D → (List TableRow → Steps) → Result (declared.Step D) Refusal → Type 0
GivesStep rows draft wanted result = GivesAmong rows draft one_step wanted result

abbrev pub step_given : {D : _} → Option (declared.Step D) → List Step
step_given None = []
step_given (Some step) = step_of step ∷ []

-- ---- DELETE

-- the tree's rows of those that the condition picks
abbrev pub leaf_rows : (D : ℕ) → Placed → List TableRow → List (Row D)
leaf_rows D condition rows = map leaf_row (filter (admits condition) rows)

abbrev pub leave_steps : {D : ℕ} → List (Row D) → List Step
leave_steps rows = map (λ row. Leaves row.id) rows

-- ---- UPDATE, its columns looked up

-- the table's row of what was found
abbrev pub row_of : {D : ℕ} → List TableRow → Row D → Option TableRow
row_of rows found = row_at rows found.id

-- the table's rows of those that were found
abbrev pub table_rows : {D : ℕ} → List TableRow → List (Row D) → List TableRow
table_rows rows found = filter_map (row_of rows) found

abbrev pub set_row : ℕ → ColumnReadings → List TableRow → TableRow → Steps
set_row axes sets now row = and_then (new_row axes sets (values_of row)) (replace_row now row.id)

-- one row after the other, each among the rows as they then are
abbrev pub set_all : ℕ → ColumnReadings → List TableRow → List TableRow → Steps
set_all axes sets now [] = Ok []
set_all axes sets now (row ∷ later) = and_then (set_row axes sets now row) (λ steps. steps_and steps (set_all axes sets (outcome now steps) later))

-- the rows that were found in the tree
abbrev pub set_found : {D : ℕ} → ℕ → ColumnReadings → List TableRow → List (Row D) → Steps
set_found axes sets rows found = set_all axes sets rows (table_rows rows found)

-- the rows that the condition picks
abbrev pub set_picked : ℕ → ColumnReadings → Placed → List TableRow → Steps
set_picked axes sets condition rows = set_found axes sets rows (leaf_rows axes condition rows)
