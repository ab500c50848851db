-- What is known of the rows while an INSERT is planned: the largest id, and for how many more there is room. Source: own.
use Rattle.std.specs.Prelude.{◌≡◌, ℕ, ◌-◌, ℤ, pos, ◌+ℤ◌, Bool, true, false, int_lt, if◌then◌else◌, List, length, Option, Some, None, Result}
use Rattle.std.specs.Option.{option_map_or}
use Rattle.std.specs.Ordering.{int_eq}
use Rattle.rt_sql_statement.specs.declared.refusal.Refusal.{Refusal}
use Rattle.rt_sql_statement.specs.declared.refusal.Refusal.TheVariants.{IdAlreadyTaken, MinimumAboveMaximum}
use Rattle.rt_sql_statement.specs.declared.statement.Rule.{Rule}
use Rattle.rt_sql_statement.specs.declared.statement.Rule.TheVariants.{Ignore}
use Rattle.rt_table_row.specs.Rows.{TableRow, AreRising, has_id, largest_id}
use Rattle.rt_sql_statement.specs.declared.value.Value.{Value}
use Rattle.rt_table_row.specs.NewRows.{given_id, row_from}
use Rattle.rt_table_row.specs.Edits.{Step, Steps, Leaves, Comes, Becomes, largest_integer, most_rows, and_then, id_or_new, put_row}
use Rattle.rt_table_row.specs.Answers.{GivesAs}
use Rattle.rt_table_plan.specs.declared.count.Count.{Count}
use Rattle.rt_table_plan.specs.declared.draft.Draft.{Draft}
use Rattle.rt_table_row.specs.declared.entry.Step as declared
use Rattle.rt_table_plan.specs.Drafts.{Knows, known_of, one_step}

-- one more than the largest id, 1 in an empty table; none beside the largest integer
abbrev pub id_after : Option ℤ → Option ℤ
id_after largest = option_map_or (λ id. if int_eq id largest_integer then None else Some (id +ℤ pos 1)) largest (Some (pos 1))

abbrev pub id_or_after : Option ℤ → Option ℤ → Option ℤ
id_or_after largest None = id_after largest
id_or_after largest (Some id) = Some id

abbrev pub larger : Option ℤ → ℤ → Option ℤ
larger None id = Some id
larger (Some other) id = if int_lt id other then Some other else Some id

-- a row that comes may have the largest id; one that stands in the place of another keeps its id in an INSERT
abbrev pub largest_after : Option ℤ → Step → Option ℤ
largest_after largest (Leaves id) = largest
largest_after largest (Comes row) = larger largest row.id
largest_after largest (Becomes id row) = largest

abbrev pub room_after : ℕ → Step → ℕ
room_after room (Leaves id) = room
room_after room (Comes row) = room - 1
room_after room (Becomes id row) = room

pub record Counts (rows : List TableRow) (largest : Option ℤ) (room : ℕ) : Type 0 where
  pub rising : AreRising rows
  pub largest_is : largest ≡ largest_id rows
  pub room_is : room ≡ most_rows - length rows

-- the answer that is due among the rows as the draft's steps leave them, which are counted
abbrev pub GivesCounted : {D : _} {B : Type 0} → List TableRow → Draft D → Count → (B → List Step) → (List TableRow → Steps) → Result B Refusal → Type 0
GivesCounted rows draft count view wanted result =
    (now : List TableRow) → Knows rows (known_of draft) now → Counts now count.largest count.room → GivesAs view (wanted now) result

-- the same of a step
abbrev pub GivesStepCounted : {D : _} → List TableRow → Draft D → Count → (List TableRow → Steps) → Result (declared.Step D) Refusal → Type 0
GivesStepCounted rows draft count wanted result = GivesCounted rows draft count one_step wanted result

-- a row of these values is put among the rows, whatever is passed over
abbrev pub put_values : ℕ → Rule → List TableRow → List Value → Steps
put_values axes rule rows values = and_then (row_from axes (id_or_new rows (given_id values)) values) (put_row rule rows)

-- an INSERT's step: a row comes whose id no row has, or stands in the place of the one that has its id
abbrev pub Inserts : List TableRow → Step → Type 0
Inserts rows (Leaves id) = ⊥
Inserts rows (Comes row) = has_id rows row.id ≡ false
Inserts rows (Becomes id row) = (row.id ≡ id) × (has_id rows id ≡ true)

-- what OR IGNORE passes over
abbrev pub is_ignored : Rule → Refusal → Bool
is_ignored Ignore IdAlreadyTaken = true
is_ignored Ignore MinimumAboveMaximum = true
is_ignored rule refusal = false
