-- When the steps of a plan can be carried out, and what they take. Source: own.
use Rattle.std.specs.Prelude.{◌≡◌, drop, ℕ, ◌+◌, ◌*◌, ◌<◌, ◌==◌, if◌then◌else◌, true, false, List, [], ◌∷◌, length}
use Rattle.std.specs.List.{All}
use Rattle.rt_table_row.specs.Rows.{TableRow, has_id, without_id}
use Rattle.rt_table_row.specs.Edits.{Step, Leaves, Comes, Becomes, after_step, most_rows}
use Rattle.rt_table_row.specs.Columns.{Columns}

-- the row that goes is there, the id of the one that comes is free, and the table isn't full
abbrev pub Applies : List TableRow → Step → Type 0
Applies rows (Leaves id) = has_id rows id ≡ true
Applies rows (Comes row) = (has_id rows row.id ≡ false) × (length rows < most_rows)
Applies rows (Becomes id row) = (has_id rows id ≡ true) × (has_id (without_id rows id) row.id ≡ false)

-- each of the steps applies to the rows that those before it leave
abbrev pub ApplyInTurn : List TableRow → List Step → Type 0
ApplyInTurn rows [] = Unit {0}
ApplyInTurn rows (step ∷ steps) = Applies rows step × ApplyInTurn (after_step rows step) steps

-- the row that a step inserts has a value for each auxiliary column, which follow the id and the coordinates
abbrev pub FitsColumns : Columns → Step → Type 0
FitsColumns columns (Leaves id) = Unit {0}
FitsColumns columns (Comes row) = length row.auxiliary ≡ length (drop (1 + 2 * columns.axes) columns.names)
FitsColumns columns (Becomes id row) = length row.auxiliary ≡ length (drop (1 + 2 * columns.axes) columns.names)

-- the steps apply to these rows of a table of these columns
abbrev pub ApplyTo : Columns → List TableRow → List Step → Type 0
ApplyTo columns rows steps = ApplyInTurn rows steps × All (FitsColumns columns) steps

-- how many rows a step inserts
abbrev pub inserts : Step → ℕ
inserts (Leaves id) = 0
inserts (Comes row) = 1
inserts (Becomes id row) = 1

abbrev pub inserts_all : List Step → ℕ
inserts_all [] = 0
inserts_all (step ∷ steps) = inserts step + inserts_all steps

-- how many rows with auxiliary values a step inserts
abbrev pub auxiliary_rows : TableRow → ℕ
auxiliary_rows row = if length row.auxiliary == 0 then 0 else 1

abbrev pub auxiliary_rows_of : Step → ℕ
auxiliary_rows_of (Leaves id) = 0
auxiliary_rows_of (Comes row) = auxiliary_rows row
auxiliary_rows_of (Becomes id row) = auxiliary_rows row

abbrev pub auxiliary_rows_all : List Step → ℕ
auxiliary_rows_all [] = 0
auxiliary_rows_all (step ∷ steps) = auxiliary_rows_of step + auxiliary_rows_all steps
