-- Changes of views, whose rows stand in one list. Source: own.
use Rattle.std.specs.Prelude.{◌≡◌, ℕ, Bool, List, [], ◌∷◌, length}
use Rattle.rt_sql_statement.specs.declared.value.Value.{Value}
use Rattle.rt_table_row.specs.Entries.{listed_values}
use Rattle.rt_table_row.specs.Rows.{TableRow, values_of}
use Rattle.rt_table_row.specs.Views.{ViewChange}
use Rattle.rt_reply.specs.declared.changes.Head.{Head}
use Rattle.rt_reply.specs.declared.changes.Change.{Change}
use Rattle.rt_reply.specs.declared.changes.Changes.TheInside.{Inside}

abbrev pub change : Head → List Value → ViewChange
change head row = record { view = head.view; came = head.came; row = row }

-- each head with its row
abbrev pub with_rows : List Head → List (List Value) → List ViewChange
with_rows [] rows = []
with_rows (head ∷ heads) [] = []
with_rows (head ∷ heads) (row ∷ rows) = change head row ∷ with_rows heads rows

abbrev pub changes_in : Inside → List ViewChange
changes_in changes = with_rows changes.heads.items changes.rows

-- there is a row for each head
abbrev pub HaveRows : Inside → Type 0
HaveRows changes = length changes.heads.items ≡ length changes.rows

-- the row that came into the view of that name, or left it
abbrev pub row_change : Bool → List ℕ → TableRow → ViewChange
row_change came view row = record { view = view; came = came; row = values_of row }

-- a change that is looked at
abbrev pub change_seen : Change → ViewChange
change_seen change = record { view = change.view.now; came = change.came; row = listed_values change.row }
