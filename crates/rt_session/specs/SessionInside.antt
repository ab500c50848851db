-- The list that a session keeps its tables in (own).
use Rattle.std.specs.Prelude.{◌≡◌, true, List, map}
use Rattle.rt_table_row.specs.Columns.{are_distinct}
use Rattle.rt_session.specs.declared.tables.Named.{Named}
use Rattle.rt_session.specs.declared.session.Session.TheInside.{Inside}
use Rattle.rt_session.specs.Session.{State, NamedTable}

abbrev pub named_of : Named → NamedTable
named_of n = record { name = n.name; table = n.table.lists; tree = n.table.tree }

abbrev pub state_of : Inside → State
state_of s = record { capacity = s.capacity; tables = map named_of s.tables.items }

-- no two tables have one name
abbrev pub HaveNames : List Named → Type 0
HaveNames tables = are_distinct (map (λ n. n.name) tables) ≡ true

abbrev pub IsNamed : Inside → Type 0
IsNamed s = HaveNames s.tables.items
