-- The definitions, held against worked examples: each says what statements answer, and is proved by running the
-- definitions.
use Rattle.std.specs.Prelude.{◌≡◌, ℕ, pos, true, false, List, [], ◌∷◌, ◌++◌, map, codes, Some, None, Result, Ok, Err, refl}
use Rattle.std.specs.List.{range_with_len}
use Rattle.rt_box.specs.Interval.{interval}
use Rattle.rt_sql_statement.specs.declared.value.Value.{Value}
use Rattle.rt_sql_statement.specs.declared.value.Value.TheVariants.{Int}
use Rattle.rt_sql_statement.specs.declared.statement.ColumnDef.{ColumnDef}
use Rattle.rt_sql_statement.specs.declared.statement.Rule.TheVariants.{Abort, Replace}
use Rattle.rt_box.specs.declared.operator.Operator.TheVariants.{Gt}
use Rattle.rt_sql_statement.specs.declared.statement.Source.TheVariants.{Literal}
use Rattle.rt_sql_statement.specs.declared.statement.Test.{Test}
use Rattle.rt_sql_statement.specs.declared.statement.Test.TheVariants.{Compare}
use Rattle.rt_sql_statement.specs.declared.statement.Edit.TheVariants.{Insert, Update, Delete}
use Rattle.rt_sql_request.specs.declared.request.Stmt.{Stmt}
use Rattle.rt_sql_request.specs.declared.request.Stmt.TheVariants.{Create, Drop, Edit as Edits, Select, Check, Watch, Unwatch, View, Nodes}
use Rattle.rt_sql_statement.specs.declared.refusal.Refusal.{Refusal}
use Rattle.rt_sql_statement.specs.declared.refusal.Refusal.TheVariants.{NoSuchTable, TableAlreadyExists, BadColumnList, NoSuchColumn, IdAlreadyTaken, NoSuchView, ViewAlreadyExists, TableIsWatched, TooManyTablesOrViews}
use Rattle.rt_table_row.specs.Rows.{TableRow}
use Rattle.rt_table_row.specs.Edits.{and_then}
use Rattle.rt_table_row.specs.Tables.{new_table}
use Rattle.rt_check_dump.specs.declared.dump.AnyShadow.TheVariants.{One, Two, Three}
use Rattle.rt_tree.specs.Lists.{empty_lists}
use Rattle.rt_table_row.specs.Views.{ViewChange}
use Rattle.rt_reply.specs.declared.reply.Reply.{Reply}
use Rattle.rt_reply.specs.declared.reply.Reply.TheVariants.{Nothing, Rows, Changes, Verdict, Dump}
use Rattle.rt_session.specs.Session.{State, Outcome, state_after, empty, answer, no_tree}

-- ---- statements to work with

abbrev plain : List ℕ → ColumnDef
plain name = record { name = name; auxiliary = false }

abbrev points : List ColumnDef
points = plain (codes "id") ∷ plain (codes "minX") ∷ plain (codes "maxX") ∷ []

abbrev create : List ℕ → Stmt
create name = Create name false points

abbrev n : ℕ → Value
n k = Int (pos k)

-- a row, in the table and as it is shown
abbrev shown : ℕ → ℕ → ℕ → List Value
shown id lo hi = n id ∷ n lo ∷ n hi ∷ []

abbrev stored : ℕ → ℕ → ℕ → TableRow
stored id lo hi = record { id = pos id; box = interval (pos lo) (pos hi) ∷ []; auxiliary = [] }

abbrev put : List ℕ → List (List Value) → Stmt
put name rows = Edits name (Insert Abort None rows)

abbrev above : ℕ → Test
above k = Compare (record { column = codes "minX"; op = Gt; value = n k })

abbrev came : List ℕ → List Value → ViewChange
came view row = record { view = view; came = true; row = row }

abbrev left : List ℕ → List Value → ViewChange
left view row = record { view = view; came = false; row = row }

-- ---- what a script answers

-- No reply but that to `.nodes` depends on a tree, so `no_tree` is chosen each time.
abbrev run : State → List Stmt → State
run state [] = state
run state (statement ∷ statements) = run (state_after state (answer no_tree state statement)) statements

abbrev reply : Outcome → Result Reply Refusal
reply outcome = and_then outcome (λ given. Ok given.0)

-- what the last statement answers, after the others
abbrev last : List Stmt → Stmt → Result Reply Refusal
last statements statement = reply (answer no_tree (run (empty 5) statements) statement)

abbrev tables_after : List Stmt → List (List ℕ)
tables_after statements = map (λ t. t.name) (run (empty 5) statements).tables

abbrev views_after : List Stmt → List (List (List ℕ))
views_after statements = map (λ t. map (λ v. v.name) t.table.views) (run (empty 5) statements).tables

-- ---- tables by their names

create-makes_an_empty_table : run (empty 5) (create (codes "t") ∷ []) ≡ record { capacity = 5; tables = record { name = codes "t"; table = new_table (record { axes = 1; names = codes "id" ∷ codes "minX" ∷ codes "maxX" ∷ [] }); tree = One (empty_lists 5) } ∷ [] }
create-makes_an_empty_table = refl

create-again : last (create (codes "t") ∷ []) (create (codes "T")) ≡ Err TableAlreadyExists
create-again = refl

create-if_absent : answer no_tree (run (empty 5) (create (codes "t") ∷ [])) (Create (codes "T") true []) ≡ Ok (Nothing, run (empty 5) (create (codes "t") ∷ []))
create-if_absent = refl

create-bad_columns : last [] (Create (codes "t") false (plain (codes "id") ∷ [])) ≡ Err BadColumnList
create-bad_columns = refl

-- a name that is taken is looked at before the columns
create-taken_before_columns : last (create (codes "t") ∷ []) (Create (codes "t") false []) ≡ Err TableAlreadyExists
create-taken_before_columns = refl

-- names of one letter: 64 tables, and the 65th
abbrev letters : ℕ → List Stmt
letters many = map (λ k. create (k ∷ [])) (range_with_len 1 many)

create-64th : last (letters 63) (create (codes "_t")) ≡ Ok Nothing
create-64th = refl

create-65th : last (letters 64) (create (codes "_t")) ≡ Err TooManyTablesOrViews
create-65th = refl

-- the limit is looked at before the columns
create-limit_before_columns : last (letters 64) (Create (codes "_t") false []) ≡ Err TooManyTablesOrViews
create-limit_before_columns = refl

no_table-insert : last [] (put (codes "t") (shown 1 2 3 ∷ [])) ≡ Err NoSuchTable
no_table-insert = refl

no_table-update : last (create (codes "u") ∷ []) (Edits (codes "t") (Update ((codes "minX", Literal (n 0)) ∷ []) [])) ≡ Err NoSuchTable
no_table-update = refl

no_table-delete : last [] (Edits (codes "t") (Delete [])) ≡ Err NoSuchTable
no_table-delete = refl

no_table-select : last [] (Select None (codes "t") [] None) ≡ Err NoSuchTable
no_table-select = refl

no_table-watch : last [] (Watch (codes "v") (codes "t") []) ≡ Err NoSuchTable
no_table-watch = refl

no_table-drop : last [] (Drop (codes "t") false) ≡ Err NoSuchTable
no_table-drop = refl

no_table-drop_if_there : last [] (Drop (codes "t") true) ≡ Ok Nothing
no_table-drop_if_there = refl

drop-of_the_first : tables_after (create (codes "t") ∷ create (codes "u") ∷ create (codes "w") ∷ Drop (codes "T") false ∷ []) ≡ codes "u" ∷ codes "w" ∷ []
drop-of_the_first = refl

drop-and_create : tables_after (create (codes "t") ∷ create (codes "u") ∷ Drop (codes "t") false ∷ create (codes "t") ∷ []) ≡ codes "u" ∷ codes "t" ∷ []
drop-and_create = refl

drop-watched : last (create (codes "t") ∷ Watch (codes "v") (codes "t") [] ∷ []) (Drop (codes "t") true) ≡ Err TableIsWatched
drop-watched = refl

drop-no_longer_watched : last (create (codes "t") ∷ Watch (codes "v") (codes "t") [] ∷ Unwatch (codes "V") ∷ []) (Drop (codes "t") true) ≡ Ok Nothing
drop-no_longer_watched = refl

-- ---- rows

abbrev filled : List Stmt
filled = create (codes "t") ∷ put (codes "t") (shown 7 10 11 ∷ shown 2 20 21 ∷ []) ∷ []

select-all : last filled (Select None (codes "t") [] None) ≡ Ok (Rows (shown 2 20 21 ∷ shown 7 10 11 ∷ []))
select-all = refl

select-by_id : last filled (Select None (codes "t") [] (Some (codes "ID"))) ≡ Ok (Rows (shown 2 20 21 ∷ shown 7 10 11 ∷ []))
select-by_id = refl

select-by_another_column : last filled (Select None (codes "t") [] (Some (codes "minX"))) ≡ Err NoSuchColumn
select-by_another_column = refl

select-columns : last filled (Select (Some (codes "maxX" ∷ codes "id" ∷ codes "MAXX" ∷ [])) (codes "t") [] None) ≡ Ok (Rows ((n 21 ∷ n 2 ∷ n 21 ∷ []) ∷ (n 11 ∷ n 7 ∷ n 11 ∷ []) ∷ []))
select-columns = refl

select-where : last filled (Select None (codes "T") (above 15 ∷ []) None) ≡ Ok (Rows (shown 2 20 21 ∷ []))
select-where = refl

select-no_such_column : last filled (Select (Some (codes "id" ∷ codes "minY" ∷ [])) (codes "t") [] None) ≡ Err NoSuchColumn
select-no_such_column = refl

-- a refused row takes those before it with it
insert-all_or_none : answer no_tree (run (empty 5) filled) (put (codes "t") (shown 3 0 0 ∷ shown 7 0 0 ∷ [])) ≡ Err IdAlreadyTaken
insert-all_or_none = refl

insert-elsewhere : last (filled ++ create (codes "u") ∷ put (codes "u") (shown 9 0 0 ∷ []) ∷ []) (Select None (codes "t") [] None) ≡ Ok (Rows (shown 2 20 21 ∷ shown 7 10 11 ∷ []))
insert-elsewhere = refl

delete-where : last (filled ++ Edits (codes "t") (Delete (above 15 ∷ [])) ∷ []) (Select None (codes "t") [] None) ≡ Ok (Rows (shown 7 10 11 ∷ []))
delete-where = refl

-- ---- views

abbrev watching : List Stmt
watching = filled ++ Watch (codes "v") (codes "t") (above 15 ∷ []) ∷ []

watch-shows_nothing : last filled (Watch (codes "v") (codes "t") (above 15 ∷ [])) ≡ Ok Nothing
watch-shows_nothing = refl

view-rows : last watching (View (codes "V")) ≡ Ok (Rows (shown 2 20 21 ∷ []))
view-rows = refl

view-missing : last watching (View (codes "w")) ≡ Err NoSuchView
view-missing = refl

unwatch-missing : last watching (Unwatch (codes "w")) ≡ Err NoSuchView
unwatch-missing = refl

-- the changes of a statement, by rising id, the row that left before the one that came
changes-of_an_update : last watching (Edits (codes "t") (Update ((codes "minX", Literal (n 16)) ∷ (codes "maxX", Literal (n 30)) ∷ []) [])) ≡ Ok (Changes (left (codes "v") (shown 2 20 21) ∷ came (codes "v") (shown 2 16 30) ∷ came (codes "v") (shown 7 16 30) ∷ []))
changes-of_an_update = refl

-- what a statement made and unmade isn't shown
changes-of_a_statement : last watching (Edits (codes "t") (Insert Replace None (shown 4 50 50 ∷ shown 4 0 0 ∷ []))) ≡ Ok (Changes [])
changes-of_a_statement = refl

changes-elsewhere : last (watching ++ create (codes "u") ∷ []) (put (codes "u") (shown 9 50 50 ∷ [])) ≡ Ok (Changes [])
changes-elsewhere = refl

watch-again : last watching (Watch (codes "V") (codes "t") []) ≡ Err ViewAlreadyExists
watch-again = refl

-- a view's name is one of the session, and not of its table
watch-name_of_another_tables_view : last (watching ++ create (codes "u") ∷ []) (Watch (codes "V") (codes "u") []) ≡ Err ViewAlreadyExists
watch-name_of_another_tables_view = refl

watch-name_of_a_table : last watching (Watch (codes "t") (codes "t") []) ≡ Ok Nothing
watch-name_of_a_table = refl

watch-table_before_name : last watching (Watch (codes "v") (codes "u") []) ≡ Err NoSuchTable
watch-table_before_name = refl

watch-name_before_columns : last watching (Watch (codes "v") (codes "t") (Compare (record { column = codes "y"; op = Gt; value = n 0 }) ∷ [])) ≡ Err ViewAlreadyExists
watch-name_before_columns = refl

watch-no_such_column : last watching (Watch (codes "w") (codes "t") (Compare (record { column = codes "y"; op = Gt; value = n 0 }) ∷ [])) ≡ Err NoSuchColumn
watch-no_such_column = refl

-- views of one letter over two tables in turn: 64 of them, and the 65th
abbrev watched : ℕ → List Stmt
watched many =
    create (codes "t") ∷ create (codes "u")
    ∷ map (λ k. Watch (k ∷ []) (codes "t") []) (range_with_len 1 32)
    ++ map (λ k. Watch (k ∷ []) (codes "u") []) (range_with_len 33 many)

watch-64th : last (watched 31) (Watch (codes "_v") (codes "t") []) ≡ Ok Nothing
watch-64th = refl

watch-65th : last (watched 32) (Watch (codes "_v") (codes "t") []) ≡ Err TooManyTablesOrViews
watch-65th = refl

-- a view that was forgotten and named again stands last
unwatch-and_watch : views_after (create (codes "t") ∷ Watch (codes "v") (codes "t") [] ∷ Watch (codes "w") (codes "t") [] ∷ Unwatch (codes "v") ∷ Watch (codes "v") (codes "t") [] ∷ []) ≡ (codes "w" ∷ codes "v" ∷ []) ∷ []
unwatch-and_watch = refl

-- ---- trees

check-new : last (create (codes "t") ∷ []) (Check (codes "T")) ≡ Ok (Verdict [])
check-new = refl

check-filled : last filled (Check (codes "t")) ≡ Ok (Verdict [])
check-filled = refl

check-changes_nothing : answer no_tree (run (empty 5) filled) (Check (codes "t")) ≡ Ok (Verdict [], run (empty 5) filled)
check-changes_nothing = refl

no_table-check : last filled (Check (codes "u")) ≡ Err NoSuchTable
no_table-check = refl

-- one leaf without cells, of the session's capacity
nodes-new : last (create (codes "t") ∷ []) (Nodes (codes "T")) ≡ Ok (Dump (One (record { capacity = 5; root = pos 1; nodes = record { number = pos 1; level = 0; parent = None; cells = [] } ∷ []; rows = [] })))
nodes-new = refl

nodes-two_axes : last (Create (codes "t") false (points ++ plain (codes "minY") ∷ plain (codes "maxY") ∷ []) ∷ []) (Nodes (codes "t")) ≡ Ok (Dump (Two (empty_lists 5)))
nodes-two_axes = refl

nodes-three_axes : last (Create (codes "t") false (points ++ plain (codes "minY") ∷ plain (codes "maxY") ∷ plain (codes "minZ") ∷ plain (codes "maxZ") ∷ []) ∷ []) (Nodes (codes "t")) ≡ Ok (Dump (Three (empty_lists 5)))
nodes-three_axes = refl

-- the tree of an edited table is the one that was chosen, and that of another table stays
nodes-edited : last filled (Nodes (codes "t")) ≡ Ok (Dump no_tree)
nodes-edited = refl

nodes-elsewhere : last (filled ++ create (codes "u") ∷ Edits (codes "t") (Delete []) ∷ []) (Nodes (codes "u")) ≡ Ok (Dump (One (empty_lists 5)))
nodes-elsewhere = refl

-- a view that is named or forgotten leaves the tree
nodes-watched : last (create (codes "t") ∷ Watch (codes "v") (codes "t") [] ∷ Unwatch (codes "v") ∷ []) (Nodes (codes "t")) ≡ Ok (Dump (One (empty_lists 5)))
nodes-watched = refl

no_table-nodes : last filled (Nodes (codes "u")) ≡ Err NoSuchTable
no_table-nodes = refl
