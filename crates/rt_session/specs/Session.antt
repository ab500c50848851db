-- What a session answers to a statement, over plain lists of tables.
-- Source: SQLite's documentation (The SQLite R*Tree Module; CREATE TABLE; DROP TABLE; SELECT); the limits, the order of
-- the refusals and the commands on views are own.
use Rattle.std.specs.Prelude.{◌≡◌, ◌≢◌, ℕ, Bool, true, false, not, ◌&&◌, if◌then◌else◌, nat_le, List, [], ◌∷◌, ◌++◌, length, map, filter, find, is_some, sum_by, slice_get, Option, Some, None, Result, Ok, Err}
use Rattle.std.specs.List.{list_all}
use Rattle.std.specs.Option.{option_map_or}
use Rattle.rt_sql_statement.specs.Name.{same_name}
use Rattle.rt_sql_statement.specs.declared.value.Value.{Value}
use Rattle.rt_sql_statement.specs.declared.statement.ColumnDef.{ColumnDef}
use Rattle.rt_sql_statement.specs.declared.statement.Test.{Test}
use Rattle.rt_sql_statement.specs.declared.statement.Edit.{Edit}
use Rattle.rt_sql_request.specs.declared.request.Stmt.{Stmt}
use Rattle.rt_sql_request.specs.declared.request.Stmt.TheVariants.{Create, Drop, Edit as Edits, Select, Check, Watch, Unwatch, View, Nodes}
use Rattle.rt_sql_statement.specs.declared.refusal.Refusal.{Refusal}
use Rattle.rt_sql_statement.specs.declared.refusal.Refusal.TheVariants.{OutOfMemory, NoSuchTable, TableAlreadyExists, NoSuchColumn, NoSuchView, ViewAlreadyExists, TableIsWatched, TooManyTablesOrViews}
use Rattle.rt_table_row.specs.Columns.{Columns, columns_of, has_name}
use Rattle.rt_table_row.specs.Rows.{TableRow, values_of}
use Rattle.rt_table_row.specs.Conditions.{value_in}
use Rattle.rt_table_row.specs.Edits.{Steps, and_then, steps_of}
use Rattle.rt_table_row.specs.Tables.{TableLists, new_table, edited, select, watch, unwatch, view, has_view}
use Rattle.rt_check_dump.specs.declared.dump.AnyShadow.{AnyShadow}
use Rattle.rt_check_dump.specs.declared.dump.AnyShadow.TheVariants.{One}
use Rattle.rt_tree.specs.Lists.{empty_lists}
use Rattle.rt_table.specs.AnyTrees.{new_tree, FollowsIfTaken}
use Rattle.rt_reply.specs.declared.reply.Reply.{Reply}
use Rattle.rt_reply.specs.declared.reply.Reply.TheVariants.{Nothing, Rows, Changes, Verdict, Dump}

-- a table under its name, and the tree of its rows
pub record NamedTable : Type 0 where
  pub name : List ℕ
  pub table : TableLists
  pub tree : AnyShadow

-- the capacity of the nodes of each table, and the tables, in the order in which they were made
pub record State : Type 0 where
  pub capacity : ℕ
  pub tables : List NamedTable

-- no table yet
abbrev pub empty : ℕ → State
empty capacity = record { capacity = capacity; tables = [] }

-- what a statement gives: the reply and the state afterwards, or a refusal
abbrev pub Outcome : Type 0
Outcome = Result (Reply × State) Refusal

-- a refusal leaves the state
abbrev pub state_after : State → Outcome → State
state_after old (Ok given) = given.1
state_after old (Err refusal) = old

-- ---- tables by their names

abbrev pub is_named : List ℕ → NamedTable → Bool
is_named name t = same_name name t.name

abbrev pub table_of : State → List ℕ → Option NamedTable
table_of state name = find (is_named name) state.tables

-- the table of that name is now this one
abbrev pub with_table : State → List ℕ → TableLists → State
with_table state name table =
    record state { tables = map (λ t. if is_named name t then record t { table = table } else t) state.tables }

-- and its tree is this one
abbrev pub with_tree : State → List ℕ → TableLists → AnyShadow → State
with_tree state name table tree =
    record state { tables = map (λ t. if is_named name t then record t { table = table; tree = tree } else t) state.tables }

abbrev pub without_table : State → List ℕ → State
without_table state name = record state { tables = filter (λ t. not (is_named name t)) state.tables }

-- what the table of that name gives, or the refusal if there is none
abbrev pub on_table : {A : Type 0} → Option NamedTable → (TableLists → Result A Refusal) → Result A Refusal
on_table None next = Err NoSuchTable
on_table (Some t) next = next t.table

-- the table that has the view of that name
abbrev pub watched_by : State → List ℕ → Option NamedTable
watched_by state name = find (λ t. has_view t.table name) state.tables

-- what the table gives that has the view, or the refusal if there is none
abbrev pub on_watched : {A : Type 0} → Option NamedTable → (NamedTable → Result A Refusal) → Result A Refusal
on_watched None next = Err NoSuchView
on_watched (Some t) next = next t

-- ---- CREATE and DROP

abbrev pub most_tables : ℕ
most_tables = 64

abbrev pub create_outcome : State → List ℕ → Bool → List ColumnDef → Outcome
create_outcome state name if_absent columns =
    if is_some (table_of state name) then (if if_absent then Ok (Nothing, state) else Err TableAlreadyExists)
    else (if nat_le most_tables (length state.tables) then Err TooManyTablesOrViews
    else and_then (columns_of columns) (λ c.
    Ok (Nothing, record state { tables = state.tables ++ record { name = name; table = new_table c; tree = new_tree state.capacity c } ∷ [] })))

abbrev pub is_watched : TableLists → Bool
is_watched t = not (nat_le (length t.views) 0)

abbrev pub drop_outcome : State → List ℕ → Bool → Outcome
drop_outcome state name if_there =
    if if_there && not (is_some (table_of state name)) then Ok (Nothing, state)
    else on_table (table_of state name) (λ t. if is_watched t then Err TableIsWatched else Ok (Nothing, without_table state name))

-- ---- INSERT, UPDATE and DELETE

-- the steps are taken on the table of that name, whose tree is then this one, and their changes of its views are shown
abbrev pub edit_outcome : AnyShadow → State → List ℕ → TableLists → Steps → Outcome
edit_outcome tree state name t steps =
    and_then (edited t steps) (λ done. Ok (Changes done.0, with_tree state name done.1 tree))

-- ---- views

abbrev pub most_views : ℕ
most_views = 64

-- how many views the tables have in all
abbrev pub count_views : State → ℕ
count_views state = sum_by (λ t. length t.table.views) state.tables

abbrev pub watch_outcome : State → List ℕ → List ℕ → List Test → TableLists → Outcome
watch_outcome state name table cond t =
    if is_some (watched_by state name) then Err ViewAlreadyExists
    else (if nat_le most_views (count_views state) then Err TooManyTablesOrViews
    else and_then (watch t name cond) (λ after. Ok (Nothing, with_table state table after)))

abbrev pub unwatch_outcome : State → List ℕ → NamedTable → Outcome
unwatch_outcome state name t = and_then (unwatch t.table name) (λ after. Ok (Nothing, with_table state t.name after))

-- ---- questions: SELECT, and what a view, the checker and a tree show

-- the order is by the id, or none is given
abbrev pub is_by_id : Columns → Option (List ℕ) → Bool
is_by_id columns None = true
is_by_id columns (Some name) = option_map_or (same_name name) (slice_get columns.names 0) false

-- the columns are the table's
abbrev pub are_columns : Columns → Option (List (List ℕ)) → Bool
are_columns columns None = true
are_columns columns (Some names) = list_all (has_name columns.names) names

-- the values of those columns, or of all
abbrev pub shown_values : Columns → Option (List (List ℕ)) → TableRow → List Value
shown_values columns None row = values_of row
shown_values columns (Some names) row = map (value_in columns.names (values_of row)) names

abbrev pub select_reply : Option (List (List ℕ)) → List Test → Option (List ℕ) → TableLists → Result Reply Refusal
select_reply names cond order t =
    if not (are_columns t.columns names && is_by_id t.columns order) then Err NoSuchColumn
    else and_then (select t cond) (λ rows. Ok (Rows (map (shown_values t.columns names) rows)))

abbrev pub view_reply : List ℕ → NamedTable → Result Reply Refusal
view_reply name t = and_then (view t.table name) (λ rows. Ok (Rows (map values_of rows)))

-- the tree of each table is sound, whatever was done to the table
abbrev pub check_reply : TableLists → Result Reply Refusal
check_reply t = Ok (Verdict [])

abbrev pub nodes_reply : Option NamedTable → Result Reply Refusal
nodes_reply None = Err NoSuchTable
nodes_reply (Some t) = Ok (Dump t.tree)

-- the reply to a question; `answer` asks it of no other statement
abbrev pub reply_to : State → Stmt → Result Reply Refusal
reply_to state (Select columns name cond order) = on_table (table_of state name) (select_reply columns cond order)
reply_to state (View name) = on_watched (watched_by state name) (view_reply name)
reply_to state (Check name) = on_table (table_of state name) check_reply
reply_to state (Nodes name) = nodes_reply (table_of state name)
reply_to state other = Ok Nothing

-- ---- all statements

-- the reply and the state afterwards, or the refusal, if the table that the statement changes gets this tree
abbrev pub answer : AnyShadow → State → Stmt → Outcome
answer tree state (Create name if_absent columns) = create_outcome state name if_absent columns
answer tree state (Drop name if_there) = drop_outcome state name if_there
answer tree state (Edits name edit) =
    on_table (table_of state name) (λ t. edit_outcome tree state name t (steps_of edit t.columns t.rows))
answer tree state (Watch name table cond) = on_table (table_of state table) (watch_outcome state name table cond)
answer tree state (Unwatch name) = on_watched (watched_by state name) (unwatch_outcome state name)
-- a question leaves the state
answer tree state question = and_then (reply_to state question) (λ reply. Ok (reply, state))

-- a tree for statements that choose none
abbrev pub no_tree : AnyShadow
no_tree = One (empty_lists 0)

-- The rows of a table don't determine its tree. It has their ids and boxes and the table's capacity, and the checker
-- finds no problem in it. It takes the steps of the statement one after the other: a row that comes is an insertion, one
-- that goes a removal, one that moves the one and then the other; a row that keeps its id and its box leaves it alone.
abbrev pub MayChooseFor : Option NamedTable → Edit → AnyShadow → Type 0
MayChooseFor None edit tree = Unit {0}
MayChooseFor (Some t) edit tree = FollowsIfTaken t.table.rows (steps_of edit t.table.columns t.table.rows) t.tree tree

-- the trees that the table which a statement changes may have afterwards
abbrev pub MayChoose : State → Stmt → AnyShadow → Type 0
MayChoose old (Edits name edit) tree = MayChooseFor (table_of old name) edit tree
MayChoose old statement tree = Unit {0}

-- the outcomes of a statement: its answer with a tree that it may choose; a refusal is the answer with any
abbrev pub Answers : State → Stmt → Outcome → Type 0
Answers old statement (Ok given) = (tree : AnyShadow) × (answer tree old statement ≡ Ok given) × MayChoose old statement tree
Answers old statement (Err refusal) = (tree : AnyShadow) → answer tree old statement ≡ Err refusal

-- Ok is an outcome with the new state. A refusal leaves the state, and is an outcome or `OutOfMemory`.
abbrev pub CarriesOut : State → Stmt → Result Reply Refusal → State → Type 0
CarriesOut old statement (Ok reply) new = Answers old statement (Ok (reply, new))
CarriesOut old statement (Err refusal) new = (new ≡ old) × (refusal ≢ OutOfMemory → Answers old statement (Err refusal))
