-- A state and a statement have one outcome.
use Rattle.std.proofs.Common.{◌≡◌, ℕ, List, Option, Some, None, Ok, Err, refl, sym, ap, ◌∙◌}
use Rattle.rt_check_dump.specs.declared.dump.AnyShadow.{AnyShadow}
use Rattle.rt_check_dump.specs.declared.dump.AnyShadow.TheVariants.{One, Two, Three}
use Rattle.rt_sql_statement.specs.declared.statement.Edit.{Edit}
use Rattle.rt_sql_request.specs.declared.request.Stmt.{Stmt}
use Rattle.rt_sql_request.specs.declared.request.Stmt.TheVariants.{Edit as Edits}
use Rattle.rt_table_row.specs.Rows.{TableRow}
use Rattle.rt_table_row.specs.Edits.{Step, Steps, steps_of}
use Rattle.rt_table.specs.AnyTrees.{Follows, FollowsIfTaken}
use Rattle.rt_session.specs.Session.{State, NamedTable, table_of, on_table, edit_outcome, answer, no_tree, MayChooseFor, MayChoose}
use Rattle.rt_laws.specs.DumpLaws.{StatementsHaveOneAnswer}
use Rattle.rt_laws.proofs.Steps.{steps_one}

follows_one : (rows : List TableRow) (steps : List Step) (old one other : AnyShadow) → Follows rows steps old one → Follows rows steps old other → one ≡ other
follows_one rows steps (One old) (One one) (One other) g h = ap One (steps_one 1 rows steps old one other g h)
follows_one rows steps (Two old) (Two one) (Two other) g h = ap Two (steps_one 2 rows steps old one other g h)
follows_one rows steps (Three old) (Three one) (Three other) g h = ap Three (steps_one 3 rows steps old one other g h)
follows_one rows steps (One old) (One one) (Two other) g h = absurd h
follows_one rows steps (One old) (One one) (Three other) g h = absurd h
follows_one rows steps (Two old) (Two one) (One other) g h = absurd h
follows_one rows steps (Two old) (Two one) (Three other) g h = absurd h
follows_one rows steps (Three old) (Three one) (One other) g h = absurd h
follows_one rows steps (Three old) (Three one) (Two other) g h = absurd h
follows_one rows steps (One old) (Two one) other g h = absurd g
follows_one rows steps (One old) (Three one) other g h = absurd g
follows_one rows steps (Two old) (One one) other g h = absurd g
follows_one rows steps (Two old) (Three one) other g h = absurd g
follows_one rows steps (Three old) (One one) other g h = absurd g
follows_one rows steps (Three old) (Two one) other g h = absurd g

taken : (state : State) (name : List ℕ) (t : NamedTable) (steps : Steps) (one other : AnyShadow) → FollowsIfTaken t.table.rows steps t.tree one →
    FollowsIfTaken t.table.rows steps t.tree other → edit_outcome one state name t.table steps ≡ edit_outcome other state name t.table steps
taken state name t (Ok steps) one other g h = ap (λ (tree : AnyShadow). edit_outcome tree state name t.table (Ok steps)) (follows_one t.table.rows steps t.tree one other g h)
taken state name t (Err refusal) one other g h = refl

on_found : (state : State) (name : List ℕ) (edit : Edit) (found : Option NamedTable) (one other : AnyShadow) → MayChooseFor found edit one → MayChooseFor found edit other →
    on_table found (λ t. edit_outcome one state name t (steps_of edit t.columns t.rows)) ≡ on_table found (λ t. edit_outcome other state name t (steps_of edit t.columns t.rows))
on_found state name edit None one other g h = refl
on_found state name edit (Some t) one other g h = taken state name t (steps_of edit t.table.columns t.table.rows) one other g h

same_answer : (state : State) (statement : Stmt) (one other : AnyShadow) → MayChoose state statement one → MayChoose state statement other →
    answer one state statement ≡ answer other state statement
same_answer state (Edits name edit) one other g h = on_found state name edit (table_of state name) one other g h
same_answer state statement one other g h = refl

pub statements_one : StatementsHaveOneAnswer
statements_one old statement (Ok one) (Ok other) g h = sym g.1 ∙ same_answer old statement g.0 h.0 g.2 h.2 ∙ h.1
statements_one old statement (Err one) (Err other) g h = sym (g no_tree) ∙ h no_tree
statements_one old statement (Ok one) (Err other) g h = sym g.1 ∙ h g.0
statements_one old statement (Err one) (Ok other) g h = sym (g h.0) ∙ h.1
