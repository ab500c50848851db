-- What holds of each table of a session, whatever was carried out: it holds of each table that is made, and stays when a
-- table is edited or watched.
use Rattle.std.proofs.Common.{◌≡◌, ◌∙◌, ℕ, ◌<◌, Bool, true, false, cond, List, [], ◌∷◌, ◌++◌, map, filter, length, get_or, set, Some, None, Result, Ok, Err, refl, sym, ap, subst, arith, zero, suc}
use Rattle.std.specs.Prelude.{All, find, not, ◌&&◌, if◌then◌else◌, nat_le, is_some}
use Rattle.std.proofs.lemmas.List.{map-append}
use Rattle.std.proofs.lemmas.List.Elements.{All-nil, All-cons, All-head, All-tail, All-append, All-set}
use Rattle.std.proofs.lemmas.Option.{same_Some}
use Rattle.std.proofs.Math.Seq.{map-set_same}
use Rattle.rt_sql_statement.specs.Name.{same_name}
use Rattle.rt_sql_statement.specs.declared.statement.Edit.{Edit}
use Rattle.rt_sql_request.specs.declared.request.Stmt.{Stmt}
use Rattle.rt_sql_request.specs.declared.request.Stmt.TheVariants.{Create, Drop, Edit as Edits, Watch, Unwatch}
use Rattle.rt_sql_statement.specs.declared.statement.Test.{Test}
use Rattle.rt_sql_statement.specs.declared.statement.ColumnDef.{ColumnDef}
use Rattle.rt_sql_statement.specs.declared.refusal.Refusal.{Refusal}
use Rattle.rt_sql_statement.specs.declared.refusal.Refusal.TheVariants.{TableAlreadyExists, NoSuchColumn, NoSuchView, ViewAlreadyExists, TableIsWatched, TooManyTablesOrViews}
use Rattle.rt_table_row.specs.Columns.{Columns, columns_of, are_distinct}
use Rattle.rt_table_row.specs.Conditions.{has_columns}
use Rattle.rt_table_row.specs.Edits.{Step, Steps, outcome, and_then, steps_of}
use Rattle.rt_table_row.specs.Views.{View as Watched}
use Rattle.rt_table_row.specs.Tables.{TableLists, new_table, has_view, is_view, unwatch}
use Rattle.rt_check_dump.specs.declared.dump.AnyShadow.{AnyShadow}
use Rattle.rt_table.specs.AnyTrees.{new_tree, Follows, FollowsIfTaken}
use Rattle.rt_reply.specs.declared.reply.Reply.{Reply}
use Rattle.rt_reply.specs.declared.reply.Reply.TheVariants.{Nothing}
use Rattle.rt_session.specs.Session.{State, NamedTable, empty, Outcome, state_after, answer, Answers, MayChoose, MayChooseFor, create_outcome, drop_outcome, edit_outcome, watch_outcome, on_watched, unwatch_outcome, reply_to, on_table, table_of, watched_by, is_named, is_watched, count_views, with_table, without_table}
use Rattle.rt_laws.specs.SessionLaws.{LeadTo}
use Rattle.rt_session.proofs.Places.{Distinct, replaced_by, replaced, distinct-filter, distinct-one_more, any_mapped, same_self}
use Rattle.rt_session.proofs.Outcomes.{any_found}

-- ---- lists

-- what is found stands somewhere and passes the test
found_in : {X : Type 0} (p : X → Bool) (xs : List X) (x : X) → find p xs ≡ Some x → (at : ℕ) × (at < length xs) × (x ≡ get_or xs at x) × (p x ≡ true)
found_in p [] x is = absurd (let none : ⊥ = cc in none)
found_in p (y ∷ ys) x is =
    elim (p y) as (λ b. p y ≡ b → cond b (Some y) (find p ys) ≡ Some x → (at : ℕ) × (at < suc (length ys)) × (x ≡ get_or (y ∷ ys) at x) × (p x ≡ true)) [
      | true ↦ λ here is. let same = same_Some y x is in (zero, omega arith, sym same, subst (λ z. p z ≡ true) same here)
      | false ↦ λ here is. let later = found_in p ys x is in (suc later.0, omega (arith, later.1), later.2, later.3)
    ] refl is

all-filter : {X : Type 0} (P : X → Type 0) (p : X → Bool) (xs : List X) → All P xs → All P (filter p xs)
all-filter P p [] all = all
all-filter P p (x ∷ xs) all =
    let later = all-filter P p xs (All-tail P x xs all) in
    elim (p x) as (λ b. All P (if b then x ∷ filter p xs else filter p xs)) [
      | true ↦ All-cons P x (filter p xs) (All-head P x xs all) later
      | false ↦ later
    ]

-- ---- outcomes

-- what holds of the value of an Ok
abbrev OfOk : {A : Type 0} → (A → Type 0) → Result A Refusal → Type 0
OfOk P (Ok a) = P a
OfOk P (Err refusal) = Unit {0}

of_choice : {A : Type 0} (P : A → Type 0) (b : Bool) (x y : Result A Refusal) → (b ≡ true → OfOk P x) → (b ≡ false → OfOk P y) → OfOk P (if b then x else y)
of_choice P true x y g h = g refl
of_choice P false x y g h = h refl

of_next : {A B : Type 0} (P : A → Type 0) (Q : B → Type 0) (r : Result A Refusal) (next : A → Result B Refusal) → OfOk P r → ((a : A) → P a → OfOk Q (next a)) → OfOk Q (and_then r next)
of_next P Q (Ok a) next of step = step a of
of_next P Q (Err refusal) next of step = tt

of_itself : {A : Type 0} (r : Result A Refusal) → OfOk (λ a. r ≡ Ok a) r
of_itself (Ok a) = refl
of_itself (Err refusal) = tt

-- what holds of each table of a session of this capacity, none of which has the name of another
pub record Holds (capacity : ℕ) (P : NamedTable → Type 0) (state : State) : Type 0 where
  pub same : state.capacity ≡ capacity
  pub distinct : Distinct state.tables
  pub each : All P state.tables

pub empty-holds : (capacity : ℕ) (P : NamedTable → Type 0) → Holds capacity P (empty capacity)
empty-holds capacity P = record { same = refl; distinct = refl; each = All-nil P }

-- what is found is one of the tables
pub found-holds : (capacity : ℕ) (P : NamedTable → Type 0) (state : State) → Holds capacity P state → (p : NamedTable → Bool) (t : NamedTable) → find p state.tables ≡ Some t → P t
found-holds capacity P state holds p t found =
    let place = found_in p state.tables t found in
    subst P (sym place.2) (holds.each place.0 t place.1)

module _ (capacity : ℕ) (P : NamedTable → Type 0)
    (made : (name : List ℕ) (columns : List ColumnDef) (c : Columns) → columns_of columns ≡ Ok c → P (record { name = name; table = new_table c; tree = new_tree capacity c }))
    (edited : (t : NamedTable) (steps : List Step) (tree : AnyShadow) → P t → Follows t.table.rows steps t.tree tree → P (record t { table = record t.table { rows = outcome t.table.rows steps }; tree = tree }))
    (watched : (t : NamedTable) (views : List Watched) → P t → P (record t { table = record t.table { views = views } })) where
  abbrev Given : Reply × State → Type 0
  Given given = Holds capacity P given.1

  abbrev Keeps : Outcome → Type 0
  Keeps outcome = OfOk Given outcome

  module _ (state : State) (holds : Holds capacity P state) where
    -- ---- one table changes

    on_found : (name : List ℕ) (next : TableLists → Outcome) → ((t : NamedTable) → table_of state name ≡ Some t → Keeps (next t.table)) → Keeps (on_table (table_of state name) next)
    on_found name next step =
        elim (table_of state name) as (λ found. table_of state name ≡ found → Keeps (on_table found next)) [
          | None ↦ λ is. tt
          | Some t ↦ λ is. step t is
        ] refl

    on_seen : (name : List ℕ) (next : NamedTable → Outcome) → ((t : NamedTable) → watched_by state name ≡ Some t → Keeps (next t)) → Keeps (on_watched (watched_by state name) next)
    on_seen name next step =
        elim (watched_by state name) as (λ found. watched_by state name ≡ found → Keeps (on_watched found next)) [
          | None ↦ λ is. tt
          | Some t ↦ λ is. step t is
        ] refl

    -- the found table is the one of that name, and is changed alone
    replaced-holds : (p : NamedTable → Bool) (t : NamedTable) → find p state.tables ≡ Some t → (name : List ℕ) → is_named name t ≡ true
        → (change : NamedTable → NamedTable) → (change t).name ≡ t.name → (P t → P (change t)) → Holds capacity P (record state { tables = map (replaced_by name change) state.tables })
    replaced-holds p t found name named change kept step =
        let place = found_in p state.tables t found in
        let before : P t = found-holds capacity P state holds p t found in
        let there : set state.tables place.0 (change t) ≡ map (replaced_by name change) state.tables = replaced name change state.tables place.0 t place.1 place.2 named holds.distinct in
        let names : map (λ u. u.name) (set state.tables place.0 (change t)) ≡ map (λ u. u.name) state.tables =
        map-set_same (λ (u : NamedTable). u.name) state.tables place.0 (change t) t (kept ∙ ap (λ (u : NamedTable). u.name) place.2) in
        record {
          same = holds.same;
          distinct = subst Distinct there (subst (λ ns. are_distinct ns ≡ true) (sym names) holds.distinct);
          each = subst (All P) there (All-set P state.tables place.0 (change t) (step before) holds.each);
        }

    by_name : (name : List ℕ) (t : NamedTable) → table_of state name ≡ Some t → is_named name t ≡ true
    by_name name t found = (found_in (is_named name) state.tables t found).3

    -- ---- CREATE and DROP

    create-holds : (name : List ℕ) (if_absent : Bool) (columns : List ColumnDef) → Keeps (create_outcome state name if_absent columns)
    create-holds name if_absent columns =
        let more : Columns → State = λ c. record state { tables = state.tables ++ record { name = name; table = new_table c; tree = new_tree state.capacity c } ∷ [] } in
        let there : Outcome = if if_absent then Ok (Nothing, state) else Err TableAlreadyExists in
        let done : Outcome = and_then (columns_of columns) (λ c. Ok (Nothing, more c)) in
        let new : Outcome = if nat_le 64 (length state.tables) then Err TooManyTablesOrViews else done in
        of_choice Given (is_some (table_of state name)) there new
        (λ _. of_choice Given if_absent (Ok (Nothing, state)) (Err TableAlreadyExists) (λ _. holds) (λ _. tt))
        (λ free. of_choice Given (nat_le 64 (length state.tables)) (Err TooManyTablesOrViews) done (λ _. tt)
        (λ _. of_next (λ c. columns_of columns ≡ Ok c) Given (columns_of columns) (λ c. Ok (Nothing, more c)) (of_itself (columns_of columns)) (λ c of. made-holds c of free)))
      where
        made-holds : (c : Columns) → columns_of columns ≡ Ok c → is_some (table_of state name) ≡ false
            → Holds capacity P (record state { tables = state.tables ++ record { name = name; table = new_table c; tree = new_tree state.capacity c } ∷ [] })
        made-holds c of free =
            let t : NamedTable = record { name = name; table = new_table c; tree = new_tree state.capacity c } in
            let here : P t = subst (λ k. P (record { name = name; table = new_table c; tree = new_tree k c })) (sym holds.same) (made name columns c of) in
            record {
              same = holds.same;
              distinct = ap are_distinct (map-append (λ (u : NamedTable). u.name) state.tables (t ∷ []))
                  ∙ distinct-one_more (map (λ u. u.name) state.tables) name holds.distinct
                  (any_mapped (same_name name) (λ u. u.name) state.tables ∙ any_found (is_named name) state.tables ∙ free);
              each = All-append P state.tables (t ∷ []) holds.each (All-cons P t [] here (All-nil P));
            }

    drop-holds : (name : List ℕ) (if_there : Bool) → Keeps (drop_outcome state name if_there)
    drop-holds name if_there =
        let gone : TableLists → Outcome = λ t. if is_watched t then Err TableIsWatched else Ok (Nothing, without_table state name) in
        let fewer : Holds capacity P (without_table state name) = record {
          same = holds.same;
          distinct = distinct-filter (λ t. not (is_named name t)) state.tables holds.distinct;
          each = all-filter P (λ t. not (is_named name t)) state.tables holds.each;
        } in
        of_choice Given (if_there && not (is_some (table_of state name))) (Ok (Nothing, state)) (on_table (table_of state name) gone) (λ _. holds)
        (λ _. on_found name gone (λ t found. of_choice Given (is_watched t.table) (Err TableIsWatched) (Ok (Nothing, without_table state name)) (λ _. tt) (λ _. fewer)))

    -- ---- INSERT, UPDATE and DELETE

    edit-holds : (tree : AnyShadow) (name : List ℕ) (t : NamedTable) → table_of state name ≡ Some t → (steps : Steps) → FollowsIfTaken t.table.rows steps t.tree tree
        → Keeps (edit_outcome tree state name t.table steps)
    edit-holds tree name t found (Ok steps) follows =
        replaced-holds (is_named name) t found name (by_name name t found) (λ u. record u { table = record t.table { rows = outcome t.table.rows steps }; tree = tree }) refl
        (λ before. edited t steps tree before follows)
    edit-holds tree name t found (Err refusal) follows = tt

    found_edit-holds : (tree : AnyShadow) (name : List ℕ) (edit : Edit) → MayChooseFor (table_of state name) edit tree
        → Keeps (on_table (table_of state name) (λ t. edit_outcome tree state name t (steps_of edit t.columns t.rows)))
    found_edit-holds tree name edit choice =
        elim (table_of state name) as (λ found. table_of state name ≡ found → MayChooseFor found edit tree → Keeps (on_table found (λ t. edit_outcome tree state name t (steps_of edit t.columns t.rows)))) [
          | None ↦ λ is choice. tt
          | Some t ↦ λ is choice. edit-holds tree name t is (steps_of edit t.table.columns t.table.rows) choice
        ] refl choice

    -- ---- views

    -- a table with other views
    views-hold : (p : NamedTable → Bool) (t : NamedTable) → find p state.tables ≡ Some t → (name : List ℕ) → is_named name t ≡ true → (views : List Watched)
        → Holds capacity P (with_table state name (record t.table { views = views }))
    views-hold p t found name named views = replaced-holds p t found name named (λ u. record u { table = record t.table { views = views } }) refl (watched t views)

    watch-holds : (name table : List ℕ) (cond : List Test) (t : NamedTable) → table_of state table ≡ Some t → Keeps (watch_outcome state name table cond t.table)
    watch-holds name table cond t found =
        let views : List Watched = t.table.views ++ record { name = name; cond = cond } ∷ [] in
        let last : Result TableLists Refusal = Ok (record t.table { views = views }) in
        let known : Result TableLists Refusal = if not (has_columns t.table.columns cond) then Err NoSuchColumn else last in
        let after : Result TableLists Refusal = if has_view t.table name then Err ViewAlreadyExists else known in
        let good : TableLists → Type 0 = λ after. Holds capacity P (with_table state table after) in
        let next : TableLists → Outcome = λ after. Ok (Nothing, with_table state table after) in
        let done : Outcome = and_then after next in
        let new : Outcome = if nat_le 64 (count_views state) then Err TooManyTablesOrViews else done in
        of_choice Given (is_some (watched_by state name)) (Err ViewAlreadyExists) new (λ _. tt)
        (λ _. of_choice Given (nat_le 64 (count_views state)) (Err TooManyTablesOrViews) done (λ _. tt)
        (λ _. of_next good Given after next
        (of_choice good (has_view t.table name) (Err ViewAlreadyExists) known (λ _. tt)
        (λ _. of_choice good (not (has_columns t.table.columns cond)) (Err NoSuchColumn) last (λ _. tt)
        (λ _. views-hold (is_named table) t found table (by_name table t found) views)))
        (λ after keeps. keeps)))

    unwatch-holds : (name : List ℕ) (t : NamedTable) → watched_by state name ≡ Some t → Keeps (unwatch_outcome state name t)
    unwatch-holds name t found =
        let views : List Watched = filter (λ view. not (is_view name view)) t.table.views in
        let good : TableLists → Type 0 = λ after. Holds capacity P (with_table state t.name after) in
        of_next good Given (unwatch t.table name) (λ after. Ok (Nothing, with_table state t.name after))
        (of_choice good (has_view t.table name) (Ok (record t.table { views = views })) (Err NoSuchView)
        (λ _. views-hold (λ u. has_view u.table name) t found t.name (same_self t.name) views) (λ _. tt))
        (λ after keeps. keeps)

    -- ---- all statements

    -- a question leaves the state
    reply-holds : (reply : Result Reply Refusal) → Keeps (and_then reply (λ reply. Ok (reply, state)))
    reply-holds (Ok reply) = holds
    reply-holds (Err refusal) = tt

    answer-holds : (tree : AnyShadow) (statement : Stmt) → MayChoose state statement tree → Keeps (answer tree state statement)
    answer-holds tree (Create name if_absent columns) choice = create-holds name if_absent columns
    answer-holds tree (Drop name if_there) choice = drop-holds name if_there
    answer-holds tree (Edits name edit) choice = found_edit-holds tree name edit choice
    answer-holds tree (Watch name table cond) choice = on_found table (watch_outcome state name table cond) (watch-holds name table cond)
    answer-holds tree (Unwatch name) choice = on_seen name (unwatch_outcome state name) (unwatch-holds name)
    answer-holds tree question choice = reply-holds (reply_to state question)

  pub after-holds : (state : State) (statement : Stmt) (outcome : Outcome) → Answers state statement outcome → Holds capacity P state → Holds capacity P (state_after state outcome)
  after-holds state statement (Ok given) (tree, answers, choice) holds = subst Keeps answers (answer-holds state holds tree statement choice)
  after-holds state statement (Err refusal) answers holds = holds

  led-holds : (state : State) (statements : List Stmt) (new : State) → LeadTo state statements new → Holds capacity P state → Holds capacity P new
  led-holds state [] new same holds = subst (Holds capacity P) (sym same) holds
  led-holds state (statement ∷ statements) new (outcome, answers, more) holds =
      led-holds (state_after state outcome) statements new more (after-holds state statement outcome answers holds)

  pub always : (statements : List Stmt) (state : State) → LeadTo (empty capacity) statements state → All P state.tables
  always statements state led =
      (led-holds (empty capacity) statements state led (empty-holds capacity P)).each
