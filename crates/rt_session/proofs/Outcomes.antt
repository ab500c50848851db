-- What a call that changes one table of a session comes to.
use Rattle.std.proofs.Common.{◌≡◌, ◌≢◌, ◌∙◌, ℕ, ◌+◌, sum_by, ◌<◌, ◌≤◌, ◌⊎◌, inl, inr, Bool, true, false, cond, not, ◌||◌, List, [], ◌∷◌, ◌++◌, map, filter, length, get_or, set, Option, Some, None, Result, Ok, Err, refl, sym, ap, subst, arith}
use Rattle.std.specs.Prelude.{position, find, is_some, nat_lt, nat_le, if◌then◌else◌}
use Rattle.std.specs.List.{list_any, remove, position_or_len}
use Rattle.std.proofs.lemmas.Bool.Decides.{nat_tests}
use Rattle.rt_table_row.proofs.Filters.{any_position}
use Rattle.std.specs.Option.{option_map}
use Rattle.std.proofs.lemmas.List.{map-set, map-append, take-map, drop-map, length-map, get_or-map}
use Rattle.std.proofs.Math.Seq.{map-set_same}
use Rattle.rt_sql_statement.specs.Name.{same_name}
use Rattle.std.proofs.lemmas.List.Sums.{sum_by-cons}
use Rattle.rt_sql_statement.specs.declared.value.Value.{Value}
use Rattle.rt_sql_statement.specs.declared.statement.Test.{Test}
use Rattle.rt_sql_statement.specs.declared.statement.ColumnDef.{ColumnDef}
use Rattle.rt_sql_statement.specs.declared.refusal.Refusal.{Refusal}
use Rattle.rt_sql_statement.specs.declared.refusal.Refusal.TheVariants.{OutOfMemory, TableIsWatched, ViewAlreadyExists, TooManyTablesOrViews}
use Rattle.rt_table_row.specs.Columns.{Columns, are_distinct, columns_of}
use Rattle.rt_table_row.specs.Edits.{and_then}
use Rattle.rt_table_row.specs.Tables.{TableLists, edited, new_table, watch, view}
use Rattle.rt_check_dump.specs.declared.dump.AnyShadow.{AnyShadow}
use Rattle.rt_table.specs.Held.{TableAndTree}
use Rattle.rt_table.specs.AnyTrees.{new_tree}
use Rattle.rt_table.specs.Replies.{Refuses, Shows}
use Rattle.rt_sql_statement.specs.declared.statement.Edit.{Edit}
use Rattle.rt_table_row.specs.Views.{ViewChange}
use Rattle.rt_reply.specs.declared.reply.Reply.{Reply}
use Rattle.rt_reply.specs.declared.reply.Reply.TheVariants.{Nothing, Rows, Changes}
use Rattle.rt_session.specs.declared.tables.Named.{Named}
use Rattle.rt_session.specs.Session.{State, NamedTable, is_named, table_of, with_table, with_tree, without_table, create_outcome, drop_outcome, is_watched, count_views, watched_by, watch_outcome, view_reply, edit_outcome, on_table}
use Rattle.rt_table_row.specs.Edits.{steps_of}
use Rattle.rt_session.specs.Steps.{edit_result}
use Rattle.rt_session.specs.SessionInside.{named_of, HaveNames}
use Rattle.rt_session.proofs.Places.{found_at, not_found, replaced, removed, replaced_by, Distinct, find_mapped, any_mapped, distinct-filter, distinct-one_more}

abbrev pub state_with : ℕ → List Named → State
state_with capacity tables = record { capacity = capacity; tables = map named_of tables }

pub same_names : (ts : List Named) → map (λ (t : NamedTable). t.name) (map named_of ts) ≡ map (λ n. n.name) ts
same_names [] = refl
same_names (t ∷ ts) = ap (λ (names : List (List ℕ)). t.name ∷ names) (same_names ts)

pub distinct_tables : (ts : List Named) → HaveNames ts → Distinct (map named_of ts)
distinct_tables ts named = rw (same_names ts) named

pub map-remove : {X Y : Type 0} (f : X → Y) (xs : List X) (at : ℕ) → map f (remove xs at) ≡ remove (map f xs) at
map-remove f xs at = rw (map-append, take-map, drop-map)

-- a look-up in the list, of what a slice of it was asked for
pub placed : {X : Type 0} (p : X → Bool) (xs slice : List X) (result answer : Option ℕ) → slice ≡ xs → result ≡ position p slice → result ≡ answer → position p xs ≡ answer
placed p xs slice result answer same is got = ap (position p) (sym same) ∙ sym is ∙ got

module _ (now : State) (capacity : ℕ) (ts : List Named) (is : state_with capacity ts ≡ now) where
  tables_are : map named_of ts ≡ now.tables
  tables_are = ap (λ (s : State). s.tables) is

  -- what is found under a name, or by another test
  pub found : (p : NamedTable → Bool) (at : ℕ) (t : Named) → position (λ n. p (named_of n)) ts ≡ Some at → t ≡ get_or ts at t → find p now.tables ≡ Some (named_of t)
  found p at t place read =
      rw (sym tables_are) (find_mapped p named_of ts ∙ ap (λ o. option_map named_of o) (found_at (λ n. p (named_of n)) ts at t place read))

  pub missing : (p : NamedTable → Bool) → position (λ n. p (named_of n)) ts ≡ None → find p now.tables ≡ None
  missing p none = rw (sym tables_are) (find_mapped p named_of ts ∙ ap (λ o. option_map named_of o) (not_found (λ n. p (named_of n)) ts none))

  pub changed : (tables : List NamedTable) (new : List Named) → map named_of new ≡ tables → state_with capacity new ≡ record now { tables = tables }
  changed tables new same = ap (λ c. state_with c new) (ap (λ (s : State). s.capacity) is) ∙ ap (λ vs. record now { tables = vs }) same

  pub kept : (new : List Named) → map named_of new ≡ map named_of ts → state_with capacity new ≡ now
  kept new same = ap (λ vs. record { capacity = capacity; tables = vs }) same ∙ is

  module _ (at : ℕ) (t : Named) (within : at < length ts) (read : t ≡ get_or ts at t) (after : TableAndTree) where
    -- the table stays as it was
    pub kept_at : after ≡ t.table → state_with capacity (set ts at (record t { table = after })) ≡ now
    kept_at same =
        kept (set ts at (record t { table = after }))
        (map-set_same named_of ts at (record t { table = after }) t (ap (λ (h : TableAndTree). named_of (record t { table = h })) same ∙ ap named_of read))

    -- the table of that name is changed
    changed_at : (change : NamedTable → NamedTable) → named_of (record t { table = after }) ≡ change (named_of t) → (name : List ℕ) → same_name name t.name ≡ true → HaveNames ts
        → state_with capacity (set ts at (record t { table = after })) ≡ record now { tables = map (replaced_by name change) now.tables }
    changed_at change is_changed name same named =
        let within_mapped : at < length (map named_of ts) = rw length-map within in
        let read_mapped : named_of t ≡ get_or (map named_of ts) at (named_of t) = ap named_of read ∙ sym (get_or-map named_of ts at t (named_of t) within) in
        changed (map (replaced_by name change) now.tables) (set ts at (record t { table = after }))
        (map-set named_of ts at (record t { table = after })
        ∙ ap (set (map named_of ts) at) is_changed
        ∙ replaced name change (map named_of ts) at (named_of t) within_mapped read_mapped same (distinct_tables ts named)
        ∙ ap (map (replaced_by name change)) tables_are)

    -- the table of that name has other lists and the tree that it had
    pub with_table_at : (name : List ℕ) → same_name name t.name ≡ true → HaveNames ts → after.tree ≡ t.table.tree → state_with capacity (set ts at (record t { table = after })) ≡ with_table now name after.lists
    with_table_at name same named tree =
        changed_at (λ u. record u { table = after.lists }) (ap (λ (s : AnyShadow). record { name = t.name; table = after.lists; tree = s }) tree) name same named

    -- the table of that name has other lists and another tree
    pub with_tree_at : (name : List ℕ) → same_name name t.name ≡ true → HaveNames ts → state_with capacity (set ts at (record t { table = after })) ≡ with_tree now name after.lists after.tree
    with_tree_at name same named = changed_at (λ u. record u { table = after.lists; tree = after.tree }) refl name same named

  pub without_table_at : (at : ℕ) (t : Named) (within : at < length ts) (read : t ≡ get_or ts at t) (name : List ℕ) → same_name name t.name ≡ true → HaveNames ts
      → state_with capacity (remove ts at) ≡ without_table now name
  without_table_at at t within read name same named =
      let within_mapped : at < length (map named_of ts) = rw length-map within in
      let read_mapped : named_of t ≡ get_or (map named_of ts) at (named_of t) = ap named_of read ∙ sym (get_or-map named_of ts at t (named_of t) within) in
      changed (filter (λ u. not (is_named name u)) now.tables) (remove ts at)
      (map-remove named_of ts at
      ∙ removed name (map named_of ts) at (named_of t) within_mapped read_mapped same (distinct_tables ts named)
      ∙ ap (filter (λ u. not (is_named name u))) tables_are)

pub names_kept : (ts : List Named) (at : ℕ) (t : Named) (after : TableAndTree) → t ≡ get_or ts at t → HaveNames ts → HaveNames (set ts at (record t { table = after }))
names_kept ts at t after read named = rw (map-set_same (λ n. n.name) ts at (record t { table = after }) t (ap (λ n. n.name) read)) named

-- ---- what follows an edit

pub carried : (tree : AnyShadow) (state : State) (name : List ℕ) (t : TableLists) (edit : Edit) (answer : Result (List ViewChange × TableLists) Refusal) → edit_result edit t ≡ answer
    → edit_outcome tree state name t (steps_of edit t.columns t.rows) ≡ and_then answer (λ done. Ok (Changes done.0, with_tree state name done.1 tree))
carried tree state name t edit answer is = ap (λ r. and_then r (λ done. Ok (Changes done.0, with_tree state name done.1 tree))) is

-- ---- CREATE and DROP

some_choice : (b : Bool) (n : ℕ) → is_some (cond b (Some n) None) ≡ b
some_choice true n = refl
some_choice false n = refl

some_mapped : {X Y : Type 0} (f : X → Y) (o : Option X) → is_some (option_map f o) ≡ is_some o
some_mapped f None = refl
some_mapped f (Some x) = refl

pub any_found : {X : Type 0} (p : X → Bool) (xs : List X) → list_any p xs ≡ is_some (find p xs)
any_found p [] = refl
any_found p (x ∷ xs) =
    elim (p x) as (λ b. (b || list_any p xs) ≡ is_some (cond b (Some x) (find p xs))) [
      | true ↦ refl
      | false ↦ any_found p xs
    ]

-- there is a place if something is found
place_found : {X : Type 0} (p : X → Bool) (xs : List X) → is_some (find p xs) ≡ is_some (position p xs)
place_found p xs = sym (any_found p xs) ∙ any_position p xs ∙ sym (some_choice _ (position_or_len p xs))

module _ (now : State) (capacity : ℕ) (ts : List Named) (is : state_with capacity ts ≡ now) where
  pub some_found : (p : NamedTable → Bool) (slice : List Named) (result : Option ℕ) (b : Bool) → slice ≡ ts → result ≡ position (λ n. p (named_of n)) slice → is_some result ≡ b → is_some (find p now.tables) ≡ b
  some_found p slice result b same answer some =
      ap (λ vs. is_some (find p vs)) (sym (tables_are now capacity ts is))
      ∙ ap is_some (find_mapped p named_of ts) ∙ some_mapped named_of _ ∙ place_found (λ n. p (named_of n)) ts
      ∙ ap (λ vs. is_some (position (λ n. p (named_of n)) vs)) (sym same) ∙ ap is_some (sym answer) ∙ some

  pub many_tables : length now.tables ≡ length ts
  many_tables = ap length (sym (tables_are now capacity ts is)) ∙ length-map ts named_of

  pub made : (name : List ℕ) (table : TableAndTree) (c : Columns) → table.lists ≡ new_table c → table.tree ≡ new_tree capacity c
      → state_with capacity (ts ++ record { name = name; table = table } ∷ []) ≡ record now { tables = now.tables ++ record { name = name; table = new_table c; tree = new_tree now.capacity c } ∷ [] }
  made name table c same tree =
      let its : table.tree ≡ new_tree now.capacity c = tree ∙ ap (λ (s : State). new_tree s.capacity c) is in
      changed now capacity ts is (now.tables ++ record { name = name; table = new_table c; tree = new_tree now.capacity c } ∷ []) (ts ++ record { name = name; table = table } ∷ [])
      (map-append named_of ts (record { name = name; table = table } ∷ [])
      ∙ ap (λ vs. vs ++ record { name = name; table = table.lists; tree = table.tree } ∷ []) (tables_are now capacity ts is)
      ∙ ap (λ l. now.tables ++ record { name = name; table = l; tree = table.tree } ∷ []) same
      ∙ ap (λ s. now.tables ++ record { name = name; table = new_table c; tree = s } ∷ []) its)

pub names_more : (name : List ℕ) (table : TableAndTree) (ts slice : List Named) (result : Option ℕ) → slice ≡ ts → result ≡ position (λ n. same_name name n.name) slice → is_some result ≡ false → HaveNames ts
    → HaveNames (ts ++ record { name = name; table = table } ∷ [])
names_more name table ts slice result same answer none named =
    let new : list_any (same_name name) (map (λ n. n.name) ts) ≡ false =
    any_mapped (same_name name) (λ n. n.name) ts ∙ any_found (λ n. same_name name n.name) ts ∙ place_found (λ n. same_name name n.name) ts
    ∙ ap (λ vs. is_some (position (λ n. same_name name n.name) vs)) (sym same) ∙ ap is_some (sym answer) ∙ none in
    ap are_distinct (map-append (λ n. n.name) ts (record { name = name; table = table } ∷ [])) ∙ distinct-one_more (map (λ n. n.name) ts) name named new

-- the columns that a CREATE was answered
pub ok_columns : {A : Type 0} (wanted : Result A Refusal) (a : A) → (◌≡◌ {A = Result A Refusal} (Ok a) wanted) ⊎ (◌≡◌ {A = Result A Refusal} (Ok a) (Err OutOfMemory)) → wanted ≡ Ok a
ok_columns wanted a (inl same) = sym same
ok_columns wanted a (inr none) = absurd (let none : ⊥ = cc in none)

pub err_columns : {A : Type 0} (wanted : Result A Refusal) (refusal : Refusal) → (◌≡◌ {A = Result A Refusal} (Err refusal) wanted) ⊎ (◌≡◌ {A = Result A Refusal} (Err refusal) (Err OutOfMemory)) → refusal ≢ OutOfMemory → wanted ≡ Err refusal
err_columns wanted refusal (inl same) other = sym same
err_columns wanted refusal (inr none) other = absurd (other (let same : refusal ≡ OutOfMemory = cc in same))

pub few : (n k : ℕ) → n < k → nat_le k n ≡ false
few n k less = grind (arith, nat_tests)

pub many : (n k : ℕ) → k ≤ n → nat_le k n ≡ true
many n k more = grind (arith, nat_tests)

pub created_new : (state : State) (name : List ℕ) (if_absent : Bool) (columns : List ColumnDef) → is_some (table_of state name) ≡ false → nat_le 64 (length state.tables) ≡ false
    → create_outcome state name if_absent columns ≡ and_then (columns_of columns) (λ c. Ok (Nothing, record state { tables = state.tables ++ record { name = name; table = new_table c; tree = new_tree state.capacity c } ∷ [] }))
created_new state name if_absent columns new room = rw (new, room) refl

pub watched_same : (n : ℕ) → not (nat_le n 0) ≡ nat_lt 0 n
watched_same n = grind (arith, nat_tests)

pub dropped_found : (state : State) (name : List ℕ) (if_there : Bool) (t : NamedTable) → table_of state name ≡ Some t
    → drop_outcome state name if_there ≡ (if is_watched t.table then Err TableIsWatched else Ok (Nothing, without_table state name))
dropped_found state name true t found = rw found refl
dropped_found state name false t found = rw found refl

pub names_left : (name : List ℕ) (ts left : List Named) (at : ℕ) (t : Named) → at < length ts → t ≡ get_or ts at t → same_name name t.name ≡ true → HaveNames ts → left ≡ remove ts at → HaveNames left
names_left name ts left at t within read same named is =
    let within_mapped : at < length (map named_of ts) = rw length-map within in
    let read_mapped : named_of t ≡ get_or (map named_of ts) at (named_of t) = ap named_of read ∙ sym (get_or-map named_of ts at t (named_of t) within) in
    let rest : map named_of left ≡ filter (λ u. not (is_named name u)) (map named_of ts) =
    ap (map named_of) is ∙ map-remove named_of ts at ∙ removed name (map named_of ts) at (named_of t) within_mapped read_mapped same (distinct_tables ts named) in
    subst (λ names. are_distinct names ≡ true) (same_names left)
    (subst Distinct (sym rest) (distinct-filter (λ u. not (is_named name u)) (map named_of ts) (distinct_tables ts named)))

-- ---- views

pub refused : {A : Type 0} (wanted : Result A Refusal) (refusal : Refusal) → Refuses wanted refusal → refusal ≢ OutOfMemory → wanted ≡ Err refusal
refused wanted refusal (inl same) other = same
refused wanted refusal (inr none) other = absurd (other none)

sum_mapped : {X Y : Type 0} (f : Y → ℕ) (g : X → Y) (xs : List X) → sum_by f (map g xs) ≡ sum_by (λ x. f (g x)) xs
sum_mapped f g [] = refl
sum_mapped f g (x ∷ xs) = sum_by-cons f (g x) (map g xs) ∙ ap (λ (n : ℕ). f (g x) + n) (sum_mapped f g xs) ∙ sym (sum_by-cons (λ x. f (g x)) x xs)

pub count_of : (now : State) (capacity : ℕ) (ts slice : List Named) → state_with capacity ts ≡ now → slice ≡ ts → count_views now ≡ sum_by (λ n. length n.table.lists.views) slice
count_of now capacity ts slice is same =
    ap (sum_by (λ t. length t.table.views)) (sym (tables_are now capacity ts is)) ∙ sum_mapped (λ t. length t.table.views) named_of ts
    ∙ ap (sum_by (λ n. length n.table.lists.views)) (sym same)

pub watched_new : (state : State) (name table : List ℕ) (cond : List Test) (t : NamedTable) → table_of state table ≡ Some t → is_some (watched_by state name) ≡ false → nat_le 64 (count_views state) ≡ false
    → on_table (table_of state table) (watch_outcome state name table cond) ≡ and_then (watch t.table name cond) (λ after. Ok (Nothing, with_table state table after))
watched_new state name table cond t there new room = rw (there, new, room) refl

pub viewed_as : (name : List ℕ) (t : NamedTable) (values : List (List Value)) → Shows (view t.table name) values → view_reply name t ≡ Ok (Rows values)
viewed_as name t values (rows, given, same) = rw (given, same) refl

pub name_taken : (state : State) (name table : List ℕ) (cond : List Test) → is_some (table_of state table) ≡ true → is_some (watched_by state name) ≡ true
    → on_table (table_of state table) (watch_outcome state name table cond) ≡ Err ViewAlreadyExists
name_taken state name table cond there taken =
    elim (table_of state table) as (λ o. is_some o ≡ true → on_table o (watch_outcome state name table cond) ≡ Err ViewAlreadyExists) [
      | None ↦ λ no_table. absurd (let none : ⊥ = cc in none)
      | Some t ↦ λ _. rw taken refl
    ] there

pub no_view_more : (state : State) (name table : List ℕ) (cond : List Test) → is_some (table_of state table) ≡ true → is_some (watched_by state name) ≡ false → nat_le 64 (count_views state) ≡ true
    → on_table (table_of state table) (watch_outcome state name table cond) ≡ Err TooManyTablesOrViews
no_view_more state name table cond there new many =
    elim (table_of state table) as (λ o. is_some o ≡ true → on_table o (watch_outcome state name table cond) ≡ Err TooManyTablesOrViews) [
      | None ↦ λ no_table. absurd (let none : ⊥ = cc in none)
      | Some t ↦ λ _. rw (new, many) refl
    ] there

-- ---- questions

-- what a reply comes to, which leaves the state
pub leaves_state : (state : State) (reply given : Result Reply Refusal) → reply ≡ given
    → and_then {B = Reply × State} reply (λ r. Ok (r, state)) ≡ and_then {B = Reply × State} given (λ r. Ok (r, state))
leaves_state state reply given same = ap (λ (answer : Result Reply Refusal). and_then {B = Reply × State} answer (λ r. Ok (r, state))) same

-- ---- edits

pub not_done : (edit : Edit) (t : TableLists) (refusal : Refusal) → Refuses (edited t (steps_of edit t.columns t.rows)) refusal → refusal ≢ OutOfMemory → edit_result edit t ≡ Err refusal
not_done edit t refusal refuses other = rw (refused (edited t (steps_of edit t.columns t.rows)) refusal refuses other) refl
