-- Each table has a tree of its rows, whatever was carried out.
use Rattle.std.proofs.Common.{◌≡◌, ◌≢◌, ◌∙◌, ℕ, zero, suc, ◌+◌, ◌/◌, ◌<◌, Bool, true, false, ◌||◌, List, [], ◌∷◌, ◌++◌, length, Some, None, Ok, Err, refl, sym, ap, subst, arith}
use Rattle.std.specs.Prelude.{find, ◌==◌, ◌&&◌, if◌then◌else◌, not, nat_le, map, drop, pos, slice_index_or}
use Rattle.std.specs.List.{list_all}
use Rattle.std.proofs.lemmas.Bool.{eqb-true}
use Rattle.std.proofs.lemmas.Bool.Decides.{nat_tests}
use Rattle.rt_sql_statement.specs.declared.statement.ColumnDef.{ColumnDef}
use Rattle.rt_sql_request.specs.declared.request.Stmt.{Stmt}
use Rattle.rt_sql_statement.specs.declared.refusal.Refusal.TheVariants.{BadColumnList}
use Rattle.rt_table_row.specs.Columns.{Columns, columns_of, is_column_list, plain_columns, are_distinct}
use Rattle.rt_table_row.specs.Rows.{TableRow}
use Rattle.rt_table_row.specs.Edits.{Step, outcome}
use Rattle.rt_table_row.specs.Tables.{new_table}
use Rattle.rt_table_row.specs.Views.{View as Watched}
use Rattle.rt_check.specs.Shadow.{ShadowLists}
use Rattle.rt_check_dump.specs.declared.dump.AnyShadow.{AnyShadow}
use Rattle.rt_check_dump.specs.declared.dump.AnyShadow.TheVariants.{One, Two, Three}
use Rattle.rt_check.specs.declared.node.NodeRow.{NodeRow}
use Rattle.rt_check.specs.declared.problem.Problem.{Problem}
use Rattle.rt_check.specs.declared.problem.Condition.TheVariants.{IsFilled}
use Rattle.rt_check.specs.Conditions.{IsSound, is_filled}
use Rattle.rt_tree.specs.Lists.{empty_lists}
use Rattle.rt_table_store.specs.Trees.{IsTreeOf}
use Rattle.rt_table.specs.AnyTrees.{new_tree, StandsFor, Follows}
use Rattle.rt_session.specs.Session.{State, NamedTable, empty, Outcome, state_after, Answers}
use Rattle.rt_laws.specs.SessionLaws.{TreesAlwaysStand}
use Rattle.rt_session.proofs.Outcomes.{many}
use Rattle.rt_laws.proofs.EachTable.{Holds, empty-holds, found-holds, after-holds, always}

-- ---- the tree of no rows

module _ (D capacity : ℕ) where
  abbrev leaf : NodeRow D
  leaf = record { number = pos 1; level = 0; parent = None; cells = [] }

  abbrev nothing : ShadowLists D
  nothing = empty_lists capacity

  filled : is_filled nothing leaf ≡ true
  filled = ap (λ b. b && true) (many capacity 0 (omega arith))

  none-flawed : IsSound nothing
  none-flawed =
      subst (λ (b : Bool). ◌≡◌ {A = List Problem} (map (λ (n : NodeRow D). record { condition = IsFilled; node = n.number; position = 0 }) (if not b then leaf ∷ [] else []) ++ [] ++ []) []) (sym filled) refl

  one-numbered : (at : ℕ) (d : NodeRow D) → at < length nothing.nodes → (slice_index_or nothing.nodes at d).number ≡ pos (at + 1)
  one-numbered zero d within = refl
  one-numbered (suc at) d within = absurd (omega (arith, within))

  one-low : (at : ℕ) (d : NodeRow D) → at < length nothing.nodes → (slice_index_or nothing.nodes at d).level ≡ 0
  one-low zero d within = refl
  one-low (suc at) d within = absurd (omega (arith, within))

  empty-stands : IsTreeOf {D = D} [] (empty_lists capacity)
  empty-stands = record {
    shape = record {
      sound = none-flawed;
      preorder = record { root_first = refl; numbered = one-numbered; followed = λ at l d within level. absurd (omega (arith, one-low at d within, level)) };
      rising = λ i j d lt within. absurd (omega arith);
    };
    each = λ test. refl;
  }

-- ---- one to three axes

first : (a b c d : Bool) → (a && b && c && d) ≡ true → a ≡ true
first true b c d is = refl
first false b c d is = absurd (let none : ⊥ = cc in none)

halves : (n : ℕ) → (n == 3 || n == 5 || n == 7) ≡ true → n / 2 ≢ 1 → n / 2 ≢ 2 → n / 2 ≡ 3
halves n is not_one not_two =
    elim (n == 3) as (λ b. (n == 3) ≡ b → (b || n == 5 || n == 7) ≡ true → n / 2 ≡ 3) [
      | true ↦ λ three _. absurd (not_one (ap (λ k. k / 2) (eqb-true n 3 three)))
      | false ↦ λ _. elim (n == 5) as (λ b. (n == 5) ≡ b → (false || b || n == 7) ≡ true → n / 2 ≡ 3) [
        | true ↦ λ five _. absurd (not_two (ap (λ k. k / 2) (eqb-true n 5 five)))
        | false ↦ λ _ seven. ap (λ k. k / 2) (eqb-true n 7 seven)
      ] refl
    ] refl is

axes_few : (columns : List ColumnDef) (c : Columns) → columns_of columns ≡ Ok c → c.axes ≢ 1 → c.axes ≢ 2 → c.axes ≡ 3
axes_few columns c of not_one not_two =
    let plain = length (plain_columns columns) in
    elim (is_column_list columns) as (λ b. is_column_list columns ≡ b → (if b then Ok (record { axes = plain / 2; names = map (λ d. d.name) columns }) else Err BadColumnList) ≡ Ok c → c.axes ≡ 3) [
      | true ↦ λ is given.
          let made : Columns = record { axes = plain / 2; names = map (λ d. d.name) columns } in
          let alike : made ≡ c = cc in
          let same : plain / 2 ≡ c.axes = ap (λ (d : Columns). d.axes) alike in
          sym same ∙ halves plain (first (plain == 3 || plain == 5 || plain == 7) (list_all (λ d. d.auxiliary) (drop plain columns)) (nat_le (length columns) 100) (are_distinct (map (λ d. d.name) columns)) is)
          (λ one. not_one (sym same ∙ one)) (λ two. not_two (sym same ∙ two))
      | false ↦ λ is given. absurd (let none : ⊥ = cc in none)
    ] refl of

new-stands : (capacity : ℕ) (columns : List ColumnDef) (c : Columns) → columns_of columns ≡ Ok c → StandsFor capacity c [] (new_tree capacity c)
new-stands capacity columns c of =
    elim (c.axes == 1) as (λ b. (c.axes == 1) ≡ b → StandsFor capacity c [] (if b then One (empty_lists capacity) else (if c.axes == 2 then Two (empty_lists capacity) else Three (empty_lists capacity)))) [
      | true ↦ λ one. (grind (arith, nat_tests), refl, empty-stands 1 capacity)
      | false ↦ λ not_one. elim (c.axes == 2) as (λ b. (c.axes == 2) ≡ b → StandsFor capacity c [] (if b then Two (empty_lists capacity) else Three (empty_lists capacity))) [
        | true ↦ λ two. (grind (arith, nat_tests), refl, empty-stands 2 capacity)
        | false ↦ λ not_two. (axes_few columns c of (grind (arith, nat_tests)) (grind (arith, nat_tests)), refl, empty-stands 3 capacity)
      ] refl
    ] refl

-- ---- a tree that follows steps

followed-stands : (capacity : ℕ) (columns : Columns) (rows : List TableRow) (steps : List Step) (old new : AnyShadow) → StandsFor capacity columns rows old → Follows rows steps old new
    → StandsFor capacity columns (outcome rows steps) new
followed-stands capacity columns rows steps (One old) (One new) (axes, same, stands) follows = (axes, follows.capacity ∙ same, follows.stands)
followed-stands capacity columns rows steps (Two old) (Two new) (axes, same, stands) follows = (axes, follows.capacity ∙ same, follows.stands)
followed-stands capacity columns rows steps (Three old) (Three new) (axes, same, stands) follows = (axes, follows.capacity ∙ same, follows.stands)
followed-stands capacity columns rows steps (One old) (Two new) stands follows = absurd follows
followed-stands capacity columns rows steps (One old) (Three new) stands follows = absurd follows
followed-stands capacity columns rows steps (Two old) (One new) stands follows = absurd follows
followed-stands capacity columns rows steps (Two old) (Three new) stands follows = absurd follows
followed-stands capacity columns rows steps (Three old) (One new) stands follows = absurd follows
followed-stands capacity columns rows steps (Three old) (Two new) stands follows = absurd follows

-- ---- the tables of a session

abbrev pub Stands : ℕ → NamedTable → Type 0
Stands capacity t = StandsFor capacity t.table.columns t.table.rows t.tree

-- each table has a tree of its rows
abbrev pub IsStanding : ℕ → State → Type 0
IsStanding capacity state = Holds capacity (Stands capacity) state

pub empty_stands : (capacity : ℕ) → IsStanding capacity (empty capacity)
empty_stands capacity = empty-holds capacity (Stands capacity)

pub found_stands : (capacity : ℕ) (state : State) → IsStanding capacity state → (p : NamedTable → Bool) (t : NamedTable) → find p state.tables ≡ Some t → Stands capacity t
found_stands capacity state stands p t found = found-holds capacity (Stands capacity) state stands p t found

module _ (capacity : ℕ) where
  made : (name : List ℕ) (columns : List ColumnDef) (c : Columns) → columns_of columns ≡ Ok c → Stands capacity (record { name = name; table = new_table c; tree = new_tree capacity c })
  made name columns c of = new-stands capacity columns c of

  edited : (t : NamedTable) (steps : List Step) (tree : AnyShadow) → Stands capacity t → Follows t.table.rows steps t.tree tree
      → Stands capacity (record t { table = record t.table { rows = outcome t.table.rows steps }; tree = tree })
  edited t steps tree stands follows = followed-stands capacity t.table.columns t.table.rows steps t.tree tree stands follows

  watched : (t : NamedTable) (views : List Watched) → Stands capacity t → Stands capacity (record t { table = record t.table { views = views } })
  watched t views stands = stands

  pub stands_after : (state : State) (statement : Stmt) (outcome : Outcome) → Answers state statement outcome → IsStanding capacity state → IsStanding capacity (state_after state outcome)
  stands_after state statement outcome answers stands = after-holds capacity (Stands capacity) made edited watched state statement outcome answers stands

pub always_stand : TreesAlwaysStand
always_stand capacity = always capacity (Stands capacity) (made capacity) (edited capacity) (watched capacity)
