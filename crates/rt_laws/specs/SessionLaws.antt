-- What holds of every session, over the definitions that the contracts cite (own).
use Rattle.std.specs.Prelude.{◌≡◌, ℕ, List, [], ◌∷◌, All}
use Rattle.rt_sql_request.specs.declared.request.Stmt.{Stmt}
use Rattle.rt_table_row.specs.Rows.{AreRising}
use Rattle.rt_table.specs.AnyTrees.{StandsFor}
use Rattle.rt_session.specs.Session.{State, empty, Outcome, state_after, Answers}

-- the statements, one after the other, lead from one state to the other
abbrev pub LeadTo : State → List Stmt → State → Type 0
LeadTo old [] new = new ≡ old
LeadTo old (statement ∷ statements) new =
    (outcome : Outcome) × Answers old statement outcome × LeadTo (state_after old outcome) statements new

-- whatever statements a session carries out, the rows of each table stand by rising id
abbrev pub RowsAlwaysRise : Type 0
RowsAlwaysRise =
    (capacity : ℕ) (statements : List Stmt) (state : State) → LeadTo (empty capacity) statements state → All (λ t. AreRising t.table.rows) state.tables

-- whatever statements a session carries out, each table has a tree of its rows, of the session's capacity, in which the
-- checker finds no problem
abbrev pub TreesAlwaysStand : Type 0
TreesAlwaysStand =
    (capacity : ℕ) (statements : List Stmt) (state : State) → LeadTo (empty capacity) statements state
    → All (λ t. StandsFor capacity t.table.columns t.table.rows t.tree) state.tables
