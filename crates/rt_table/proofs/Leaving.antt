-- A row that leaves a table which nobody watches.
use Rattle.std.proofs.Common.{◌≡◌, ◌∙◌, ℕ, ℤ, Bool, true, false, cond, List, [], ◌∷◌, map, length, nat_lt, Option, Some, None, Ok, IfNone, IfSome, refl, sym, ap, subst}
use Rattle.std.specs.Prelude.{is_some}
use Rattle.std.specs.Option.{option_map}
use Rattle.std.specs.Ordering.{int_eq}
use Rattle.std.proofs.lemmas.Bool.{true≢false}
use Rattle.rt_box.specs.declared.interval.Interval.{Interval}
use Rattle.rt_sql_statement.specs.declared.statement.Test.{Test}
use Rattle.rt_tree.specs.Changes.{IsRemoval}
use Rattle.rt_table_row.specs.Rows.{TableRow, AreRising, row_at, has_id, without_id}
use Rattle.rt_table_row.specs.Columns.{Columns}
use Rattle.rt_table_row.specs.Edits.{Step, Steps, Leaves, outcome, delete, leaving}
use Rattle.rt_table_row.specs.Conditions.{has_columns, holds, picked}
use Rattle.rt_table_row.specs.Tables.{TableLists, edited}
use Rattle.rt_table_row.proofs.Filters.{first}
use Rattle.rt_table_row.specs.Views.{View, ViewChange, deltas}
use Rattle.rt_table_store.specs.StoreLists.{StoreLists}
use Rattle.rt_table_store.specs.Trees.{IsTreeOf, FollowsSteps}
use Rattle.rt_table_store.proofs.Moved.{has-row}
use Rattle.rt_table_store.proofs.Picked.{key_left}
use Rattle.rt_table_store.proofs.Sorted.{rises}

pub none_mapped : {X Y : Type 0} (f : X → Y) (xs : List X) → map f xs ≡ [] → xs ≡ []
none_mapped f [] none = refl
none_mapped f (x ∷ xs) none = cc

module _ {D : ℕ} {X : Type 0} (row : X → TableRow) (id : ℤ) (old new : StoreLists D) where
  there : (found : Option X) → option_map row found ≡ row_at old.rows id → has_id old.rows id ≡ is_some (option_map row found)
  there found e = has-row old.rows id ∙ ap is_some (sym e)

  -- the rows that are left
  pub left-rows : (found : Option X) → option_map row found ≡ row_at old.rows id → IfNone found (new ≡ old) → IfSome found (λ _. new.rows ≡ without_id old.rows id)
      → new.rows ≡ outcome old.rows (leaving old.rows id)
  left-rows None e none some = rw (there None e) (ap (λ (s : StoreLists D). s.rows) none)
  left-rows (Some x) e none some = rw (there (Some x) e) some

  -- the tree follows
  pub left-tree : (rect : X → List Interval) (found : Option X) → option_map row found ≡ row_at old.rows id → IfNone found (new ≡ old) → IfSome found (λ _. new.rows ≡ without_id old.rows id)
      → IfSome found (λ x. IsRemoval old.tree new.tree id (rect x)) → new.tree.capacity ≡ old.tree.capacity → IsTreeOf new.rows new.tree
      → FollowsSteps old.rows (leaving old.rows id) old.tree new.tree
  left-tree rect None e none rows_are some capacity stands =
      rw (there None e) (record {
        stands = subst (λ (rs : List TableRow). IsTreeOf rs new.tree) (ap (λ (s : StoreLists D). s.rows) none) stands;
        takes = ap (λ (s : StoreLists D). s.tree) none;
        capacity = capacity;
      })
  left-tree rect (Some x) e none rows_are some capacity stands =
      let left : IsTreeOf (without_id old.rows id) new.tree = subst (λ (rs : List TableRow). IsTreeOf rs new.tree) rows_are stands in
      rw (there (Some x) e) (record { stands = left; takes = (new.tree, (rect x, some), left, refl); capacity = capacity })

one-or-none : (b : Bool) (id : ℤ) → map Leaves (cond b (id ∷ []) []) ≡ cond b (Leaves id ∷ []) []
one-or-none true id = refl
one-or-none false id = refl

by-ids : (rows : List TableRow) → map (λ (r : TableRow). Leaves r.id) rows ≡ map Leaves (map (λ r. r.id) rows)
by-ids [] = refl
by-ids (r ∷ rows) = ap (λ (steps : List Step). Leaves r.id ∷ steps) (by-ids rows)

-- the steps of a DELETE of an id alone
lone-steps : (columns : Columns) (rows : List TableRow) (tests : List Test) (id : ℤ) → has_columns columns tests ≡ true → ((r : TableRow) → holds columns tests r ≡ int_eq r.id id) → AreRising rows
    → delete columns rows tests ≡ Ok (leaving rows id)
lone-steps columns rows tests id known exact rising =
    rw known (
    ap Ok (
    by-ids (picked columns tests rows)
    ∙ ap (map Leaves) (key_left (λ r. r.id) (holds columns tests) id exact rows (rises (λ r. r.id) rows rising))
    ∙ one-or-none (has_id rows id) id
    ))

-- where the condition asks for an id alone
pub alone : (columns : Columns) (rows : List TableRow) (tests : List Test) (found : Option ℤ) → AreRising rows → IfSome found (λ _. has_columns columns tests ≡ true)
    → IfSome found (λ id. (r : TableRow) → holds columns tests r ≡ int_eq r.id id) → IfSome found (λ id. delete columns rows tests ≡ Ok (leaving rows id))
alone columns rows tests None rising known exact = tt
alone columns rows tests (Some id) rising known exact = lone-steps columns rows tests id known exact rising

pub unwatched : {X : Type 0} (xs : List X) → nat_lt 0 (length xs) ≡ false → xs ≡ []
unwatched [] none = refl
unwatched (x ∷ xs) none = absurd (true≢false (first (length xs) ∙ none))

pub each-way : {A : Type 0} {P : Type 0} (found : Option A) → P → IfSome found (λ _. P)
each-way None p = tt
each-way (Some a) p = p

no-deltas : (columns : Columns) (views : List View) (before after : List TableRow) → views ≡ [] → deltas columns views before after ≡ []
no-deltas columns views before after none = rw none refl

-- a table without views after its steps
pub edited-alone : (old new : TableLists) (steps : Steps) (done : List Step) → steps ≡ Ok done → old.views ≡ [] → new ≡ record old { rows = outcome old.rows done } → edited old steps ≡ Ok ([], new)
edited-alone old new steps done are none is =
    rw (are, is) (ap (λ (changes : List ViewChange). Ok (changes, record old { rows = outcome old.rows done })) (no-deltas old.columns old.views old.rows (outcome old.rows done) none))
