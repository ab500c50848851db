-- Which ids have rows.
use Rattle.std.proofs.Common.{◌≡◌, ℕ, ◌+◌, ◌<◌, ℤ, Bool, List, [], ◌∷◌, ◌++◌, map, filter, take, length, get_or, Option, None, Ok, refl, sym, ap, ◌∙◌}
use Rattle.std.proofs.lemmas.List.{map-append, map_more}
use Rattle.rt_sql_statement.specs.declared.statement.Test.{Test}
use Rattle.rt_table_row.specs.Columns.{Columns}
use Rattle.rt_table_row.specs.Conditions.{holds}
use Rattle.rt_table_row.specs.Filters.{Placed, admits, IsFilterOf}
use Rattle.rt_table_row.specs.Rows.{TableRow, has_id}
use Rattle.rt_table_row.specs.Edits.{Step, Leaves, delete}
use Rattle.rt_tree_walk.specs.declared.searching.Row.{Row}
use Rattle.rt_table_store.specs.Trees.{leaf_row}
use Rattle.rt_table_plan.specs.Drafts.{is_there}

pub untouched : (rows : List TableRow) (touched : ℤ → Option Bool) (id : ℤ) (there : Bool) → touched id ≡ None → there ≡ has_id rows id → there ≡ is_there rows touched id
untouched rows touched id there none e = rw none e

pub filter_same : {X : Type 0} (p q : X → Bool) (xs : List X) → ((x : X) → p x ≡ q x) → filter p xs ≡ filter q xs
filter_same p q [] same = refl
filter_same p q (x ∷ xs) same = rw (same x, filter_same p q xs same)

-- rows of a tree, each in a step of its own
leaving_rows : (D : ℕ) (rows : List TableRow) → map (λ (row : Row D). Leaves row.id) (map leaf_row rows) ≡ map (λ (r : TableRow). Leaves r.id) rows
leaving_rows D [] = refl
leaving_rows D (r ∷ rows) = rw (leaving_rows D rows)

-- the steps of a DELETE, by the filter that its condition made
pub deletes : (D : ℕ) (columns : Columns) (rows : List TableRow) (cond : List Test) (filter_ : Placed) (steps : List Step) → IsFilterOf columns cond filter_ →
    steps ≡ map (λ (row : Row D). Leaves row.id) (map leaf_row (filter (admits filter_) rows)) → delete columns rows cond ≡ Ok steps
deletes D columns rows cond filter_ steps is steps_are =
    rw (is.known, steps_are, leaving_rows D, filter_same (admits filter_) (holds columns cond) rows is.same)

-- a row more
pub leaves-more : {D : ℕ} {S : Type 0} (f : S → Step) (rows : List (Row D)) (steps : List S) (i : ℕ) (row : Row D) (step : S) → i < length rows → row ≡ get_or rows i row
    → f step ≡ Leaves row.id → map f steps ≡ map (λ (r : Row D). Leaves r.id) (take i rows)
    → map f (steps ++ step ∷ []) ≡ map (λ (r : Row D). Leaves r.id) (take (i + 1) rows)
leaves-more {D} f rows steps i row step within here is so_far =
    map-append f steps (step ∷ []) ∙ ap (λ (ss : List Step). ss ++ f step ∷ []) so_far
    ∙ ap (λ (s : Step). map (λ (r : Row D). Leaves r.id) (take i rows) ++ s ∷ []) (is ∙ ap (λ (r : Row D). Leaves r.id) here)
    ∙ sym (map_more (λ (r : Row D). Leaves r.id) rows i row within)
