-- The room that a plan takes, counted step by step.
use Rattle.std.proofs.Common.{◌≡◌, ℕ, ◌+◌, ◌<◌, ◌≤◌, Bool, true, false, List, [], ◌∷◌, ◌++◌, map, take, length, get_or, sym, ap, ◌∙◌, arith}
use Rattle.std.specs.Prelude.{if◌then◌else◌, ◌==◌}
use Rattle.std.proofs.lemmas.Grind.{common_steps}
use Rattle.std.proofs.lemmas.List.{take_more, map-append}
use Rattle.rt_sql_statement.specs.declared.value.Value.{Value}
use Rattle.rt_table_row.specs.Edits.{Step, Leaves, Comes, Becomes}
use Rattle.rt_table_step.specs.Steps.{inserts, inserts_all, auxiliary_rows_of, auxiliary_rows_all}

pub inserts_few : (step : Step) → inserts step ≤ 1
inserts_few (Leaves id) = omega arith
inserts_few (Comes row) = omega arith
inserts_few (Becomes id row) = omega arith

none_or_one : (b : Bool) → (if b then 0 else 1) ≤ 1
none_or_one true = omega arith
none_or_one false = omega arith

pub auxiliary_rows_few : (step : Step) → auxiliary_rows_of step ≤ 1
auxiliary_rows_few (Leaves id) = omega arith
auxiliary_rows_few (Comes row) = none_or_one (length row.auxiliary == 0)
auxiliary_rows_few (Becomes id row) = none_or_one (length row.auxiliary == 0)

inserts_last : (steps : List Step) (step : Step) → inserts_all (steps ++ step ∷ []) ≡ inserts_all steps + inserts step
inserts_last [] step = omega arith
inserts_last (first ∷ steps) step = let later = inserts_last steps step in omega arith

auxiliary_rows_last : (steps : List Step) (step : Step) → auxiliary_rows_all (steps ++ step ∷ []) ≡ auxiliary_rows_all steps + auxiliary_rows_of step
auxiliary_rows_last [] step = omega arith
auxiliary_rows_last (first ∷ steps) step = let later = auxiliary_rows_last steps step in omega arith

steps_more : {X : Type 0} (f : X → Step) (xs : List X) (i : ℕ) (x : X) → i < length xs → x ≡ get_or xs i x → map f (take (i + 1) xs) ≡ map f (take i xs) ++ f x ∷ []
steps_more f xs i x within here =
    ap (map f) (take_more xs i x within) ∙ map-append f (take i xs) (get_or xs i x ∷ []) ∙ ap (λ (s : Step). map f (take i xs) ++ s ∷ []) (ap f (sym here))

-- one step more
pub inserts_more : {X : Type 0} (f : X → Step) (xs : List X) (i : ℕ) (x : X) → i < length xs → x ≡ get_or xs i x → inserts_all (map f (take (i + 1) xs)) ≡ inserts_all (map f (take i xs)) + inserts (f x)
inserts_more f xs i x within here = ap inserts_all (steps_more f xs i x within here) ∙ inserts_last (map f (take i xs)) (f x)

pub auxiliary_rows_more : {X : Type 0} (f : X → Step) (xs : List X) (i : ℕ) (x : X) → i < length xs → x ≡ get_or xs i x → auxiliary_rows_all (map f (take (i + 1) xs)) ≡ auxiliary_rows_all (map f (take i xs)) + auxiliary_rows_of (f x)
auxiliary_rows_more f xs i x within here = ap auxiliary_rows_all (steps_more f xs i x within here) ∙ auxiliary_rows_last (map f (take i xs)) (f x)

-- what is left once a row has its place
pub auxiliary_left : (values : List Value) (old new : ℕ) → old ≤ new + 1 → (values ≡ [] → old ≤ new) → old ≤ new + (if length values == 0 then 0 else 1)
auxiliary_left values old new one none = grind (arith, common_steps)

-- what is left behind the first step is room for the later ones
pub rest_fits : (first rest old new : ℕ) → first + rest ≤ old → old ≤ new + first → rest ≤ new
rest_fits first rest old new enough left = omega arith
