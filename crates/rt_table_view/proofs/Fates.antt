-- What is known of the ids that steps touch.
use Rattle.std.proofs.Common.{◌≡◌, ℕ, ◌+◌, ◌<◌, ℤ, Bool, true, false, cond, not, List, [], ◌∷◌, ◌++◌, map, take, length, get_or, Option, Some, None, refl, sym, ap, ◌∙◌}
use Rattle.std.specs.Prelude.{if◌then◌else◌, is_some}
use Rattle.std.specs.Ordering.{int_eq}
use Rattle.std.specs.Option.{unwrap_or}
use Rattle.std.proofs.lemmas.Cmp.{int_eq_equiv}
use Rattle.std.proofs.lemmas.List.{map_more}
use Rattle.std.specs.List.{list_any}
use Rattle.rt_table_row.specs.Rows.{TableRow, AreRising, row_at, with_row, without_id}
use Rattle.rt_table_row.specs.Edits.{Step, Leaves, Comes, Becomes, after_step, outcome}
use Rattle.rt_table_store.proofs.Sorted.{at_key-placed, at_key-taken, Rises, rises, rising, rises-placed, rises-taken}
use Rattle.rt_table_view.specs.Fates.{Fate, fate_after}
use Rattle.rt_table_view.specs.Preparing.{DifferAt}

-- the test of an id is the same either way round
same_test : (a b : ℤ) → int_eq a b ≡ int_eq b a
same_test a b = int_eq_equiv.symm a b

taken_by : (b : Bool) (o : Option TableRow) (f : Option Fate) (before : Option TableRow) → o ≡ unwrap_or f before → cond (not b) o None ≡ unwrap_or (if b then Some None else f) before
taken_by true o f before same = refl
taken_by false o f before same = same

placed_by : (b : Bool) (r : TableRow) (o : Option TableRow) (f : Option Fate) (before : Option TableRow) → o ≡ unwrap_or f before → cond b (Some r) o ≡ unwrap_or (if b then Some (Some r) else f) before
placed_by true r o f before same = refl
placed_by false r o f before same = same

at_without : (rows : List TableRow) (id q : ℤ) (f : Option Fate) (before : Option TableRow) → row_at rows q ≡ unwrap_or f before
    → row_at (without_id rows id) q ≡ unwrap_or (if int_eq q id then Some None else f) before
at_without rows id q f before same =
    at_key-taken (λ r. r.id) rows id q ∙ ap (λ (b : Bool). cond (not b) (row_at rows q) None) (same_test id q) ∙ taken_by (int_eq q id) (row_at rows q) f before same

at_with : (rows : List TableRow) (r : TableRow) (q : ℤ) (f : Option Fate) (before : Option TableRow) → row_at rows q ≡ unwrap_or f before
    → row_at (with_row rows r) q ≡ unwrap_or (if int_eq q r.id then Some (Some r) else f) before
at_with rows r q f before same = at_key-placed (λ s. s.id) rows r q ∙ placed_by (int_eq q r.id) r (row_at rows q) f before same

-- one step more
pub row_at-after_step : (rows : List TableRow) (step : Step) (q : ℤ) (f : Option Fate) (before : Option TableRow) → row_at rows q ≡ unwrap_or f before
    → row_at (after_step rows step) q ≡ unwrap_or (fate_after step q f) before
row_at-after_step rows (Leaves id) q f before same = at_without rows id q f before same
row_at-after_step rows (Comes r) q f before same = at_with rows r q f before same
row_at-after_step rows (Becomes id r) q f before same =
    at_with (without_id rows id) r q (if int_eq q id then Some None else f) before (at_without rows id q f before same)

pub outcome-append : (rows : List TableRow) (steps more : List Step) → outcome rows (steps ++ more) ≡ outcome (outcome rows steps) more
outcome-append rows [] more = refl
outcome-append rows (step ∷ steps) more = outcome-append (after_step rows step) steps more

pub outcome_more : {X : Type 0} (f : X → Step) (rows : List TableRow) (xs : List X) (i : ℕ) (x : X) → i < length xs → x ≡ get_or xs i x
    → outcome rows (map f (take (i + 1) xs)) ≡ after_step (outcome rows (map f (take i xs))) (f x)
outcome_more f rows xs i x within read = ap (outcome rows) (map_more f xs i x within ∙ ap (λ y. map f (take i xs) ++ f y ∷ []) (sym read)) ∙ outcome-append rows (map f (take i xs)) (f x ∷ [])

rises_after : (rows : List TableRow) (step : Step) → Rises (λ r. r.id) rows → Rises (λ r. r.id) (after_step rows step)
rises_after rows (Leaves id) rise = rises-taken (λ r. r.id) rows id rise
rises_after rows (Comes r) rise = rises-placed (λ r. r.id) rows r rise
rises_after rows (Becomes id r) rise = rises-placed (λ r. r.id) (without_id rows id) r (rises-taken (λ r. r.id) rows id rise)

rises_outcome : (rows : List TableRow) (steps : List Step) → Rises (λ r. r.id) rows → Rises (λ r. r.id) (outcome rows steps)
rises_outcome rows [] rise = rise
rises_outcome rows (step ∷ steps) rise = rises_outcome (after_step rows step) steps (rises_after rows step rise)

-- whatever the steps, the rows stand by rising id
pub rising_outcome : (rows : List TableRow) (steps : List Step) → AreRising rows → AreRising (outcome rows steps)
rising_outcome rows steps rise = rising (λ r. r.id) (outcome rows steps) (rises_outcome rows steps (rises (λ r. r.id) rows rise))

untouched : (f : Option Fate) (before : Option TableRow) → is_some f ≡ false → unwrap_or f before ≡ before
untouched None before none = refl
untouched (Some r) before none = cc

-- the ids of which nothing is known have the rows that they had
pub differ_known : (before after : List TableRow) (ids : List ℤ) (fates : ℤ → Option Fate) → ((q : ℤ) → row_at after q ≡ unwrap_or (fates q) (row_at before q))
    → ((q : ℤ) → list_any (int_eq q) ids ≡ is_some (fates q)) → DifferAt ids before after
differ_known before after ids fates is all = λ q none. is q ∙ untouched (fates q) (row_at before q) (sym (all q) ∙ none)
