-- The steps of an INSERT, one row after the other.
use Rattle.std.proofs.Common.{◌≡◌, ◌==◌, ◌<◌, ◌+◌, get_or, drop, ℕ, ℤ, Bool, true, false, cond, List, [], ◌∷◌, ◌++◌, map, length, Option, Result, Ok, Err, ◌⊎◌, inl, inr, refl, sym, ap, subst, ◌∙◌}
use Rattle.std.specs.Prelude.{nat_le}
use Rattle.std.specs.List.{list_all}
use Rattle.std.proofs.lemmas.List.{at_drop_more}
use Rattle.rt_sql_statement.specs.declared.value.Value.{Value}
use Rattle.rt_sql_statement.specs.declared.statement.Rule.{Rule}
use Rattle.rt_sql_statement.specs.declared.statement.Rule.TheVariants.{Abort, Replace, Ignore}
use Rattle.rt_sql_statement.specs.declared.refusal.Refusal.{Refusal}
use Rattle.rt_sql_statement.specs.declared.refusal.Refusal.TheVariants.{WrongNumberOfValues, IdAlreadyTaken, MinimumAboveMaximum, TableFull, OutOfMemory}
use Rattle.rt_table_row.specs.Columns.{Columns}
use Rattle.rt_table_row.specs.Arrangements.{ColumnPlaces, row_values, IsArrangementOf}
use Rattle.rt_table_row.specs.Rows.{TableRow, has_id}
use Rattle.rt_table_row.specs.NewRows.{given_id, row_from}
use Rattle.rt_table_row.specs.Edits.{Step, Steps, Comes, Becomes, outcome, and_then, steps_and, most_rows, id_or_new, put_over, put_row, unless_ignored, put, put_all, column_values, listed_columns, insert}
use Rattle.rt_table_plan.specs.Counts.{Counts, Inserts, largest_after, room_after, put_values}
use Rattle.rt_table_plan.proofs.Drafting.{outcome-append, steps_and-append}
use Rattle.rt_table_plan.proofs.Counting.{counts_more}

-- ---- a row that is put has an id that no row has, or stands in the place of the one that has it

one_of : (a b : Step) → (let r : Steps = Ok (a ∷ []) in r) ≡ Ok (b ∷ []) → a ≡ b
one_of a b e = cc

not_ignored : (rule : Rule) (s : Steps) (step : Step) → unless_ignored rule s ≡ Ok (step ∷ []) → s ≡ Ok (step ∷ [])
not_ignored Abort (Ok steps) step e = e
not_ignored Replace (Ok steps) step e = e
not_ignored Ignore (Ok steps) step e = e
not_ignored Abort (Err refusal) step e = e
not_ignored Replace (Err refusal) step e = e
not_ignored Ignore (Err IdAlreadyTaken) step e = cc
not_ignored Ignore (Err MinimumAboveMaximum) step e = cc
not_ignored Ignore (Err refusal) step e = e

over_fits : (rule : Rule) (now : List TableRow) (row : TableRow) (step : Step) → has_id now row.id ≡ true → put_over rule row ≡ Ok (step ∷ []) → Inserts now step
over_fits Replace now row step there e = subst (Inserts now) (one_of (Becomes row.id row) step e) (refl, there)
over_fits Abort now row step there e = cc
over_fits Ignore now row step there e = cc

coming_fits : (full : Bool) (now : List TableRow) (row : TableRow) (step : Step) → has_id now row.id ≡ false →
    (let r : Steps = cond full (Err TableFull) (Ok (Comes row ∷ [])) in r) ≡ Ok (step ∷ []) → Inserts now step
coming_fits true now row step there e = cc
coming_fits false now row step there e = subst (Inserts now) (one_of (Comes row) step e) there

placed_fits : (rule : Rule) (now : List TableRow) (row : TableRow) (step : Step) (b : Bool) → has_id now row.id ≡ b →
    (let r : Steps = cond b (put_over rule row) (cond (nat_le most_rows (length now)) (Err TableFull) (Ok (Comes row ∷ []))) in r) ≡ Ok (step ∷ []) → Inserts now step
placed_fits rule now row step true there e = over_fits rule now row step there e
placed_fits rule now row step false there e = coming_fits (nat_le most_rows (length now)) now row step there e

made_fits : (rule : Rule) (now : List TableRow) (made : Result TableRow Refusal) (step : Step) → and_then made (put_row rule now) ≡ Ok (step ∷ []) → Inserts now step
made_fits rule now (Ok row) step e = placed_fits rule now row step (has_id now row.id) refl e
made_fits rule now (Err refusal) step e = cc

pub put_fits : (axes : ℕ) (rule : Rule) (now : List TableRow) (values : List Value) (step : Step) → put axes rule now values ≡ Ok (step ∷ []) → Inserts now step
put_fits axes rule now values step e =
    let made : Result TableRow Refusal = row_from axes (id_or_new now (given_id values)) values in
    made_fits rule now made step (not_ignored rule (and_then made (put_row rule now)) step e)

-- ---- a row of values

pub values_made : (axes : ℕ) (rule : Rule) (now : List TableRow) (values : List Value) (id : Option ℤ) (row : TableRow) → id ≡ id_or_new now (given_id values) →
    row_from axes id values ≡ Ok row → put_values axes rule now values ≡ put_row rule now row
values_made axes rule now values id row is made =
    ap (λ (own : Option ℤ). and_then (row_from axes own values) (put_row rule now)) (sym is)
    ∙ ap (λ (r : Result TableRow Refusal). and_then r (put_row rule now)) made

-- ---- one list more

pub put_more : (axes : ℕ) (rule : Rule) (rows : List TableRow) (whole : Steps) (done next new : List Step) (values : List Value) (left later : List (List Value)) →
    whole ≡ steps_and done (put_all axes rule (outcome rows done) left) → left ≡ values ∷ later → put axes rule (outcome rows done) values ≡ Ok new →
    next ≡ done ++ new → whole ≡ steps_and next (put_all axes rule (outcome rows next) later)
put_more axes rule rows whole done next new values left later is more one grown =
    is ∙ ap (λ (l : List (List Value)). steps_and done (put_all axes rule (outcome rows done) l)) more
    ∙ ap (λ (s : Steps). steps_and done (and_then s (λ steps. steps_and steps (put_all axes rule (outcome (outcome rows done) steps) later)))) one
    ∙ sym (steps_and-append done new (put_all axes rule (outcome (outcome rows done) new) later))
    ∙ ap (λ (r : List TableRow). steps_and (done ++ new) (put_all axes rule r later)) (sym (outcome-append rows done new))
    ∙ ap (λ (l : List Step). steps_and l (put_all axes rule (outcome rows l) later)) (sym grown)

-- a row that refuses the whole
pub put_refused : (axes : ℕ) (rule : Rule) (rows : List TableRow) (whole : Steps) (done : List Step) (refusal : Refusal) (values : List Value) (left later : List (List Value)) →
    whole ≡ steps_and done (put_all axes rule (outcome rows done) left) → left ≡ values ∷ later →
    (put axes rule (outcome rows done) values ≡ Err refusal) ⊎ (refusal ≡ OutOfMemory) → (whole ≡ Err refusal) ⊎ (refusal ≡ OutOfMemory)
put_refused axes rule rows whole done refusal values left later is more (inl one) =
    inl (is ∙ ap (λ (l : List (List Value)). steps_and done (put_all axes rule (outcome rows done) l)) more
    ∙ ap (λ (s : Steps). steps_and done (and_then s (λ steps. steps_and steps (put_all axes rule (outcome (outcome rows done) steps) later)))) one)
put_refused axes rule rows whole done refusal values left later is more (inr memory) = inr memory

-- what is counted after one step more
pub counts_step : (rows : List TableRow) (done next : List Step) (step : Step) (largest largest_then : Option ℤ) (room room_then : ℕ) → Counts (outcome rows done) largest room →
    Inserts (outcome rows done) step → next ≡ done ++ step ∷ [] → largest_then ≡ largest_after largest step → room_then ≡ room_after room step → Counts (outcome rows next) largest_then room_then
counts_step rows done next step largest largest_then room room_then counts fits grown largest_is room_is =
    rw (grown, outcome-append, largest_is, room_is) (counts_more (outcome rows done) largest room step counts fits)

pub left_more : {X : Type 0} (f : X → List Value) (lists : List X) (i : ℕ) (item : X) (values : List Value) → i < length lists → item ≡ get_or lists i item → values ≡ f item →
    map f (drop i lists) ≡ values ∷ map f (drop (i + 1) lists)
left_more f lists i item values h is e =
    at_drop_more (map f) lists i item h ∙ ap (λ (v : List Value). v ∷ map f (drop (i + 1) lists)) (ap f (sym is) ∙ sym e)

-- ---- the columns that are listed

lists_same : (columns : Columns) (names : List (List ℕ)) (found : ColumnPlaces) (lists : List (List Value)) → IsArrangementOf columns names found →
    map (row_values found) lists ≡ map (column_values columns.names names) lists
lists_same columns names found [] is = refl
lists_same columns names found (values ∷ lists) is = rw (is.same values, lists_same columns names found lists is)

wide_same : (width other : ℕ) (lists : List (List Value)) → width ≡ other → list_all (λ (values : List Value). length values == width) lists ≡ list_all (λ (values : List Value). length values == other) lists
wide_same width other lists e = ap (λ (n : ℕ). list_all (λ (values : List Value). length values == n) lists) e

pub inserts : (axes : ℕ) (columns : Columns) (rows : List TableRow) (rule : Rule) (listed : Option (List (List ℕ))) (lists : List (List Value)) (found : ColumnPlaces) → columns.axes ≡ axes →
    IsArrangementOf columns (listed_columns columns listed) found → list_all (λ (values : List Value). length values == found.width) lists ≡ true →
    put_all axes rule rows (map (row_values found) lists) ≡ insert columns rows rule listed lists
inserts axes columns rows rule listed lists found same is wide =
    let names = listed_columns columns listed in
    let long : list_all (λ (values : List Value). length values == length names) lists ≡ true = sym (wide_same found.width (length names) lists is.width_is) ∙ wide in
    ap (λ (n : ℕ). put_all n rule rows (map (row_values found) lists)) (sym same)
    ∙ ap (λ (l : List (List Value)). put_all columns.axes rule rows l) (lists_same columns names found lists is)
    ∙ sym (rw (is.distinct, is.known, long))

pub inserts_not : (columns : Columns) (rows : List TableRow) (rule : Rule) (listed : Option (List (List ℕ))) (lists : List (List Value)) (found : ColumnPlaces) →
    IsArrangementOf columns (listed_columns columns listed) found → list_all (λ (values : List Value). length values == found.width) lists ≡ false →
    insert columns rows rule listed lists ≡ Err WrongNumberOfValues
inserts_not columns rows rule listed lists found is wide =
    let names = listed_columns columns listed in
    let long : list_all (λ (values : List Value). length values == length names) lists ≡ false = sym (wide_same found.width (length names) lists is.width_is) ∙ wide in
    rw (is.distinct, is.known, long)
