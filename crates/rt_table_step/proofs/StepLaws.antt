-- The steps that a statement answers apply to the rows of its table.
use Rattle.std.proofs.Common.{◌≡◌, ◌∙◌, ℕ, ◌+◌, ◌*◌, ◌-◌, ℤ, Bool, true, false, cond, not, ◌&&◌, ◌||◌, List, [], ◌∷◌, ◌++◌, map, drop, length, Option, Some, None, Result, Ok, Err, IfOk, refl, sym, ap}
use Rattle.std.specs.Prelude.{◌<ℤ◌, find, filter, is_some, nat_le, ◌==◌, if◌then◌else◌}
use Rattle.std.specs.List.{AllByRecursion, list_any, list_all}
use Rattle.std.specs.Ordering.{int_eq}
use Rattle.std.proofs.lemmas.Bool.{leb-false}
use Rattle.std.proofs.lemmas.List.{length-map, length-drop}
use Rattle.std.proofs.lemmas.List.Elements.{All-from_recursion}
use Rattle.std.proofs.lemmas.Result.{IfOk-weaker}
use Rattle.rt_box.specs.declared.interval.Interval.{Interval}
use Rattle.rt_sql_statement.specs.declared.value.Value.{Value}
use Rattle.rt_sql_statement.specs.declared.statement.Edit.TheVariants.{Insert, Update, Delete}
use Rattle.rt_sql_statement.specs.declared.statement.Edit.{Edit}
use Rattle.rt_sql_statement.specs.declared.statement.Rule.{Rule}
use Rattle.rt_sql_statement.specs.declared.statement.Rule.TheVariants.{Abort, Replace, Ignore}
use Rattle.rt_sql_statement.specs.declared.statement.Test.{Test}
use Rattle.rt_sql_statement.specs.declared.refusal.Refusal.{Refusal}
use Rattle.rt_sql_statement.specs.declared.refusal.Refusal.TheVariants.{BadColumnList, NoSuchColumn, WrongNumberOfValues, WrongType, IntegerOutOfRange, IdAlreadyTaken, MinimumAboveMaximum, TableFull}
use Rattle.rt_table_row.specs.Columns.{Columns, has_name, are_distinct}
use Rattle.rt_table_row.specs.Conditions.{has_columns, holds, picked}
use Rattle.rt_table_row.specs.NewRows.{is_id, is_integer, number_in, fits_bits, id_value, given_id, coordinate_values, box_of, is_ordered, row_of_id, row_from}
use Rattle.rt_table_row.specs.Rows.{TableRow, values_of, AreRising, has_id, with_row, without_id}
use Rattle.rt_table_row.specs.Edits.{Step, Leaves, Comes, Becomes, Steps, after_step, outcome, and_then, Setting, put_over, put_row, id_or_new, unless_ignored, put, put_all, steps_and, column_values, listed_columns, insert, delete, update, steps_of, update_all, update_row, replace_row, new_values, is_summable, sum_fits, columns_read}
use Rattle.rt_table_store.proofs.Order.{eq_same, eq_below}
use Rattle.rt_table_store.proofs.Sorted.{at_key-taken, at_key-placed, Rises, rises}
use Rattle.rt_table_step.specs.Steps.{ApplyInTurn, ApplyTo, FitsColumns}
use Rattle.rt_table_step.specs.Laws.{StepsApply}

-- ---- which ids there are

any_found : {X : Type 0} (p : X → Bool) (xs : List X) → list_any p xs ≡ is_some (find p xs)
any_found p [] = refl
any_found p (x ∷ xs) =
    elim (p x) as (λ b. (b || list_any p xs) ≡ is_some (cond b (Some x) (find p xs))) [
      | true ↦ refl
      | false ↦ any_found p xs
    ]

some_kept : {X : Type 0} (b : Bool) (o : Option X) → is_some (cond b o None) ≡ (b && is_some o)
some_kept true o = refl
some_kept false o = refl

some_put : {X : Type 0} (b : Bool) (x : X) (o : Option X) → is_some (cond b (Some x) o) ≡ (b || is_some o)
some_put true x o = refl
some_put false x o = refl

has-without : (rows : List TableRow) (k q : ℤ) → has_id (without_id rows k) q ≡ (not (int_eq k q) && has_id rows q)
has-without rows k q =
    any_found (λ r. int_eq q r.id) (without_id rows k) ∙ ap is_some (at_key-taken (λ r. r.id) rows k q) ∙ some_kept _ _
    ∙ ap (λ b. not (int_eq k q) && b) (sym (any_found (λ r. int_eq q r.id) rows))

has-with : (rows : List TableRow) (row : TableRow) (q : ℤ) → has_id (with_row rows row) q ≡ (int_eq q row.id || has_id rows q)
has-with rows row q =
    any_found (λ r. int_eq q r.id) (with_row rows row) ∙ ap is_some (at_key-placed (λ r. r.id) rows row q) ∙ some_put _ row _
    ∙ ap (λ b. int_eq q row.id || b) (sym (any_found (λ r. int_eq q r.id) rows))

gone : (rows : List TableRow) (id : ℤ) → has_id (without_id rows id) id ≡ false
gone rows id = has-without rows id id ∙ rw (eq_same id) refl

-- ---- steps one after the other

apply_both : (rows : List TableRow) (steps more : List Step) → ApplyInTurn rows steps → ApplyInTurn (outcome rows steps) more → ApplyInTurn rows (steps ++ more)
apply_both rows [] more first later = later
apply_both rows (step ∷ steps) more first later = (first.0, apply_both (after_step rows step) steps more first.1 later)

of_choice : {A : Type 0} (P : A → Type 0) (b : Bool) (x y : Result A Refusal) → (b ≡ true → IfOk x P) → (b ≡ false → IfOk y P) → IfOk (if b then x else y) P
of_choice P true x y g h = g refl
of_choice P false x y g h = h refl

of_next : {A B : Type 0} (P : A → Type 0) (Q : B → Type 0) (r : Result A Refusal) (next : A → Result B Refusal) → IfOk r P → ((a : A) → P a → IfOk (next a) Q) → IfOk (and_then r next) Q
of_next P Q (Ok a) next of step = step a of
of_next P Q (Err refusal) next of step = tt

abbrev Always : {A : Type 0} → A → Type 0
Always a = Unit {0}

always : {A : Type 0} (r : Result A Refusal) → IfOk r Always
always (Ok a) = tt
always (Err refusal) = tt

-- ---- INSERT

apply-put_over : (rule : Rule) (rows : List TableRow) (row : TableRow) → has_id rows row.id ≡ true → IfOk (put_over rule row) (ApplyInTurn rows)
apply-put_over Replace rows row there = ((there, gone rows row.id), tt)
apply-put_over Abort rows row there = tt
apply-put_over Ignore rows row there = tt

apply-put_row : (rule : Rule) (rows : List TableRow) (row : TableRow) → IfOk (put_row rule rows row) (ApplyInTurn rows)
apply-put_row rule rows row =
    of_choice (ApplyInTurn rows) (has_id rows row.id) (put_over rule row) (if nat_le 1048576 (length rows) then Err TableFull else Ok (Comes row ∷ []))
    (λ there. apply-put_over rule rows row there)
    (λ new. of_choice (ApplyInTurn rows) (nat_le 1048576 (length rows)) (Err TableFull) (Ok (Comes row ∷ [])) (λ full. tt) (λ room. ((new, leb-false 1048576 (length rows) room), tt)))

apply-unless_ignored : (rule : Rule) (rows : List TableRow) (steps : Steps) → IfOk steps (ApplyInTurn rows) → IfOk (unless_ignored rule steps) (ApplyInTurn rows)
apply-unless_ignored Abort rows (Ok steps) apply = apply
apply-unless_ignored Abort rows (Err refusal) apply = tt
apply-unless_ignored Replace rows (Ok steps) apply = apply
apply-unless_ignored Replace rows (Err refusal) apply = tt
apply-unless_ignored Ignore rows (Ok steps) apply = apply
apply-unless_ignored Ignore rows (Err IdAlreadyTaken) apply = tt
apply-unless_ignored Ignore rows (Err MinimumAboveMaximum) apply = tt
apply-unless_ignored Ignore rows (Err _) apply = tt

apply-put : (axes : ℕ) (rule : Rule) (rows : List TableRow) (values : List Value) → IfOk (put axes rule rows values) (ApplyInTurn rows)
apply-put axes rule rows values =
    let made : Result TableRow Refusal = row_from axes (id_or_new rows (given_id values)) values in
    apply-unless_ignored rule rows (and_then made (put_row rule rows))
    (of_next Always (ApplyInTurn rows) made (put_row rule rows) (always made) (λ row of. apply-put_row rule rows row))

apply-put_all : (axes : ℕ) (rule : Rule) (rows : List TableRow) (lists : List (List Value)) → IfOk (put_all axes rule rows lists) (ApplyInTurn rows)
apply-put_all axes rule rows [] = tt
apply-put_all axes rule rows (values ∷ lists) =
    of_next (ApplyInTurn rows) (ApplyInTurn rows) (put axes rule rows values) (λ steps. steps_and steps (put_all axes rule (outcome rows steps) lists)) (apply-put axes rule rows values)
    (λ steps apply. of_next (ApplyInTurn (outcome rows steps)) (ApplyInTurn rows) (put_all axes rule (outcome rows steps) lists) (λ more. Ok (steps ++ more)) (apply-put_all axes rule (outcome rows steps) lists)
    (λ more later. apply_both rows steps more apply later))

apply-insert : (columns : Columns) (rows : List TableRow) (rule : Rule) (listed : Option (List (List ℕ))) (lists : List (List Value)) → IfOk (insert columns rows rule listed lists) (ApplyInTurn rows)
apply-insert columns rows rule listed lists =
    let names = listed_columns columns listed in
    let steps : Steps = put_all columns.axes rule rows (map (column_values columns.names names) lists) in
    let long : Steps = if not (list_all (λ values. length values == length names) lists) then Err WrongNumberOfValues else steps in
    let known : Steps = if not (list_all (has_name columns.names) names) then Err NoSuchColumn else long in
    of_choice (ApplyInTurn rows) (not (are_distinct names)) (Err BadColumnList) known (λ wrong. tt)
    (λ right. of_choice (ApplyInTurn rows) (not (list_all (has_name columns.names) names)) (Err NoSuchColumn) long (λ wrong. tt)
    (λ right. of_choice (ApplyInTurn rows) (not (list_all (λ values. length values == length names) lists)) (Err WrongNumberOfValues) steps (λ wrong. tt)
    (λ right. apply-put_all columns.axes rule rows (map (column_values columns.names names) lists))))

-- ---- rows that are there, each under an id of its own

abbrev Apart : ℤ → List TableRow → Type 0
Apart id rows = AllByRecursion (λ r. int_eq id r.id ≡ false) rows

abbrev Stand : List TableRow → List TableRow → Type 0
Stand now [] = Unit {0}
Stand now (row ∷ rows) = (has_id now row.id ≡ true) × (Apart row.id rows × Stand now rows)

apart-filter : (p : TableRow → Bool) (id : ℤ) (rows : List TableRow) → Apart id rows → Apart id (filter p rows)
apart-filter p id [] apart = tt
apart-filter p id (row ∷ rows) apart =
    elim (p row) as (λ b. Apart id (cond b (row ∷ filter p rows) (filter p rows))) [
      | true ↦ (apart.0, apart-filter p id rows apart.1)
      | false ↦ apart-filter p id rows apart.1
    ]

stand-filter : (p : TableRow → Bool) (now rows : List TableRow) → Stand now rows → Stand now (filter p rows)
stand-filter p now [] stand = tt
stand-filter p now (row ∷ rows) stand =
    elim (p row) as (λ b. Stand now (cond b (row ∷ filter p rows) (filter p rows))) [
      | true ↦ (stand.0, (apart-filter p row.id rows stand.1.0, stand-filter p now rows stand.1.1))
      | false ↦ stand-filter p now rows stand.1.1
    ]

or_true : (b : Bool) → (b || true) ≡ true
or_true true = refl
or_true false = refl

-- one more row in front
stand-more : (first : TableRow) (now rows : List TableRow) → Stand now rows → Stand (first ∷ now) rows
stand-more first now [] stand = tt
stand-more first now (row ∷ rows) stand = (rw stand.0 (or_true (int_eq row.id first.id)), (stand.1.0, stand-more first now rows stand.1.1))

apart_below : (id : ℤ) (rows : List TableRow) → AllByRecursion (λ r. id <ℤ r.id) rows → Apart id rows
apart_below id [] below = tt
apart_below id (row ∷ rows) below = (eq_below id row.id below.0, apart_below id rows below.1)

stand : (rows : List TableRow) → Rises (λ r. r.id) rows → Stand rows rows
stand [] rise = tt
stand (row ∷ rows) rise = (rw (eq_same row.id) refl, (apart_below row.id rows rise.0, stand-more row rows rows (stand rows rise.1)))

-- the others still stand where each has another id than the one that goes
stand-without : (now rows : List TableRow) (id : ℤ) → Apart id rows → Stand now rows → Stand (without_id now id) rows
stand-without now [] id apart stand = tt
stand-without now (row ∷ rows) id apart stand =
    (has-without now id row.id ∙ rw (apart.0, stand.0) refl, (stand.1.0, stand-without now rows id apart.1 stand.1.1))

stand-with : (now rows : List TableRow) (new : TableRow) → Stand now rows → Stand (with_row now new) rows
stand-with now [] new stand = tt
stand-with now (row ∷ rows) new stand =
    (has-with now new row.id ∙ rw stand.0 (or_true (int_eq row.id new.id)), (stand.1.0, stand-with now rows new stand.1.1))

-- ---- DELETE

apply-leaves : (now rows : List TableRow) → Stand now rows → ApplyInTurn now (map (λ row. Leaves row.id) rows)
apply-leaves now [] stand = tt
apply-leaves now (row ∷ rows) stand = (stand.0, apply-leaves (without_id now row.id) rows (stand-without now rows row.id stand.1.0 stand.1.1))

apply-delete : (columns : Columns) (rows : List TableRow) (cond : List Test) → AreRising rows → IfOk (delete columns rows cond) (ApplyInTurn rows)
apply-delete columns rows cond rise =
    of_choice (ApplyInTurn rows) (not (has_columns columns cond)) (Err NoSuchColumn) (Ok (map (λ row. Leaves row.id) (picked columns cond rows))) (λ wrong. tt)
    (λ right. apply-leaves rows (picked columns cond rows) (stand-filter (holds columns cond) rows rows (stand rows (rises (λ r. r.id) rows rise))))

-- ---- UPDATE

-- the id of the new row is free once the old row is gone
free : (rows : List TableRow) (old new : ℤ) → (not (int_eq old new) && has_id rows new) ≡ false → has_id (without_id rows old) new ≡ false
free rows old new none = has-without rows old new ∙ none

abbrev StillStand : List TableRow → List TableRow → List Step → Type 0
StillStand now rows steps = ApplyInTurn now steps × Stand (outcome now steps) rows

apply-replace_row : (now rows : List TableRow) (row new : TableRow) → Stand now (row ∷ rows) → IfOk (replace_row now row.id new) (StillStand now rows)
apply-replace_row now rows row new stand =
    of_choice (StillStand now rows) (not (int_eq row.id new.id) && has_id now new.id) (Err IdAlreadyTaken) (Ok (Becomes row.id new ∷ [])) (λ taken. tt)
    (λ none. (((stand.0, free now row.id new.id none), tt), stand-with (without_id now row.id) rows new (stand-without now rows row.id stand.1.0 stand.1.1)))

apply-update_row : (columns : Columns) (now rows : List TableRow) (sets : List Setting) (row : TableRow) → Stand now (row ∷ rows) → IfOk (update_row columns now sets row) (StillStand now rows)
apply-update_row columns now rows sets row stand =
    let old = values_of row in
    let new = new_values columns.names old sets in
    let made : Result TableRow Refusal = row_from columns.axes (given_id new) new in
    let done : Steps = and_then made (replace_row now row.id) in
    let summed : Steps = if not (list_all (λ set. sum_fits columns.names old set.1) sets) then Err IntegerOutOfRange else done in
    let typed : Steps = if not (is_integer (id_value new) && list_all is_integer (coordinate_values columns.axes new)) then Err WrongType else summed in
    of_choice (StillStand now rows) (not (list_all (λ set. is_summable columns.names old set.1) sets)) (Err WrongType) typed (λ wrong. tt)
    (λ right. of_choice (StillStand now rows) (not (is_integer (id_value new) && list_all is_integer (coordinate_values columns.axes new))) (Err WrongType) summed (λ wrong. tt)
    (λ right. of_choice (StillStand now rows) (not (list_all (λ set. sum_fits columns.names old set.1) sets)) (Err IntegerOutOfRange) done (λ wrong. tt)
    (λ right. of_next Always (StillStand now rows) made (replace_row now row.id) (always made) (λ next of. apply-replace_row now rows row next stand))))

apply-update_all : (columns : Columns) (now : List TableRow) (sets : List Setting) (rows : List TableRow) → Stand now rows → IfOk (update_all columns now sets rows) (ApplyInTurn now)
apply-update_all columns now sets [] stand = tt
apply-update_all columns now sets (row ∷ rows) stand =
    of_next (StillStand now rows) (ApplyInTurn now) (update_row columns now sets row) (λ steps. steps_and steps (update_all columns (outcome now steps) sets rows))
    (apply-update_row columns now rows sets row stand)
    (λ steps still. of_next (ApplyInTurn (outcome now steps)) (ApplyInTurn now) (update_all columns (outcome now steps) sets rows) (λ more. Ok (steps ++ more))
    (apply-update_all columns (outcome now steps) sets rows still.1)
    (λ more later. apply_both now steps more still.0 later))

apply-update : (columns : Columns) (rows : List TableRow) (sets : List Setting) (cond : List Test) → AreRising rows → IfOk (update columns rows sets cond) (ApplyInTurn rows)
apply-update columns rows sets cond rise =
    let names = map (λ (set : Setting). set.0) sets in
    let known = list_all (has_name columns.names) names && list_all (λ (set : Setting). list_all (has_name columns.names) (columns_read set.1)) sets && has_columns columns cond in
    let steps : Steps = update_all columns rows sets (picked columns cond rows) in
    let listed : Steps = if not known then Err NoSuchColumn else steps in
    of_choice (ApplyInTurn rows) (not (are_distinct names)) (Err BadColumnList) listed (λ wrong. tt)
    (λ right. of_choice (ApplyInTurn rows) (not known) (Err NoSuchColumn) steps (λ wrong. tt)
    (λ right. apply-update_all columns rows sets (picked columns cond rows) (stand-filter (holds columns cond) rows rows (stand rows (rises (λ r. r.id) rows rise)))))

in_turn : (columns : Columns) (rows : List TableRow) → AreRising rows → (edit : Edit) → IfOk (steps_of edit columns rows) (ApplyInTurn rows)
in_turn columns rows rise (Insert rule listed lists) = apply-insert columns rows rule listed lists
in_turn columns rows rise (Update sets cond) = apply-update columns rows sets cond rise
in_turn columns rows rise (Delete cond) = apply-delete columns rows cond rise

-- ---- columns

abbrev Fit : Columns → List Step → Type 0
Fit columns steps = AllByRecursion (FitsColumns columns) steps

of_id_auxiliary : (id : Option ℤ) (box : List Interval) (auxiliary : List Value) → IfOk (row_of_id id box auxiliary) (λ row. row.auxiliary ≡ auxiliary)
of_id_auxiliary None box auxiliary = tt
of_id_auxiliary (Some id) box auxiliary = refl

row_auxiliary : (axes : ℕ) (id : Option ℤ) (values : List Value) → IfOk (row_from axes id values) (λ row. row.auxiliary ≡ drop (1 + 2 * axes) values)
row_auxiliary axes id values =
    let numbers = map number_in (coordinate_values axes values) in
    let made : Result TableRow Refusal = row_of_id id (box_of numbers) (drop (1 + 2 * axes) values) in
    let ordered : Result TableRow Refusal = if not (is_ordered (box_of numbers)) then Err MinimumAboveMaximum else made in
    let fitting : Result TableRow Refusal = if not (list_all (fits_bits 31) numbers) then Err IntegerOutOfRange else ordered in
    of_choice (λ (row : TableRow). row.auxiliary ≡ drop (1 + 2 * axes) values) (not (is_id (id_value values) && list_all is_integer (coordinate_values axes values))) (Err WrongType) fitting (λ wrong. tt)
    (λ right. of_choice (λ (row : TableRow). row.auxiliary ≡ drop (1 + 2 * axes) values) (not (list_all (fits_bits 31) numbers)) (Err IntegerOutOfRange) ordered (λ wrong. tt)
    (λ right. of_choice (λ (row : TableRow). row.auxiliary ≡ drop (1 + 2 * axes) values) (not (is_ordered (box_of numbers))) (Err MinimumAboveMaximum) made (λ wrong. tt)
    (λ right. of_id_auxiliary id (box_of numbers) (drop (1 + 2 * axes) values))))

fit_both : (columns : Columns) (steps more : List Step) → Fit columns steps → Fit columns more → Fit columns (steps ++ more)
fit_both columns [] more first later = later
fit_both columns (step ∷ steps) more first later = (first.0, fit_both columns steps more first.1 later)

module _ (columns : Columns) where
  abbrev auxiliary_long : List Value → Type 0
  auxiliary_long values = length values ≡ length (drop (1 + 2 * columns.axes) columns.names)

  -- as many values as columns, and so as many auxiliary ones as auxiliary columns
  row_fits : (id : Option ℤ) (values : List Value) → length values ≡ length columns.names → IfOk (row_from columns.axes id values) (λ row. auxiliary_long row.auxiliary)
  row_fits id values long =
      IfOk-weaker (row_from columns.axes id values) (λ (row : TableRow). row.auxiliary ≡ drop (1 + 2 * columns.axes) values) (λ (row : TableRow). auxiliary_long row.auxiliary)
      (λ row is. ap length is ∙ length-drop (1 + 2 * columns.axes) values ∙ ap (λ (n : ℕ). n - (1 + 2 * columns.axes)) long ∙ sym (length-drop (1 + 2 * columns.axes) columns.names))
      (row_auxiliary columns.axes id values)

  fit-put_over : (rule : Rule) (row : TableRow) → auxiliary_long row.auxiliary → IfOk (put_over rule row) (Fit columns)
  fit-put_over Replace row fits = (fits, tt)
  fit-put_over Abort row fits = tt
  fit-put_over Ignore row fits = tt

  fit-put_row : (rule : Rule) (rows : List TableRow) (row : TableRow) → auxiliary_long row.auxiliary → IfOk (put_row rule rows row) (Fit columns)
  fit-put_row rule rows row fits =
      of_choice (Fit columns) (has_id rows row.id) (put_over rule row) (if nat_le 1048576 (length rows) then Err TableFull else Ok (Comes row ∷ []))
      (λ there. fit-put_over rule row fits)
      (λ new. of_choice (Fit columns) (nat_le 1048576 (length rows)) (Err TableFull) (Ok (Comes row ∷ [])) (λ full. tt) (λ room. (fits, tt)))

  fit-unless_ignored : (rule : Rule) (steps : Steps) → IfOk steps (Fit columns) → IfOk (unless_ignored rule steps) (Fit columns)
  fit-unless_ignored Abort (Ok steps) fit = fit
  fit-unless_ignored Abort (Err refusal) fit = tt
  fit-unless_ignored Replace (Ok steps) fit = fit
  fit-unless_ignored Replace (Err refusal) fit = tt
  fit-unless_ignored Ignore (Ok steps) fit = fit
  fit-unless_ignored Ignore (Err IdAlreadyTaken) fit = tt
  fit-unless_ignored Ignore (Err MinimumAboveMaximum) fit = tt
  fit-unless_ignored Ignore (Err _) fit = tt

  fit-put : (rule : Rule) (rows : List TableRow) (values : List Value) → length values ≡ length columns.names → IfOk (put columns.axes rule rows values) (Fit columns)
  fit-put rule rows values long =
      let id = id_or_new rows (given_id values) in
      fit-unless_ignored rule (and_then (row_from columns.axes id values) (put_row rule rows))
      (of_next (λ (row : TableRow). auxiliary_long row.auxiliary) (Fit columns) (row_from columns.axes id values) (put_row rule rows) (row_fits id values long)
      (λ row fits. fit-put_row rule rows row fits))

  fit-put_all : (rule : Rule) (rows : List TableRow) (lists : List (List Value)) → AllByRecursion (λ (values : List Value). length values ≡ length columns.names) lists
      → IfOk (put_all columns.axes rule rows lists) (Fit columns)
  fit-put_all rule rows [] long = tt
  fit-put_all rule rows (values ∷ lists) long =
      of_next (Fit columns) (Fit columns) (put columns.axes rule rows values) (λ steps. steps_and steps (put_all columns.axes rule (outcome rows steps) lists)) (fit-put rule rows values long.0)
      (λ steps fit. of_next (Fit columns) (Fit columns) (put_all columns.axes rule (outcome rows steps) lists) (λ more. Ok (steps ++ more)) (fit-put_all rule (outcome rows steps) lists long.1)
      (λ more later. fit_both columns steps more fit later))

  arranged_long : (names : List (List ℕ)) (lists : List (List Value)) → AllByRecursion (λ (values : List Value). length values ≡ length columns.names) (map (column_values columns.names names) lists)
  arranged_long names [] = tt
  arranged_long names (values ∷ lists) = (length-map _ _, arranged_long names lists)

  fit-insert : (rows : List TableRow) (rule : Rule) (listed : Option (List (List ℕ))) (lists : List (List Value)) → IfOk (insert columns rows rule listed lists) (Fit columns)
  fit-insert rows rule listed lists =
      let names = listed_columns columns listed in
      let steps : Steps = put_all columns.axes rule rows (map (column_values columns.names names) lists) in
      let long : Steps = if not (list_all (λ values. length values == length names) lists) then Err WrongNumberOfValues else steps in
      let known : Steps = if not (list_all (has_name columns.names) names) then Err NoSuchColumn else long in
      of_choice (Fit columns) (not (are_distinct names)) (Err BadColumnList) known (λ wrong. tt)
      (λ right. of_choice (Fit columns) (not (list_all (has_name columns.names) names)) (Err NoSuchColumn) long (λ wrong. tt)
      (λ right. of_choice (Fit columns) (not (list_all (λ values. length values == length names) lists)) (Err WrongNumberOfValues) steps (λ wrong. tt)
      (λ right. fit-put_all rule rows (map (column_values columns.names names) lists) (arranged_long names lists))))

  fit-leaves : (rows : List TableRow) → Fit columns (map (λ row. Leaves row.id) rows)
  fit-leaves [] = tt
  fit-leaves (row ∷ rows) = (tt, fit-leaves rows)

  fit-replace_row : (now : List TableRow) (old : ℤ) (row : TableRow) → auxiliary_long row.auxiliary → IfOk (replace_row now old row) (Fit columns)
  fit-replace_row now old row fits =
      of_choice (Fit columns) (not (int_eq old row.id) && has_id now row.id) (Err IdAlreadyTaken) (Ok (Becomes old row ∷ [])) (λ taken. tt) (λ none. (fits, tt))

  fit-update_row : (now : List TableRow) (sets : List Setting) (row : TableRow) → IfOk (update_row columns now sets row) (Fit columns)
  fit-update_row now sets row =
      let old = values_of row in
      let new = new_values columns.names old sets in
      let made : Result TableRow Refusal = row_from columns.axes (given_id new) new in
      let done : Steps = and_then made (replace_row now row.id) in
      let summed : Steps = if not (list_all (λ set. sum_fits columns.names old set.1) sets) then Err IntegerOutOfRange else done in
      let typed : Steps = if not (is_integer (id_value new) && list_all is_integer (coordinate_values columns.axes new)) then Err WrongType else summed in
      of_choice (Fit columns) (not (list_all (λ set. is_summable columns.names old set.1) sets)) (Err WrongType) typed (λ wrong. tt)
      (λ right. of_choice (Fit columns) (not (is_integer (id_value new) && list_all is_integer (coordinate_values columns.axes new))) (Err WrongType) summed (λ wrong. tt)
      (λ right. of_choice (Fit columns) (not (list_all (λ set. sum_fits columns.names old set.1) sets)) (Err IntegerOutOfRange) done (λ wrong. tt)
      (λ right. of_next (λ (next : TableRow). auxiliary_long next.auxiliary) (Fit columns) made (replace_row now row.id) (row_fits (given_id new) new (length-map _ _))
      (λ next fits. fit-replace_row now row.id next fits))))

  fit-update_all : (now : List TableRow) (sets : List Setting) (rows : List TableRow) → IfOk (update_all columns now sets rows) (Fit columns)
  fit-update_all now sets [] = tt
  fit-update_all now sets (row ∷ rows) =
      of_next (Fit columns) (Fit columns) (update_row columns now sets row) (λ steps. steps_and steps (update_all columns (outcome now steps) sets rows)) (fit-update_row now sets row)
      (λ steps fit. of_next (Fit columns) (Fit columns) (update_all columns (outcome now steps) sets rows) (λ more. Ok (steps ++ more)) (fit-update_all (outcome now steps) sets rows)
      (λ more later. fit_both columns steps more fit later))

  fit-update : (rows : List TableRow) (sets : List Setting) (cond : List Test) → IfOk (update columns rows sets cond) (Fit columns)
  fit-update rows sets cond =
      let names = map (λ (set : Setting). set.0) sets in
      let known = list_all (has_name columns.names) names && list_all (λ (set : Setting). list_all (has_name columns.names) (columns_read set.1)) sets && has_columns columns cond in
      let steps : Steps = update_all columns rows sets (picked columns cond rows) in
      let listed : Steps = if not known then Err NoSuchColumn else steps in
      of_choice (Fit columns) (not (are_distinct names)) (Err BadColumnList) listed (λ wrong. tt)
      (λ right. of_choice (Fit columns) (not known) (Err NoSuchColumn) steps (λ wrong. tt)
      (λ right. fit-update_all rows sets (picked columns cond rows)))

  fit : (rows : List TableRow) (edit : Edit) → IfOk (steps_of edit columns rows) (Fit columns)
  fit rows (Insert rule listed lists) = fit-insert rows rule listed lists
  fit rows (Update sets cond) = fit-update rows sets cond
  fit rows (Delete cond) = of_choice (Fit columns) (not (has_columns columns cond)) (Err NoSuchColumn) (Ok (map (λ row. Leaves row.id) (picked columns cond rows))) (λ wrong. tt)
      (λ right. fit-leaves (picked columns cond rows))

both_ok : {A : Type 0} (P Q R : A → Type 0) (r : Result A Refusal) → ((a : A) → P a → Q a → R a) → IfOk r P → IfOk r Q → IfOk r R
both_ok P Q R (Ok a) next p q = next a p q
both_ok P Q R (Err refusal) next p q = tt

pub steps_apply : StepsApply
steps_apply columns rows rise edit =
    both_ok (ApplyInTurn rows) (Fit columns) (ApplyTo columns rows) (steps_of edit columns rows)
    (λ steps apply fits. (apply, All-from_recursion (FitsColumns columns) steps fits)) (in_turn columns rows rise edit) (fit columns rows edit)
