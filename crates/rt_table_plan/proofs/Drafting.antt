-- A plan grows by one step: the ids that have rows, and the steps that are left.
use Rattle.std.proofs.Common.{◌≡◌, if◌then◌else◌, ◌&&◌, filter, ℕ, ◌+◌, ◌<◌, ℤ, Bool, true, false, cond, not, List, [], ◌∷◌, ◌++◌, append_assoc, append-nil, map, length, get_or, drop, Option, Some, None, Result, Ok, Err, ◌⊎◌, inl, inr, ⊎_elim, refl, sym, ap, subst, ◌∙◌}
use Rattle.std.specs.List.{list_all, filter_map}
use Rattle.std.specs.Option.{is_some, option_map_or}
use Rattle.std.specs.Ordering.{int_eq}
use Rattle.std.proofs.lemmas.List.{at_drop_more}
use Rattle.rt_sql_statement.specs.declared.refusal.Refusal.{Refusal}
use Rattle.rt_sql_statement.specs.declared.refusal.Refusal.TheVariants.{WrongType, IntegerOutOfRange, OutOfMemory}
use Rattle.rt_sql_statement.specs.declared.value.Value.{Value}
use Rattle.rt_sql_statement.specs.declared.statement.Test.{Test}
use Rattle.rt_tree_walk.specs.declared.searching.Row.{Row}
use Rattle.rt_table_row.specs.Columns.{Columns}
use Rattle.rt_table_row.specs.Conditions.{holds}
use Rattle.rt_table_row.specs.Filters.{Placed, admits, IsFilterOf}
use Rattle.rt_table_row.specs.Rows.{TableRow, AreRising, values_of, row_at, has_id, with_row, without_id}
use Rattle.rt_table_row.specs.NewRows.{is_integer, id_value, given_id, coordinate_values, row_from}
use Rattle.rt_table_row.specs.Edits.{Setting, Step, Steps, new_values, is_summable, sum_fits, replace_row, update_row, update_all, update, Leaves, Comes, Becomes, after_step, outcome, and_then, steps_and}
use Rattle.rt_table_row.specs.Settings.{ColumnReadings, reads_integer, reading_fits, IsSettingsOf}
use Rattle.rt_table_store.proofs.Order.{eq_same, eq_from}
use Rattle.rt_table_store.specs.Trees.{leaf_row}
use Rattle.rt_table_store.proofs.Sorted.{at_key-taken, at_key-placed}
use Rattle.rt_table_store.proofs.Standing.{found_up}
use Rattle.rt_table_store.proofs.Moved.{has-row}
use Rattle.rt_table_plan.specs.Drafts.{Knows, touched_by, row_of, set_row, set_all}
use Rattle.rt_table_plan.specs.Plans.{Plans}
use Rattle.rt_table_plan.proofs.Ids.{filter_same}

-- ---- which ids have rows

abbrev id_of : TableRow → ℤ
id_of r = r.id

eq_turned : (a b : ℤ) (x y : Bool) → int_eq a b ≡ x → int_eq b a ≡ y → x ≡ y
eq_turned a b true true e f = refl
eq_turned a b false false e f = refl
eq_turned a b true false e f =
    let same : a ≡ b = eq_from a b e in
    let here : int_eq b a ≡ true = subst (λ (z : ℤ). int_eq b z ≡ true) (sym same) (eq_same b) in
    sym here ∙ f
eq_turned a b false true e f =
    let same : b ≡ a = eq_from b a f in
    let here : int_eq a b ≡ true = subst (λ (z : ℤ). int_eq a z ≡ true) (sym same) (eq_same a) in
    sym e ∙ here

pub eq_sym : (a b : ℤ) → int_eq a b ≡ int_eq b a
eq_sym a b = eq_turned a b (int_eq a b) (int_eq b a) refl refl

some_kept : {X : Type 0} (b : Bool) (o : Option X) → is_some (cond (not b) o None) ≡ cond b false (is_some o)
some_kept true o = refl
some_kept false o = refl

some_placed : {X : Type 0} (b : Bool) (x : X) (o : Option X) → is_some (cond b (Some x) o) ≡ cond b true (is_some o)
some_placed true x o = refl
some_placed false x o = refl

pub has_taken : (rows : List TableRow) (old id : ℤ) → has_id (without_id rows old) id ≡ cond (int_eq old id) false (has_id rows id)
has_taken rows old id =
    has-row (without_id rows old) id ∙ ap is_some (at_key-taken id_of rows old id)
    ∙ some_kept (int_eq old id) (row_at rows id) ∙ ap (cond (int_eq old id) false) (sym (has-row rows id))

pub has_placed : (rows : List TableRow) (row : TableRow) (id : ℤ) → has_id (with_row rows row) id ≡ cond (int_eq row.id id) true (has_id rows id)
has_placed rows row id =
    has-row (with_row rows row) id ∙ ap is_some (at_key-placed id_of rows row id)
    ∙ some_placed (int_eq id row.id) row (row_at rows id) ∙ ap (λ (b : Bool). cond b true (is_some (row_at rows id))) (eq_sym id row.id)
    ∙ ap (cond (int_eq row.id id) true) (sym (has-row rows id))

there_or : (b x h : Bool) (t : Option Bool) → option_map_or (λ (there : Bool). there) (cond b (Some x) t) h ≡ cond b x (option_map_or (λ (there : Bool). there) t h)
there_or true x h t = refl
there_or false x h t = refl

after_there : (rows : List TableRow) (touched : ℤ → Option Bool) (now : List TableRow) (step : Step) (id : ℤ) → Knows rows touched now →
    has_id (after_step now step) id ≡ option_map_or (λ (there : Bool). there) (touched_by touched step id) (has_id rows id)
after_there rows touched now (Leaves old) id knows =
    has_taken now old id ∙ ap (cond (int_eq old id) false) (knows id) ∙ sym (there_or (int_eq old id) false (has_id rows id) (touched id))
after_there rows touched now (Comes row) id knows =
    has_placed now row id ∙ ap (cond (int_eq row.id id) true) (knows id) ∙ sym (there_or (int_eq row.id id) true (has_id rows id) (touched id))
after_there rows touched now (Becomes old row) id knows =
    has_placed (without_id now old) row id
    ∙ ap (cond (int_eq row.id id) true) (has_taken now old id ∙ ap (cond (int_eq old id) false) (knows id) ∙ sym (there_or (int_eq old id) false (has_id rows id) (touched id)))
    ∙ sym (there_or (int_eq row.id id) true (has_id rows id) (cond (int_eq old id) (Some false) (touched id)))

-- ---- the steps so far, and what is left

pub outcome-append : (rows : List TableRow) (a b : List Step) → outcome rows (a ++ b) ≡ outcome (outcome rows a) b
outcome-append rows [] b = refl
outcome-append rows (s ∷ a) b = outcome-append (after_step rows s) a b

pub steps_and-append : (a b : List Step) (later : Steps) → steps_and (a ++ b) later ≡ steps_and a (steps_and b later)
steps_and-append a b (Ok more) = ap (λ (l : List Step). let r : Steps = Ok l in r) (append_assoc a b more)
steps_and-append a b (Err refusal) = refl

-- if no step was made, what is known is what was there
pub knows_none : (rows : List TableRow) (touched : ℤ → Option Bool) → ((id : ℤ) → touched id ≡ None) → Knows rows touched rows
knows_none rows touched none = λ id. sym (ap (λ (t : Option Bool). option_map_or (λ (there : Bool). there) t (has_id rows id)) (none id))

-- what is known after one step more
pub knows_more : (rows : List TableRow) (touched more : ℤ → Option Bool) (done next : List Step) (step : Step) → Knows rows touched (outcome rows done) →
    next ≡ done ++ step ∷ [] → ((id : ℤ) → more id ≡ touched_by touched step id) → Knows rows more (outcome rows next)
knows_more rows touched more done next step knows is each = λ id.
    ap (λ (steps : List Step). has_id (outcome rows steps) id) is
    ∙ ap (λ (r : List TableRow). has_id r id) (outcome-append rows done (step ∷ []))
    ∙ after_there rows touched (outcome rows done) step id knows
    ∙ sym (ap (λ (t : Option Bool). option_map_or (λ (there : Bool). there) t (has_id rows id)) (each id))

steps_and-none : (steps : Steps) → steps_and [] steps ≡ steps
steps_and-none (Ok steps) = refl
steps_and-none (Err refusal) = refl

-- before the first step
pub begun : (whole : List TableRow → Steps) (rows : List TableRow) (done : List Step) → done ≡ [] → whole rows ≡ steps_and done (whole (outcome rows done))
begun whole rows done none = subst (λ (steps : List Step). whole rows ≡ steps_and steps (whole (outcome rows steps))) (sym none) (sym (steps_and-none (whole rows)))

pub knows_begun : (rows : List TableRow) (touched : ℤ → Option Bool) (done : List Step) → ((id : ℤ) → touched id ≡ None) → done ≡ [] → Knows rows touched (outcome rows done)
knows_begun rows touched done untouched none = subst (λ (steps : List Step). Knows rows touched (outcome rows steps)) (sym none) (knows_none rows touched untouched)

-- ---- UPDATE

pub left_some : {X Y : Type 0} (f : X → Option Y) (found : List X) (i : ℕ) (d : X) (y : Y) → i < length found → f (get_or found i d) ≡ Some y →
    filter_map f (drop i found) ≡ y ∷ filter_map f (drop (i + 1) found)
left_some f found i d y h e =
    let first : filter_map f (get_or found i d ∷ drop (i + 1) found) ≡ y ∷ filter_map f (drop (i + 1) found) = rw e in
    at_drop_more (filter_map f) found i d h ∙ first

-- a step more
pub set_more : (axes : ℕ) (sets : ColumnReadings) (rows : List TableRow) (whole : Steps) (done next : List Step) (step : Step) (row : TableRow) (left later : List TableRow) →
    whole ≡ steps_and done (set_all axes sets (outcome rows done) left) → left ≡ row ∷ later → set_row axes sets (outcome rows done) row ≡ Ok (step ∷ []) →
    next ≡ done ++ step ∷ [] → whole ≡ steps_and next (set_all axes sets (outcome rows next) later)
set_more axes sets rows whole done next step row left later is more one grown =
    is ∙ ap (λ (l : List TableRow). steps_and done (set_all axes sets (outcome rows done) l)) more
    ∙ ap (λ (s : Steps). steps_and done (and_then s (λ steps. steps_and steps (set_all axes sets (outcome (outcome rows done) steps) later)))) one
    ∙ sym (steps_and-append done (step ∷ []) (set_all axes sets (outcome (outcome rows done) (step ∷ [])) later))
    ∙ ap (λ (r : List TableRow). steps_and (done ++ step ∷ []) (set_all axes sets r later)) (sym (outcome-append rows done (step ∷ [])))
    ∙ ap (λ (l : List Step). steps_and l (set_all axes sets (outcome rows l) later)) (sym grown)

-- a row that refuses the whole
pub set_refused : (axes : ℕ) (sets : ColumnReadings) (rows : List TableRow) (whole : Steps) (done : List Step) (refusal : Refusal) (row : TableRow) (left later : List TableRow) →
    whole ≡ steps_and done (set_all axes sets (outcome rows done) left) → left ≡ row ∷ later →
    (set_row axes sets (outcome rows done) row ≡ Err refusal) ⊎ (refusal ≡ OutOfMemory) → (whole ≡ Err refusal) ⊎ (refusal ≡ OutOfMemory)
set_refused axes sets rows whole done refusal row left later is more (inl one) =
    inl (is ∙ ap (λ (l : List TableRow). steps_and done (set_all axes sets (outcome rows done) l)) more
    ∙ ap (λ (s : Steps). steps_and done (and_then s (λ steps. steps_and steps (set_all axes sets (outcome (outcome rows done) steps) later)))) one)
set_refused axes sets rows whole done refusal row left later is more (inr memory) = inr memory

pub set_all_done : (axes : ℕ) (sets : ColumnReadings) (rows : List TableRow) (whole : Steps) (done : List Step) (left : List TableRow) →
    whole ≡ steps_and done (set_all axes sets (outcome rows done) left) → left ≡ [] → whole ≡ Ok done
set_all_done axes sets rows whole done left is none =
    is ∙ ap (λ (l : List TableRow). steps_and done (set_all axes sets (outcome rows done) l)) none
    ∙ ap (λ (l : List Step). let r : Steps = Ok l in r) (append-nil done)

-- a single row
pub set_one : (axes : ℕ) (sets : ColumnReadings) (rows found : List TableRow) (row : TableRow) (step : Step) → found ≡ row ∷ [] → set_row axes sets rows row ≡ Ok (step ∷ []) →
    set_all axes sets rows found ≡ Ok (step ∷ [])
set_one axes sets rows found row step is one = rw (is, one) refl

pub set_one_refused : (axes : ℕ) (sets : ColumnReadings) (rows found : List TableRow) (row : TableRow) (refusal : Refusal) → found ≡ row ∷ [] →
    (set_row axes sets rows row ≡ Err refusal) ⊎ (refusal ≡ OutOfMemory) → (set_all axes sets rows found ≡ Err refusal) ⊎ (refusal ≡ OutOfMemory)
set_one_refused axes sets rows found row refusal is (inl one) = inl (rw (is, one) refl)
set_one_refused axes sets rows found row refusal is (inr memory) = inr memory

-- the same by names
then_after : {A B : Type 0} (a b c : Bool) (e f g : Refusal) (x : Result A Refusal) (next : A → Result B Refusal) →
    and_then (cond (not a) (Err e) (cond (not b) (Err f) (cond (not c) (Err g) x))) next
    ≡ cond (not a) (Err e) (cond (not b) (Err f) (cond (not c) (Err g) (and_then x next)))
then_after true true true e f g x next = refl
then_after true true false e f g x next = refl
then_after true false c e f g x next = refl
then_after false b c e f g x next = refl

row_same : (columns : Columns) (sets : List Setting) (found : ColumnReadings) (now : List TableRow) (row : TableRow) → IsSettingsOf columns sets found →
    set_row columns.axes found now row ≡ update_row columns now sets row
row_same columns sets found now row is =
    let old = values_of row in
    let new = new_values columns.names old sets in
    let next : TableRow → Steps = replace_row now row.id in
    ap (λ (v : List Value). and_then (if not (list_all (reads_integer old) found.readings) then Err WrongType
    else (if not (is_integer (id_value v) && list_all is_integer (coordinate_values columns.axes v)) then Err WrongType
    else (if not (list_all (reading_fits old) found.readings) then Err IntegerOutOfRange else row_from columns.axes (given_id v) v))) next) (is.same old)
    ∙ ap (λ (b : Bool). and_then (if not b then Err WrongType
    else (if not (is_integer (id_value new) && list_all is_integer (coordinate_values columns.axes new)) then Err WrongType
    else (if not (list_all (reading_fits old) found.readings) then Err IntegerOutOfRange else row_from columns.axes (given_id new) new))) next) (is.summable old)
    ∙ ap (λ (b : Bool). and_then (if not (list_all (λ (set : Setting). is_summable columns.names old set.1) sets) then Err WrongType
    else (if not (is_integer (id_value new) && list_all is_integer (coordinate_values columns.axes new)) then Err WrongType
    else (if not b then Err IntegerOutOfRange else row_from columns.axes (given_id new) new))) next) (is.fits old)
    ∙ then_after (list_all (λ (set : Setting). is_summable columns.names old set.1) sets) (is_integer (id_value new) && list_all is_integer (coordinate_values columns.axes new))
    (list_all (λ (set : Setting). sum_fits columns.names old set.1) sets) WrongType WrongType IntegerOutOfRange (row_from columns.axes (given_id new) new) next

later_same : (first : Steps) (f g : List Step → Steps) → ((steps : List Step) → f steps ≡ g steps) → and_then first f ≡ and_then first g
later_same (Ok steps) f g same = same steps
later_same (Err refusal) f g same = refl

pub all_same : (columns : Columns) (sets : List Setting) (found : ColumnReadings) (now : List TableRow) (rows : List TableRow) → IsSettingsOf columns sets found →
    set_all columns.axes found now rows ≡ update_all columns now sets rows
all_same columns sets found now [] is = refl
all_same columns sets found now (row ∷ rows) is =
    ap (λ (s : Steps). and_then s (λ steps. steps_and steps (set_all columns.axes found (outcome now steps) rows))) (row_same columns sets found now row is)
    ∙ later_same (update_row columns now sets row) (λ steps. steps_and steps (set_all columns.axes found (outcome now steps) rows)) (λ steps. steps_and steps (update_all columns (outcome now steps) sets rows))
    (λ steps. ap (steps_and steps) (all_same columns sets found (outcome now steps) rows is))

-- what an UPDATE does, when its columns are known
module _ (D : ℕ) where
  pub updates : (columns : Columns) (rows : List TableRow) (sets : List Setting) (found : ColumnReadings) (cond : List Test) (placed : Placed) (picked : List (Row D)) → AreRising rows →
      IsSettingsOf columns sets found → IsFilterOf columns cond placed → picked ≡ map leaf_row (filter (admits placed) rows) →
      set_all columns.axes found rows (filter_map (row_of rows) picked) ≡ update columns rows sets cond
  updates columns rows sets found cond placed picked rising set picks picked_are =
      ap (λ (l : List TableRow). set_all columns.axes found rows l)
      (found_up D (admits placed) rows picked rising picked_are ∙ filter_same (admits placed) (holds columns cond) rows picks.same)
      ∙ all_same columns sets found rows (filter (holds columns cond) rows) set
      ∙ sym (rw (set.distinct, set.known, picks.known))

  pub updates_on : (columns : Columns) (rows : List TableRow) (sets : List Setting) (found : ColumnReadings) (cond : List Test) (placed : Placed) (picked : List (Row D)) →
      columns.axes ≡ D → AreRising rows → IsSettingsOf columns sets found → IsFilterOf columns cond placed → picked ≡ map leaf_row (filter (admits placed) rows) →
      set_all D found rows (filter_map (row_of rows) picked) ≡ update columns rows sets cond
  updates_on columns rows sets found cond placed picked same rising set picks picked_are =
      ap (λ (n : ℕ). set_all n found rows (filter_map (row_of rows) picked)) (sym same) ∙ updates columns rows sets found cond placed picked rising set picks picked_are

-- ---- what a plan answers, if the same steps were planned by looked-up columns

pub plans_refused : (wanted other : Steps) (refusal given : Refusal) (result : Result (List Step) Refusal) → result ≡ Err given → given ≡ refusal → other ≡ wanted →
    (other ≡ Err refusal) ⊎ (refusal ≡ OutOfMemory) → Plans wanted result
plans_refused wanted other refusal given result is same known why =
    rw (is, same) (⊎_elim (λ (e : other ≡ Err refusal). inl (sym known ∙ e)) (λ (e : refusal ≡ OutOfMemory). inr e) why)

pub plans_made : (wanted other : Steps) (steps made : List Step) → other ≡ wanted → other ≡ Ok steps → made ≡ steps → wanted ≡ Ok made
plans_made wanted other steps made known is same = sym known ∙ is ∙ ap (λ (l : List Step). let r : Steps = Ok l in r) (sym same)
