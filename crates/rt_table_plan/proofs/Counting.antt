-- The largest id and the number of the rows, after a step of an INSERT.
use Rattle.std.proofs.Common.{◌≡◌, ℕ, suc, ◌+◌, ◌-◌, ◌<ℤ◌, ℤ, Bool, true, false, cond, not, List, [], ◌∷◌, ◌++◌, ◌||◌, map, filter, length, Option, Some, None, inl, inr, refl, sym, ap, subst, ◌∙◌, arith}
use Rattle.std.specs.Prelude.{int_lt, slice_get}
use Rattle.std.specs.List.{AllByRecursion}
use Rattle.std.specs.Option.{option_map}
use Rattle.std.specs.Ordering.{int_eq}
use Rattle.std.proofs.lemmas.List.{length-append, length-map}
use Rattle.std.proofs.lemmas.Option.{slice_get-map}
use Rattle.rt_table_row.specs.Rows.{TableRow, has_id, with_row, without_id, largest_id}
use Rattle.rt_table_row.specs.Edits.{Step, Leaves, Comes, Becomes, after_step, most_rows, id_or_new}
use Rattle.rt_table_store.proofs.Order.{lt_from, lt_true, lt_above, lt_same, lt_trans, three_ways, eq_same, eq_below, eq_above}
use Rattle.rt_table_store.proofs.Sorted.{Rises, rises, rising, rises-placed, rises-taken}
use Rattle.rt_table_plan.specs.Counts.{Counts, Inserts, larger, largest_after, room_after, id_after, id_or_after}

abbrev id_of : TableRow → ℤ
id_of r = r.id

-- ---- how many rows

split_length : (b c : Bool) (x : TableRow) (below above rows : List TableRow) → not b ≡ c → length below + length above ≡ length rows →
    length (cond b (x ∷ below) below) + length (cond c (x ∷ above) above) ≡ suc (length rows)
split_length true false x below above rows e h = omega arith
split_length true true x below above rows e h = cc
split_length false true x below above rows e h = omega arith
split_length false false x below above rows e h = cc

or_false_left : (a b : Bool) → (a || b) ≡ false → a ≡ false
or_false_left true b e = cc
or_false_left false b e = refl

or_false_right : (a b : Bool) → (a || b) ≡ false → b ≡ false
or_false_right true b e = cc
or_false_right false b e = e

one_side : (k q : ℤ) → int_eq k q ≡ false → not (int_lt q k) ≡ int_lt k q
one_side k q other =
    elim (three_ways k q) as (λ w. not (int_lt q k) ≡ int_lt k q) [
      | inl below ↦ rw (lt_true k q below, lt_above q k below)
      | inr (inl same) ↦ absurd (let here : int_eq k q ≡ true = subst (λ (z : ℤ). int_eq k z ≡ true) same (eq_same k) in let off : true ≡ false = sym here ∙ other in cc)
      | inr (inr above) ↦ rw (lt_true q k above, lt_above k q above)
    ]

parts_length : (rows : List TableRow) (k : ℤ) → has_id rows k ≡ false →
    length (filter (λ (r : TableRow). int_lt r.id k) rows) + length (filter (λ (r : TableRow). int_lt k r.id) rows) ≡ length rows
parts_length [] k absent = refl
parts_length (r ∷ rows) k absent =
    split_length (int_lt r.id k) (int_lt k r.id) r (filter (λ (s : TableRow). int_lt s.id k) rows) (filter (λ (s : TableRow). int_lt k s.id) rows) rows
    (one_side k r.id (or_false_left (int_eq k r.id) (has_id rows k) absent)) (parts_length rows k (or_false_right (int_eq k r.id) (has_id rows k) absent))

pub length_placed : (rows : List TableRow) (row : TableRow) → has_id rows row.id ≡ false → length (with_row rows row) ≡ suc (length rows)
length_placed rows row absent =
    length-append (filter (λ (r : TableRow). int_lt r.id row.id) rows) (row ∷ filter (λ (r : TableRow). int_lt row.id r.id) rows)
    ∙ (let parts = parts_length rows row.id absent in omega arith)

-- ---- the largest id

abbrev last_or : ℤ → List TableRow → ℤ
last_or d [] = d
last_or d (r ∷ rows) = last_or r.id rows

last_of : (d : TableRow) (rows : List TableRow) → option_map id_of (slice_get (d ∷ rows) (length rows)) ≡ Some (last_or d.id rows)
last_of d [] = refl
last_of d (r ∷ rows) = last_of r rows

pub largest_of : (d : TableRow) (rows : List TableRow) → largest_id (d ∷ rows) ≡ Some (last_or d.id rows)
largest_of d rows =
    let at : length (d ∷ rows) - 1 ≡ length rows = omega arith in
    ap (λ (k : ℕ). option_map id_of (slice_get (d ∷ rows) k)) at ∙ last_of d rows

last_behind : (before : List TableRow) (row : TableRow) (d : ℤ) (rows : List TableRow) → last_or d (before ++ row ∷ rows) ≡ last_or row.id rows
last_behind [] row d rows = refl
last_behind (r ∷ before) row d rows = last_behind before row r.id rows

largest_behind : (before : List TableRow) (row : TableRow) (rows : List TableRow) → largest_id (before ++ row ∷ rows) ≡ Some (last_or row.id rows)
largest_behind [] row rows = largest_of row rows
largest_behind (r ∷ before) row rows = largest_of r (before ++ row ∷ rows) ∙ ap (λ (z : ℤ). let o : Option ℤ = Some z in o) (last_behind before row r.id rows)

above_last : (k d : ℤ) (rows : List TableRow) → k <ℤ d → AllByRecursion (λ (r : TableRow). k <ℤ r.id) rows → k <ℤ last_or d rows
above_last k d [] h all = h
above_last k d (r ∷ rows) h all = above_last k r.id rows all.0 all.1

all_above : (k q : ℤ) (rows : List TableRow) → k <ℤ q → AllByRecursion (λ (r : TableRow). q <ℤ r.id) rows → AllByRecursion (λ (r : TableRow). k <ℤ r.id) rows
all_above k q [] h all = tt
all_above k q (r ∷ rows) h all = (lt_trans k q r.id h all.0, all_above k q rows h all.1)

-- the last of those above an id
last_sifted_step : (k d : ℤ) (r : TableRow) (rows : List TableRow) → Rises id_of (r ∷ rows) →
    ((e : ℤ) → last_or e (filter (λ (s : TableRow). int_lt k s.id) rows) ≡ cond (int_lt k (last_or k rows)) (last_or k rows) e) → (b : Bool) → int_lt k r.id ≡ b →
    last_or d (cond b (r ∷ filter (λ (s : TableRow). int_lt k s.id) rows) (filter (λ (s : TableRow). int_lt k s.id) rows)) ≡ cond (int_lt k (last_or r.id rows)) (last_or r.id rows) d
last_sifted_step k d r [] rise later true e = rw e
last_sifted_step k d r [] rise later false e = rw e
last_sifted_step k d r (s ∷ rows) rise later true e =
    let below : k <ℤ r.id = lt_from k r.id e in
    let above : k <ℤ last_or s.id rows = above_last k s.id rows (lt_trans k r.id s.id below rise.0.0) (all_above k r.id rows below rise.0.1) in
    let is : int_lt k (last_or s.id rows) ≡ true = lt_true k (last_or s.id rows) above in
    later r.id ∙ ap (λ (b : Bool). cond b (last_or s.id rows) r.id) is ∙ sym (ap (λ (b : Bool). cond b (last_or s.id rows) d) is)
last_sifted_step k d r (s ∷ rows) rise later false e = later d

last_sifted : (k d : ℤ) (rows : List TableRow) → Rises id_of rows → last_or d (filter (λ (r : TableRow). int_lt k r.id) rows) ≡ cond (int_lt k (last_or k rows)) (last_or k rows) d
last_sifted k d [] rise = rw (lt_same k)
last_sifted k d (r ∷ rows) rise = last_sifted_step k d r rows rise (λ e. last_sifted k e rows rise.1) (int_lt k r.id) refl

some_either : (b : Bool) (m k : ℤ) → Some (cond b m k) ≡ cond b (Some m) (Some k)
some_either true m k = refl
some_either false m k = refl

pub largest_placed : (rows : List TableRow) (row : TableRow) → Rises id_of rows → largest_id (with_row rows row) ≡ larger (largest_id rows) row.id
largest_placed [] row rise = refl
largest_placed (r ∷ rows) row rise =
    largest_behind (filter (λ (s : TableRow). int_lt s.id row.id) (r ∷ rows)) row (filter (λ (s : TableRow). int_lt row.id s.id) (r ∷ rows))
    ∙ ap (λ (z : ℤ). let o : Option ℤ = Some z in o) (last_sifted row.id row.id (r ∷ rows) rise)
    ∙ some_either (int_lt row.id (last_or r.id rows)) (last_or r.id rows) row.id
    ∙ ap (λ (o : Option ℤ). larger o row.id) (sym (largest_of r rows))

-- ---- a row in the place of the one that has its id

none_in : (k : ℤ) (rows : List TableRow) → AllByRecursion (λ (r : TableRow). k <ℤ r.id) rows → has_id rows k ≡ false
none_in k [] above = refl
none_in k (r ∷ rows) above =
    let other : int_eq k r.id ≡ false = eq_below k r.id above.0 in
    rw other (none_in k rows above.1)

untaken : (k : ℤ) (rows : List TableRow) → AllByRecursion (λ (r : TableRow). k <ℤ r.id) rows → without_id rows k ≡ rows
untaken k [] above = refl
untaken k (r ∷ rows) above =
    let other : int_eq k r.id ≡ false = eq_below k r.id above.0 in
    rw (other, untaken k rows above.1)

none_lower : (k : ℤ) (rows : List TableRow) → AllByRecursion (λ (r : TableRow). k <ℤ r.id) rows → filter (λ (r : TableRow). int_lt r.id k) rows ≡ []
none_lower k [] above = refl
none_lower k (r ∷ rows) above =
    let not_lower : int_lt r.id k ≡ false = lt_above r.id k above.0 in
    rw not_lower (none_lower k rows above.1)

all_higher : (k : ℤ) (rows : List TableRow) → AllByRecursion (λ (r : TableRow). k <ℤ r.id) rows → filter (λ (r : TableRow). int_lt k r.id) rows ≡ rows
all_higher k [] above = refl
all_higher k (r ∷ rows) above =
    let higher : int_lt k r.id ≡ true = lt_true k r.id above.0 in
    rw (higher, all_higher k rows above.1)

first_replaced : (r row : TableRow) (rows : List TableRow) → AllByRecursion (λ (s : TableRow). row.id <ℤ s.id) rows → int_eq row.id r.id ≡ true →
    map id_of (with_row (without_id (r ∷ rows) row.id) row) ≡ row.id ∷ map id_of rows
first_replaced r row rows above same =
    let gone : without_id (r ∷ rows) row.id ≡ rows = rw same (untaken row.id rows above) in
    ap (λ (l : List TableRow). map id_of (with_row l row)) gone
    ∙ ap (λ (l : List TableRow). map id_of (l ++ row ∷ filter (λ (s : TableRow). int_lt row.id s.id) rows)) (none_lower row.id rows above)
    ∙ ap (λ (l : List TableRow). map id_of (row ∷ l)) (all_higher row.id rows above)

later_replaced : (r row : TableRow) (rows : List TableRow) → r.id <ℤ row.id → map id_of (with_row (without_id rows row.id) row) ≡ map id_of rows →
    map id_of (with_row (without_id (r ∷ rows) row.id) row) ≡ r.id ∷ map id_of rows
later_replaced r row rows below same =
    let other : int_eq row.id r.id ≡ false = eq_above row.id r.id below in
    let lower : int_lt r.id row.id ≡ true = lt_true r.id row.id below in
    let not_higher : int_lt row.id r.id ≡ false = lt_above row.id r.id below in
    let kept : without_id (r ∷ rows) row.id ≡ r ∷ without_id rows row.id = rw other in
    let placed : with_row (r ∷ without_id rows row.id) row ≡ r ∷ with_row (without_id rows row.id) row = rw (lower, not_higher) in
    ap (λ (l : List TableRow). map id_of (with_row l row)) kept ∙ ap (map id_of) placed ∙ ap (λ (l : List ℤ). r.id ∷ l) same

there_later : (b h : Bool) → b ≡ false → (b || h) ≡ true → h ≡ true
there_later true h e there = cc
there_later false h e there = there

pub replaced_ids : (rows : List TableRow) (row : TableRow) → Rises id_of rows → has_id rows row.id ≡ true → map id_of (with_row (without_id rows row.id) row) ≡ map id_of rows
replaced_ids [] row rise there = cc
replaced_ids (r ∷ rows) row rise there =
    elim (three_ways row.id r.id) as (λ w. map id_of (with_row (without_id (r ∷ rows) row.id) row) ≡ map id_of (r ∷ rows)) [
      | inl below ↦
          let none : has_id (r ∷ rows) row.id ≡ false = none_in row.id (r ∷ rows) (below, all_above row.id r.id rows below rise.0) in
          absurd (let off : true ≡ false = sym there ∙ none in cc)
      | inr (inl same) ↦
          first_replaced r row rows (subst (λ (z : ℤ). AllByRecursion (λ (s : TableRow). z <ℤ s.id) rows) (sym same) rise.0) (subst (λ (z : ℤ). int_eq row.id z ≡ true) same (eq_same row.id))
          ∙ ap (λ (z : ℤ). z ∷ map id_of rows) same
      | inr (inr above) ↦
          let other : int_eq row.id r.id ≡ false = eq_above row.id r.id above in
          later_replaced r row rows above (replaced_ids rows row rise.1 (there_later (int_eq row.id r.id) (has_id rows row.id) other there))
    ]

same_length : (a b : List TableRow) → map id_of a ≡ map id_of b → length a ≡ length b
same_length a b same = sym (length-map a id_of) ∙ ap length same ∙ length-map b id_of

same_largest : (a b : List TableRow) → map id_of a ≡ map id_of b → largest_id a ≡ largest_id b
same_largest a b same =
    sym (slice_get-map id_of a (length a - 1)) ∙ ap (λ (l : List ℤ). slice_get l (length a - 1)) same
    ∙ ap (λ (n : ℕ). slice_get (map id_of b) (n - 1)) (same_length a b same) ∙ slice_get-map id_of b (length b - 1)

-- ---- after a step

pub counts_more : (now : List TableRow) (largest : Option ℤ) (room : ℕ) (step : Step) → Counts now largest room → Inserts now step →
    Counts (after_step now step) (largest_after largest step) (room_after room step)
counts_more now largest room (Leaves id) counts fits = absurd fits
counts_more now largest room (Comes row) counts fits =
    let rise : Rises id_of now = rises id_of now counts.rising in
    let long : length (with_row now row) ≡ suc (length now) = length_placed now row fits in
    record {
      rising = rising id_of (with_row now row) (rises-placed id_of now row rise);
      largest_is = ap (λ (o : Option ℤ). larger o row.id) counts.largest_is ∙ sym (largest_placed now row rise);
      room_is = (let is = counts.room_is in omega arith);
    }
counts_more now largest room (Becomes id row) counts fits =
    let rise : Rises id_of now = rises id_of now counts.rising in
    let there : has_id now row.id ≡ true = subst (λ (z : ℤ). has_id now z ≡ true) (sym fits.0) fits.1 in
    let ids : map id_of (with_row (without_id now id) row) ≡ map id_of now = subst (λ (z : ℤ). map id_of (with_row (without_id now z) row) ≡ map id_of now) fits.0 (replaced_ids now row rise there) in
    record {
      rising = rising id_of (with_row (without_id now id) row) (rises-placed id_of (without_id now id) row (rises-taken id_of now id rise));
      largest_is = counts.largest_is ∙ sym (same_largest (with_row (without_id now id) row) now ids);
      room_is = counts.room_is ∙ ap (λ (n : ℕ). most_rows - n) (sym (same_length (with_row (without_id now id) row) now ids));
    }

-- the id that a new row gets
pub id_counted : (now : List TableRow) (largest : Option ℤ) (room : ℕ) (own : Option ℤ) → Counts now largest room → id_or_after largest own ≡ id_or_new now own
id_counted now largest room None counts = ap id_after counts.largest_is
id_counted now largest room (Some id) counts = refl
