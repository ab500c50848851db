-- What a row becomes by its looked-up sets.
use Rattle.std.proofs.Common.{◌≡◌, ℕ, suc, ◌+◌, ◌*◌, ◌≤◌, ◌-◌, ◌+ℤ◌, ◌-ℤ◌, ℤ, Bool, true, false, ◌&&◌, ◌||◌, List, [], ◌∷◌, ◌++◌, append_assoc, get_or, map, length, take, drop, Option, Some, None, Err, arith, refl, sym, ap, subst, ◌∙◌}
use Rattle.std.specs.List.{list_all, list_any}
use Rattle.std.specs.Option.{option_map}
use Rattle.std.proofs.lemmas.List.{take-map, take_all, drop-map, get_or_at, length_push}
use Rattle.std.proofs.lemmas.Simd.{map-map}
use Rattle.std.proofs.lemmas.List.Folds.{list_all-map}
use Rattle.std.specs.Str.{str_to_ascii_lowercase}
use Rattle.std.proofs.lemmas.Slice.Eq.{bytes_eq-Decides}
use Rattle.rt_sql_statement.specs.declared.value.Value.{Value}
use Rattle.rt_sql_statement.specs.declared.value.Value.TheVariants.{Null, Int, Text, Blob}
use Rattle.rt_sql_statement.specs.declared.refusal.Refusal.TheVariants.{WrongType, IntegerOutOfRange}
use Rattle.rt_sql_statement.specs.Name.{same_name}
use Rattle.rt_sql_statement.specs.declared.statement.Source.{Source}
use Rattle.rt_sql_statement.specs.declared.statement.Source.TheVariants as source
use Rattle.rt_table_row.specs.declared.settings.Reading.{Reading}
use Rattle.rt_table_row.specs.declared.settings.Reading.TheVariants.{Literal, Column, Plus, Minus}
use Rattle.rt_table_row.specs.NewRows.{is_id, is_integer, id_in, number_in, fits_bits, id_value, given_id, coordinate_values, row_from, row_with}
use Rattle.rt_table_row.specs.Columns.{place_of, has_name}
use Rattle.rt_table_row.specs.Edits.{Setting, columns_read, source_value, is_summable, sum_fits}
use Rattle.rt_table_row.specs.Settings.{set_names, read, reads_integer, reading_fits, fill_value, values_after, new_row, reading_of, own_fills, column_readings}
use Rattle.rt_table_row.proofs.Filters.{absent, present, value_there}
use Rattle.rt_table_row.proofs.Boxes.{head, tail}

-- ---- each column holds what its own reading gives

pub length-own_fills : (place : ℕ) (readings : List Reading) → length (own_fills place readings) ≡ length readings
length-own_fills place [] = refl
length-own_fills place (r ∷ rs) = ap suc (length-own_fills (suc place) rs)

own_values : (values : List Value) (before readings all : List Reading) (place : ℕ) → all ≡ before ++ readings → length before ≡ place →
    map (fill_value all values) (own_fills place readings) ≡ map (read values) readings
own_values values before [] all place is long = refl
own_values values before (r ∷ rs) all place is long =
    let here : read values (get_or all place (Literal Null)) ≡ read values r = rw (is, get_or_at before r rs (Literal Null) place long) refl in
    let more : length (before ++ r ∷ []) ≡ suc place = omega (arith, length_push before r) in
    rw (here, own_values values (before ++ r ∷ []) rs all (suc place) (is ∙ sym (append_assoc before (r ∷ []) rs)) more) refl

pub values_read : (values : List Value) (readings : List Reading) → values_after (column_readings readings) values ≡ map (read values) readings
values_read values readings = own_values values [] readings readings 0 refl refl

-- ---- what is wrong with a row, or isn't

-- the id and the coordinates are the first values
pub front_integers : (n : ℕ) (f : Reading → Value) (readings : List Reading) → 1 + 2 * n ≤ length readings →
    list_all (λ (x : Reading). is_integer (f x)) (take (1 + 2 * n) readings) ≡ (is_integer (id_value (map f readings)) && list_all is_integer (coordinate_values n (map f readings)))
front_integers n f [] h = absurd (omega arith)
front_integers n f (x ∷ readings) h =
    let one : 1 + 2 * n ≡ suc (2 * n) = omega arith in
    let rest : list_all (λ (y : Reading). is_integer (f y)) (take (2 * n) readings) ≡ list_all is_integer (take (2 * n) (map f readings)) = rw take-map (sym (list_all-map is_integer f (take (2 * n) readings))) in
    rw (one, rest)

pub set_type : (axes : ℕ) (readings : List Reading) (old : List Value) → list_all (reads_integer old) readings ≡ true →
    (is_integer (id_value (map (read old) readings)) && list_all is_integer (coordinate_values axes (map (read old) readings))) ≡ false →
    new_row axes (column_readings readings) old ≡ Err WrongType
set_type axes readings old summable types = rw (summable, values_read old readings, types)

pub set_sum : (axes : ℕ) (readings : List Reading) (old : List Value) → list_all (reads_integer old) readings ≡ true →
    (is_integer (id_value (map (read old) readings)) && list_all is_integer (coordinate_values axes (map (read old) readings))) ≡ true →
    list_all (reading_fits old) readings ≡ false → new_row axes (column_readings readings) old ≡ Err IntegerOutOfRange
set_sum axes readings old summable types fits = rw (summable, values_read old readings, types, fits)

pub set_all : (axes : ℕ) (readings : List Reading) (old : List Value) → list_all (reads_integer old) readings ≡ true →
    (is_integer (id_value (map (read old) readings)) && list_all is_integer (coordinate_values axes (map (read old) readings))) ≡ true →
    list_all (reading_fits old) readings ≡ true → new_row axes (column_readings readings) old ≡ row_from axes (given_id (map (read old) readings)) (map (read old) readings)
set_all axes readings old summable types fits = rw (summable, values_read old readings, types, fits)

-- ---- its numbers

integer_is_id : (v : Value) → is_integer v ≡ true → is_id v ≡ true
integer_is_id Null e = cc
integer_is_id (Int z) e = refl
integer_is_id (Text t) e = cc
integer_is_id (Blob b) e = cc

integer_in : (v : Value) → is_integer v ≡ true → id_in v ≡ Some (number_in v)
integer_in Null e = cc
integer_in (Int z) e = refl
integer_in (Text t) e = cc
integer_in (Blob b) e = cc

row_parts : (axes : ℕ) (id : Option ℤ) (values : List Value) → is_id (id_value values) ≡ true → list_all is_integer (coordinate_values axes values) ≡ true →
    row_from axes id values ≡ row_with id (map number_in (coordinate_values axes values)) (drop (1 + 2 * axes) values)
row_parts axes id values typed integers = rw (typed, integers)

-- if the id and the coordinates are integers, the row is that of their numbers
pub row_read : (n : ℕ) (f : Reading → Value) (readings plain rest : List Reading) → 1 + 2 * n ≤ length readings →
    plain ≡ take (1 + 2 * n) readings → rest ≡ drop (1 + 2 * n) readings →
    list_all (λ (x : Reading). is_integer (f x)) (take (1 + 2 * n) readings) ≡ true →
    row_from n (given_id (map f readings)) (map f readings) ≡ row_with (Some (number_in (f (get_or plain 0 (Literal Null))))) (map (λ (x : Reading). number_in (f x)) (take (length plain - 1) (drop 1 plain))) (map f rest)
row_read n f [] plain rest h p r ints = absurd (omega arith)
row_read n f (x ∷ readings) plain rest h p r ints =
    let one : 1 + 2 * n ≡ suc (2 * n) = omega arith in
    let plain_is : plain ≡ x ∷ take (2 * n) readings = p ∙ rw one refl in
    let first_is : get_or plain 0 (Literal Null) ≡ x = rw plain_is refl in
    let both : (is_integer (f x) && list_all (λ (y : Reading). is_integer (f y)) (take (2 * n) readings)) ≡ true = rw one at ints in
    let here = head (is_integer (f x)) (list_all (λ (y : Reading). is_integer (f y)) (take (2 * n) readings)) both in
    let later = tail (is_integer (f x)) (list_all (λ (y : Reading). is_integer (f y)) (take (2 * n) readings)) both in
    let integers : list_all is_integer (take (2 * n) (map f readings)) ≡ true = rw take-map (list_all-map is_integer f (take (2 * n) readings) ∙ later) in
    let long : length (take (2 * n) readings) ≤ length (x ∷ take (2 * n) readings) - 1 = omega arith in
    let behind : take (length plain - 1) (drop 1 plain) ≡ take (2 * n) readings = rw plain_is (take_all (length (x ∷ take (2 * n) readings) - 1) (take (2 * n) readings) long) in
    let numbers : map number_in (take (2 * n) (map f readings)) ≡ map (λ (y : Reading). number_in (f y)) (take (length plain - 1) (drop 1 plain)) = rw (behind, take-map) (map-map number_in f (take (2 * n) readings)) in
    let auxiliary : drop (1 + 2 * n) (f x ∷ map f readings) ≡ map f rest = rw r (drop-map f (1 + 2 * n) (x ∷ readings)) in
    let id : id_in (f x) ≡ Some (number_in (f (get_or plain 0 (Literal Null)))) = rw first_is (integer_in (f x) here) in
    row_parts n (given_id (f x ∷ map f readings)) (f x ∷ map f readings) (integer_is_id (f x) here) integers
    ∙ rw (id, numbers, auxiliary) refl

-- ---- how they are looked up

unmapped : (o : Option ℕ) (f : ℕ → Reading) → option_map f o ≡ None → o ≡ None
unmapped None f e = refl
unmapped (Some n) f e = cc

-- a set that reads no column of the table
unread_one : (names : List (List ℕ)) (name : List ℕ) (f : ℕ → Reading) → option_map f (place_of names name) ≡ None →
    list_all (has_name names) (name ∷ []) ≡ false
unread_one names name f e = let none : has_name names name ≡ false = absent names name (unmapped (place_of names name) f e) in rw none

pub unread : (names : List (List ℕ)) (s : Source) → reading_of names s ≡ None → list_all (has_name names) (columns_read s) ≡ false
unread names (source.Literal value) e = cc
unread names (source.Column name) e = unread_one names name (λ place. Column place) e
unread names (source.Plus name number) e = unread_one names name (λ place. Plus place number) e
unread names (source.Minus name number) e = unread_one names name (λ place. Minus place number) e

place_in : (o : Option ℕ) (f : ℕ → Reading) (r : Reading) → option_map f o ≡ Some r → (p : ℕ) × (o ≡ Some p) × (f p ≡ r)
place_in None f r e = cc
place_in (Some p) f r e = (p, refl, cc)

-- what a set reads gives what its source gives
pub reads_same : (names : List (List ℕ)) (values : List Value) (s : Source) (r : Reading) → reading_of names s ≡ Some r → read values r ≡ source_value names values s
reads_same names values (source.Literal v) r e = let same : r ≡ Literal v = cc in rw same
reads_same names values (source.Column name) r e =
    let found = place_in (place_of names name) (λ place. Column place) r e in
    rw (← found.2) (value_there names values name found.0 found.1)
reads_same names values (source.Plus name z) r e =
    let found = place_in (place_of names name) (λ place. Plus place z) r e in
    rw (← found.2) (ap (λ (v : Value). Int (number_in v +ℤ z)) (value_there names values name found.0 found.1))
reads_same names values (source.Minus name z) r e =
    let found = place_in (place_of names name) (λ place. Minus place z) r e in
    rw (← found.2) (ap (λ (v : Value). Int (number_in v -ℤ z)) (value_there names values name found.0 found.1))

pub sums_same : (names : List (List ℕ)) (values : List Value) (s : Source) (r : Reading) → reading_of names s ≡ Some r → reads_integer values r ≡ is_summable names values s
sums_same names values (source.Literal v) r e = let same : r ≡ Literal v = cc in rw same
sums_same names values (source.Column name) r e =
    let found = place_in (place_of names name) (λ place. Column place) r e in
    rw (← found.2)
sums_same names values (source.Plus name z) r e =
    let found = place_in (place_of names name) (λ place. Plus place z) r e in
    rw (← found.2) (ap is_integer (value_there names values name found.0 found.1))
sums_same names values (source.Minus name z) r e =
    let found = place_in (place_of names name) (λ place. Minus place z) r e in
    rw (← found.2) (ap is_integer (value_there names values name found.0 found.1))

pub fits_same : (names : List (List ℕ)) (values : List Value) (s : Source) (r : Reading) → reading_of names s ≡ Some r → reading_fits values r ≡ sum_fits names values s
fits_same names values (source.Literal v) r e = let same : r ≡ Literal v = cc in rw same
fits_same names values (source.Column name) r e =
    let found = place_in (place_of names name) (λ place. Column place) r e in
    rw (← found.2)
fits_same names values (source.Plus name z) r e =
    let found = place_in (place_of names name) (λ place. Plus place z) r e in
    rw (← found.2) (ap (λ (v : Value). fits_bits 63 (number_in v +ℤ z)) (value_there names values name found.0 found.1))
fits_same names values (source.Minus name z) r e =
    let found = place_in (place_of names name) (λ place. Minus place z) r e in
    rw (← found.2) (ap (λ (v : Value). fits_bits 63 (number_in v -ℤ z)) (value_there names values name found.0 found.1))

-- each column that a set reads is the table's
pub read_known : (names : List (List ℕ)) (s : Source) (r : Reading) → reading_of names s ≡ Some r → list_all (has_name names) (columns_read s) ≡ true
read_known names (source.Literal v) r e = refl
read_known names (source.Column name) r e =
    let found = place_in (place_of names name) (λ place. Column place) r e in rw (present names name found.0 found.1)
read_known names (source.Plus name z) r e =
    let found = place_in (place_of names name) (λ place. Plus place z) r e in rw (present names name found.0 found.1)
read_known names (source.Minus name z) r e =
    let found = place_in (place_of names name) (λ place. Minus place z) r e in rw (present names name found.0 found.1)

-- each column has its own name
pub name_itself : (name : List ℕ) → same_name name name ≡ true
name_itself name = (bytes_eq-Decides (str_to_ascii_lowercase name) (str_to_ascii_lowercase name)).1 refl

true_later : (a b : Bool) → b ≡ true → (a || b) ≡ true
true_later true b e = refl
true_later false b e = e

both_true : (a b : Bool) → a ≡ true → b ≡ true → (a && b) ≡ true
both_true true b d e = e
both_true false b d e = d

own_there : (before : List (List ℕ)) (name : List ℕ) (rest : List (List ℕ)) → has_name (before ++ name ∷ rest) name ≡ true
own_there [] name rest = rw (name_itself name)
own_there (x ∷ before) name rest = true_later (same_name name x) _ (own_there before name rest)

pub own_rest : (before rest : List (List ℕ)) → list_all (has_name (before ++ rest)) rest ≡ true
own_rest before [] = refl
own_rest before (name ∷ rest) =
    let later = subst (λ (xs : List (List ℕ)). list_all (has_name xs) rest ≡ true) (append_assoc before (name ∷ []) rest) (own_rest (before ++ name ∷ []) rest) in
    both_true (has_name (before ++ name ∷ rest) name) (list_all (has_name (before ++ name ∷ rest)) rest) (own_there before name rest) later

-- a test of the names of sets is a test of the sets
pub set_among : (sets : List Setting) (name : List ℕ) → list_any (λ (set : Setting). same_name name set.0) sets ≡ has_name (set_names sets) name
set_among [] name = refl
set_among (set ∷ sets) name = ap (λ (later : Bool). same_name name set.0 || later) (set_among sets name)

pub sets_among : (names : List (List ℕ)) (sets : List Setting) → list_all (λ (set : Setting). has_name names set.0) sets ≡ list_all (has_name names) (set_names sets)
sets_among names sets = sym (list_all-map (has_name names) (λ (set : Setting). set.0) sets)
