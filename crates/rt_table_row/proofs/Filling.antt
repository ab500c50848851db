-- What each column will hold after an UPDATE, set by set.
use Rattle.std.proofs.Common.{◌≡◌, ℕ, zero, suc, ◌+◌, ◌<◌, nat_lt, bytes_eq, Bool, true, false, cond, not, ◌&&◌, ◌||◌, List, [], ◌∷◌, ◌++◌, get_or, map, take, set, length, find, position, Option, Some, None, arith, refl, sym, ap, subst, ◌∙◌}
use Rattle.std.specs.List.{list_all, list_any, position_or_len}
use Rattle.std.specs.Option.{option_map_or, option_or}
use Rattle.std.specs.Str.{str_to_ascii_lowercase}
use Rattle.std.proofs.lemmas.Bool.Decides.{nat_tests}
use Rattle.std.proofs.lemmas.List.{take_more, length-set, get_or-set_other}
use Rattle.std.proofs.lemmas.List.Folds.{find-append, list_any-append, list_all-append, list_all_at}
use Rattle.std.proofs.lemmas.Grind.{get_or-set_at}
use Rattle.std.proofs.lemmas.Slice.Eq.{bytes_eq-Decides}
use Rattle.rt_sql_statement.specs.Name.{same_name}
use Rattle.rt_sql_statement.specs.declared.value.Value.{Value}
use Rattle.rt_sql_statement.specs.declared.value.Value.TheVariants.{Null}
use Rattle.rt_sql_statement.specs.declared.statement.Source.{Source}
use Rattle.rt_table_row.specs.declared.settings.Reading.{Reading}
use Rattle.rt_table_row.specs.declared.settings.Reading.TheVariants.{Literal, Column}
use Rattle.rt_table_row.specs.Columns.{Columns, place_of, has_name, are_distinct}
use Rattle.rt_table_row.specs.Conditions.{value_in}
use Rattle.rt_table_row.specs.Edits.{Setting, columns_read, source_value, is_summable, sum_fits, new_value, new_values}
use Rattle.rt_table_row.specs.Settings.{set_names, read, reads_integer, reading_fits, values_after, has_set_columns, reading_of, are_known, has_set, AreReadings, column_readings}
use Rattle.rt_table_row.proofs.Filters.{present, absent, value_there}
use Rattle.rt_table_row.proofs.Names.{neither, denied, same_laws, fails_each, own_place}
use Rattle.rt_table_row.proofs.Boxes.{head, tail}
use Rattle.rt_table_row.proofs.Setting.{set_among, sets_among, reads_same, sums_same, fits_same, read_known, unread, values_read}

-- ---- names that are the same

text : (a b : List ℕ) → same_name a b ≡ true → str_to_ascii_lowercase a ≡ str_to_ascii_lowercase b
text a b e = (bytes_eq-Decides (str_to_ascii_lowercase a) (str_to_ascii_lowercase b)).0 e

unset_same : (sets : List Setting) (a b : List ℕ) → same_name a b ≡ true → has_set sets b ≡ false → has_set sets a ≡ false
unset_same sets a b same unset =
    subst (λ (l : List ℕ). list_any (λ (set : Setting). bytes_eq l (str_to_ascii_lowercase set.0)) sets ≡ false) (sym (text a b same)) unset

module _ {X : Type 0} (q : X → Bool) where
  at_step : (b : Bool) (n : ℕ) (x : X) (xs : List X) (d : X) → q x ≡ b → (n < length xs → q (get_or xs n d) ≡ true) →
      cond (not b) (1 + n) 0 < suc (length xs) → q (get_or (x ∷ xs) (cond (not b) (1 + n) 0) d) ≡ true
  at_step true n x xs d e later within = e
  at_step false n x xs d e later within = let one : 1 + n ≡ suc n = omega arith in rw one (later (omega arith))

  -- it passes at the first place at which it does
  passes_at_first : (xs : List X) (d : X) → position_or_len q xs < length xs → q (get_or xs (position_or_len q xs) d) ≡ true
  passes_at_first [] d within = absurd (omega arith)
  passes_at_first (x ∷ xs) d within = at_step (q x) (position_or_len q xs) x xs d refl (passes_at_first xs d) within

found_step : (b : Bool) (n p : ℕ) → cond b (Some n) None ≡ Some p → (b ≡ true) × (n ≡ p)
found_step true n p e = (refl, cc)
found_step false n p e = cc

place_found : (names : List (List ℕ)) (name : List ℕ) (p : ℕ) (d : List ℕ) → place_of names name ≡ Some p →
    (p < length names) × (same_name name (get_or names p d) ≡ true)
place_found names name p d e =
    let both = found_step (nat_lt (position_or_len (same_name name) names) (length names)) (position_or_len (same_name name) names) p e in
    let seen : nat_lt (position_or_len (same_name name) names) (length names) ≡ true = both.0 in
    let within : position_or_len (same_name name) names < length names = grind (arith, nat_tests, seen) in (
      subst (λ (k : ℕ). k < length names) both.1 within,
      subst (λ (k : ℕ). same_name name (get_or names k d) ≡ true) both.1 (passes_at_first (same_name name) names d within),
    )

-- no other column has the name
only_place : (names : List (List ℕ)) (name : List ℕ) (p i : ℕ) (d : List ℕ) → are_distinct names ≡ true → i < length names →
    place_of names name ≡ Some p → same_name (get_or names i d) name ≡ true → i ≡ p
only_place names name p i d distinct below e same =
    let there : place_of names name ≡ Some i =
    subst (λ (l : List ℕ). position (λ (x : List ℕ). bytes_eq l (str_to_ascii_lowercase x)) names ≡ Some i) (text (get_or names i d) name same) (own_place names i d distinct below) in
    cc

-- ---- tests and values of lists of which one element is another

last : (a b : Bool) → (a && b) ≡ (a && (b && true))
last true true = refl
last true false = refl
last false b = refl

turned : (a b : Bool) → (a && b) ≡ (b && a)
turned true true = refl
turned true false = refl
turned false true = refl
turned false false = refl

grouped : (a b c : Bool) → (a && (b && c)) ≡ ((a && b) && c)
grouped true b c = refl
grouped false b c = refl

all_pass : {X : Type 0} (f : X → Bool) (xs : List X) (d : X) → ((k : ℕ) → k < length xs → f (get_or xs k d) ≡ true) → list_all f xs ≡ true
all_pass f [] d each = refl
all_pass f (x ∷ xs) d each = let here : f x ≡ true = each 0 (omega arith) in rw here (all_pass f xs d (λ k within. each (suc k) (omega arith)))

all_set : {X : Type 0} (f : X → Bool) (xs : List X) (p : ℕ) (x d : X) → p < length xs → f (get_or xs p d) ≡ true → list_all f (set xs p x) ≡ (list_all f xs && f x)
all_set f [] p x d within passes = absurd (omega arith)
all_set f (y ∷ xs) zero x d within passes = rw passes (turned (f x) (list_all f xs))
all_set f (y ∷ xs) (suc p) x d within passes = ap (λ (b : Bool). f y && b) (all_set f xs p x d (omega arith) passes) ∙ grouped (f y) (list_all f xs) (f x)

same_maps : {X Y Z : Type 0} (f : X → Z) (g : Y → Z) (xs : List X) (ys : List Y) (d : X) (e : Y) → length xs ≡ length ys →
    ((k : ℕ) → k < length ys → f (get_or xs k d) ≡ g (get_or ys k e)) → map f xs ≡ map g ys
same_maps f g [] [] d e long each = refl
same_maps f g [] (y ∷ ys) d e long each = absurd (omega arith)
same_maps f g (x ∷ xs) [] d e long each = absurd (omega arith)
same_maps f g (x ∷ xs) (y ∷ ys) d e long each =
    let here : f x ≡ g y = each 0 (omega arith) in
    rw (here, same_maps f g xs ys d e (omega arith) (λ k within. each (suc k) (omega arith))) refl

-- ---- no set

pub readings_none : (names : List (List ℕ)) (readings : List Reading) → are_distinct names ≡ true → length readings ≡ length names →
    ((place : ℕ) → place < length names → get_or readings place (Literal Null) ≡ Column place) → AreReadings names [] readings
readings_none names readings distinct each own = record {
  each = each;
  known = refl;
  kept = λ place within none. own place within;
  summable = λ values. all_pass (reads_integer values) readings (Literal Null) (λ place within. ap (reads_integer values) (own place (omega arith)));
  fits = λ values. all_pass (reading_fits values) readings (Literal Null) (λ place within. ap (reading_fits values) (own place (omega arith)));
  same = λ values place within. ap (read values) (own place within) ∙ value_there names values (get_or names place []) place (own_place names place [] distinct within);
}

-- ---- one set more

-- its column is that of no set before
unset : (sets : List Setting) (k : ℕ) (s : Setting) → are_distinct (set_names sets) ≡ true → k < length sets → s ≡ get_or sets k s → has_set (take k sets) s.0 ≡ false
unset [] k s distinct within is = absurd (omega arith)
unset (x ∷ sets) zero s distinct within is = refl
unset (x ∷ sets) (suc k) s distinct within is =
    let first : has_name (set_names sets) x.0 ≡ false = denied (has_name (set_names sets) x.0) (head (not (has_name (set_names sets) x.0)) (are_distinct (set_names sets)) distinct) in
    let later : same_name x.0 s.0 ≡ false =
    ap (λ (set : Setting). same_name x.0 set.0) is ∙ fails_each (λ (set : Setting). same_name x.0 set.0) sets k s (omega arith) (set_among sets x.0 ∙ first) in
    let other : same_name s.0 x.0 ≡ false = same_laws.symm s.0 x.0 ∙ later in
    rw other (unset sets k s (tail (not (has_name (set_names sets) x.0)) (are_distinct (set_names sets)) distinct) (omega arith) is)

tests_more : (f : Reading → Bool) (g : Source → Bool) (sets : List Setting) (s : Setting) (readings : List Reading) (p : ℕ) (r : Reading) → p < length readings →
    f (get_or readings p (Literal Null)) ≡ true → list_all f readings ≡ list_all (λ (set : Setting). g set.1) sets → f r ≡ g s.1 →
    list_all f (set readings p r) ≡ list_all (λ (set : Setting). g set.1) (sets ++ s ∷ [])
tests_more f g sets s readings p r within passes before here =
    all_set f readings p r (Literal Null) within passes ∙ rw (before, here) (last (list_all (λ (set : Setting). g set.1) sets) (g s.1))
    ∙ sym (list_all-append (λ (set : Setting). g set.1) sets (s ∷ []))

none_found : {X : Type 0} (q : X → Bool) (xs : List X) → list_any q xs ≡ false → find q xs ≡ None
none_found q [] e = refl
none_found q (x ∷ xs) e =
    let both = neither (q x) (list_any q xs) e in
    let here : q x ≡ false = both.0 in
    rw here (none_found q xs both.1)

or_none : {X : Type 0} (o : Option X) → option_or o None ≡ o
or_none None = refl
or_none (Some x) = refl

module _ (names : List (List ℕ)) (values : List Value) (sets : List Setting) (s : Setting) (name : List ℕ) where
  abbrev of_set : Option Setting → Value
  of_set found = option_map_or (λ (set : Setting). source_value names values set.1) found (value_in names values name)

  value_set : has_set sets name ≡ false → same_name name s.0 ≡ true → new_value names values (sets ++ s ∷ []) name ≡ source_value names values s.1
  value_set none same =
      ap of_set (find-append (λ (set : Setting). same_name name set.0) sets (s ∷ [])) ∙ rw (none_found (λ (set : Setting). same_name name set.0) sets none, same) refl

  value_kept : same_name name s.0 ≡ false → new_value names values (sets ++ s ∷ []) name ≡ new_value names values sets name
  value_kept other =
      ap of_set (find-append (λ (set : Setting). same_name name set.0) sets (s ∷ [])) ∙ rw other (ap of_set (or_none (find (λ (set : Setting). same_name name set.0) sets)))

module _ (names : List (List ℕ)) (sets : List Setting) (s : Setting) (readings : List Reading) (p : ℕ) (r : Reading)
    (distinct : are_distinct names ≡ true) (none : has_set sets s.0 ≡ false) (place : place_of names s.0 ≡ Some p) (reading : reading_of names s.1 ≡ Some r)
    (is : AreReadings names sets readings) where
  below : p < length names
  below = (place_found names s.0 p [] place).0

  within : p < length readings
  within = omega (arith, below, is.each)

  its : same_name (get_or names p []) s.0 ≡ true
  its = same_laws.symm (get_or names p []) s.0 ∙ (place_found names s.0 p [] place).1

  own : get_or readings p (Literal Null) ≡ Column p
  own = is.kept p below (unset_same sets (get_or names p []) s.0 its none)

  elsewhere : (i : ℕ) → same_name (get_or names i []) s.0 ≡ false → ¬ (i ≡ p)
  elsewhere i other at =
      let here : same_name (get_or names i []) s.0 ≡ true = subst (λ (k : ℕ). same_name (get_or names k []) s.0 ≡ true) (sym at) its in
      absurd (let off : true ≡ false = sym here ∙ other in cc)

  kept_more : (i : ℕ) → i < length names → has_set (sets ++ s ∷ []) (get_or names i []) ≡ false → get_or (set readings p r) i (Literal Null) ≡ Column i
  kept_more i h e =
      let q : Setting → Bool = λ (set : Setting). same_name (get_or names i []) set.0 in
      let both = neither (list_any q sets) (q s || false) (sym (list_any-append q sets (s ∷ [])) ∙ e) in
      get_or-set_other readings p i r (Literal Null) (elsewhere i (neither (q s) false both.1).0) ∙ is.kept i h both.0

  known_more : are_known names (sets ++ s ∷ []) ≡ true
  known_more =
      let named : has_name names s.0 ≡ true = present names s.0 p place in
      let reads : list_all (has_name names) (columns_read s.1) ≡ true = read_known names s.1 r reading in
      list_all-append (λ (set : Setting). has_name names set.0 && list_all (has_name names) (columns_read set.1)) sets (s ∷ []) ∙ rw (is.known, named, reads) refl

  same_at : (b : Bool) (values : List Value) (i : ℕ) → i < length names → same_name (get_or names i []) s.0 ≡ b →
      read values (get_or (set readings p r) i (Literal Null)) ≡ new_value names values (sets ++ s ∷ []) (get_or names i [])
  same_at true values i h e =
      let at : i ≡ p = only_place names s.0 p i [] distinct h place e in
      ap (read values) (get_or-set_at readings p i r (Literal Null) at within) ∙ reads_same names values s.1 r reading
      ∙ sym (value_set names values sets s (get_or names i []) (unset_same sets (get_or names i []) s.0 e none) e)
  same_at false values i h e =
      ap (read values) (get_or-set_other readings p i r (Literal Null) (elsewhere i e)) ∙ is.same values i h ∙ sym (value_kept names values sets s (get_or names i []) e)

  set_more : AreReadings names (sets ++ s ∷ []) (set readings p r)
  set_more = record {
    each = length-set readings p r ∙ is.each;
    known = known_more;
    kept = kept_more;
    summable = λ values. tests_more (reads_integer values) (is_summable names values) sets s readings p r within (ap (reads_integer values) own) (is.summable values) (sums_same names values s.1 r reading);
    fits = λ values. tests_more (reading_fits values) (sum_fits names values) sets s readings p r within (ap (reading_fits values) own) (is.fits values) (fits_same names values s.1 r reading);
    same = λ values i h. same_at (same_name (get_or names i []) s.0) values i h refl;
  }

pub readings_more : (names : List (List ℕ)) (sets : List Setting) (k : ℕ) (s : Setting) (readings : List Reading) (p : ℕ) (r : Reading) → are_distinct names ≡ true →
    are_distinct (set_names sets) ≡ true → k < length sets → s ≡ get_or sets k s → place_of names s.0 ≡ Some p → reading_of names s.1 ≡ Some r →
    AreReadings names (take k sets) readings → AreReadings names (take (k + 1) sets) (set readings p r)
readings_more names sets k s readings p r distinct sets_distinct within is place reading before =
    let more : take (k + 1) sets ≡ take k sets ++ s ∷ [] = take_more sets k s within ∙ ap (λ (set : Setting). take k sets ++ set ∷ []) (sym is) in
    subst (λ (done : List Setting). AreReadings names done (set readings p r)) (sym more)
    (set_more names (take k sets) s readings p r distinct (unset sets k s sets_distinct within is) place reading before)

-- ---- a set that names no column of the table

unknown : (names : List (List ℕ)) (sets : List Setting) (k : ℕ) (s : Setting) → k < length sets → s ≡ get_or sets k s →
    (has_name names s.0 && list_all (has_name names) (columns_read s.1)) ≡ false → are_known names sets ≡ false
unknown names sets k s within is e =
    let t : Setting → Bool = λ (set : Setting). has_name names set.0 && list_all (has_name names) (columns_read set.1) in
    list_all_at t sets k s within (ap t (sym is) ∙ e)

pub set_unknown : (names : List (List ℕ)) (sets : List Setting) (k : ℕ) (s : Setting) → k < length sets → s ≡ get_or sets k s → place_of names s.0 ≡ None → are_known names sets ≡ false
set_unknown names sets k s within is e = let none : has_name names s.0 ≡ false = absent names s.0 e in unknown names sets k s within is (rw none refl)

pub read_unknown : (names : List (List ℕ)) (sets : List Setting) (k : ℕ) (s : Setting) → k < length sets → s ≡ get_or sets k s → reading_of names s.1 ≡ None → are_known names sets ≡ false
read_unknown names sets k s within is e =
    let none : list_all (has_name names) (columns_read s.1) ≡ false = unread names s.1 e in
    unknown names sets k s within is (turned (has_name names s.0) (list_all (has_name names) (columns_read s.1)) ∙ rw none refl)

-- ---- all sets

crossed : (a b c d : Bool) → ((a && b) && (c && d)) ≡ ((a && c) && (b && d))
crossed true true c d = refl
crossed true false true d = refl
crossed true false false d = refl
crossed false b c d = refl

all_both : {X : Type 0} (p q : X → Bool) (xs : List X) → list_all (λ (x : X). p x && q x) xs ≡ (list_all p xs && list_all q xs)
all_both p q [] = refl
all_both p q (x ∷ xs) = ap (λ (b : Bool). (p x && q x) && b) (all_both p q xs) ∙ crossed (p x) (q x) (list_all p xs) (list_all q xs)

pub known_columns : (columns : Columns) (sets : List Setting) → are_known columns.names sets ≡ has_set_columns columns sets
known_columns columns sets =
    let reads : Setting → Bool = λ (set : Setting). list_all (has_name columns.names) (columns_read set.1) in
    all_both (λ (set : Setting). has_name columns.names set.0) reads sets ∙ ap (λ (b : Bool). b && list_all reads sets) (sets_among columns.names sets)

pub settings_same : (names : List (List ℕ)) (values : List Value) (sets : List Setting) (readings : List Reading) → AreReadings names sets readings →
    values_after (column_readings readings) values ≡ new_values names values sets
settings_same names values sets readings is =
    values_read values readings ∙ same_maps (read values) (new_value names values sets) readings names (Literal Null) [] is.each (is.same values)
