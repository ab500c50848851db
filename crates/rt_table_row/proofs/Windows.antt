-- The window of a condition, and the rows that the condition picks.
use Rattle.std.proofs.Common.{◌≡◌, ℕ, zero, suc, ◌+◌, ◌*◌, ◌<◌, ◌≤◌, ◌↔◌, Bool, true, false, not, ◌||◌, ◌&&◌, nat_lt, List, [], ◌∷◌, map, zip, length, get_or, Some, ℤ, pos, All, FitsSigned, w32, arith, refl, sym, ap, subst, inl, inr, take, ◌∙◌, rules}
use Rattle.std.specs.List.{list_all, AllZip}
use Rattle.std.proofs.lemmas.List.{get_or-map, get_or_append_left, length-map, take_all}
use Rattle.std.proofs.lemmas.List.Elements.{All-head, All-tail, All-nil, All-cons, All-more}
use Rattle.std.proofs.lemmas.Bool.{cases_eq, and_from}
use Rattle.std.proofs.lemmas.Bool.Decides.{nat_tests}
use Rattle.rt_box.specs.declared.interval.Interval.{Interval}
use Rattle.rt_box.specs.declared.operator.Operator.{Operator}
use Rattle.rt_box.specs.declared.operator.Operator.TheVariants.{Eq, Ne, Lt, Le, Gt, Ge}
use Rattle.rt_box.specs.Interval.{FitsEnds, Includes}
use Rattle.rt_box.specs.Operators.{Keeps}
use Rattle.rt_box.specs.Rect.{IsBox, coordinates}
use Rattle.rt_box.specs.Window.{Allows, Admits, IsUnlimited, Narrows}
use Rattle.rt_box.proofs.Narrowing.{length-coordinates, allowed_at, admits_from}
use Rattle.rt_sql_statement.specs.declared.value.Value.{Value}
use Rattle.rt_sql_statement.specs.declared.value.Value.TheVariants.{Null, Int}
use Rattle.rt_sql_statement.specs.declared.statement.Test.{Test}
use Rattle.rt_sql_statement.specs.declared.statement.Test.TheVariants.{Compare, IsNull, IsNotNull}
use Rattle.rt_table_row.specs.Values.{compares}
use Rattle.rt_table_row.specs.Columns.{Columns, place_of}
use Rattle.rt_table_row.specs.Conditions.{column_of}
use Rattle.rt_table_row.specs.Rows.{TableRow, values_of}
use Rattle.rt_table_row.specs.Filters.{Placed, value_passes, passes_at, admits, ArePlaces, IsFilterOf}
use Rattle.rt_table_row.specs.Windows.{is_unequal, is_gap, is_said, allows, AllowsAt, AllowsAtPlace, IsWindowOf, IsWindowAt, SaysAll, NarrowsTo, NarrowsAt}
use Rattle.rt_table_row.proofs.Boxes.{head, tail}

-- ---- by places and by names

by_name : (names : List (List ℕ)) (tests : List Test) (places : List ℕ) (k : ℕ) (z : ℤ) → ArePlaces names tests places →
    All (AllowsAtPlace k z) (zip tests places) → All (AllowsAt names k z) tests
by_name names [] places k z e each = All-nil (AllowsAt names k z)
by_name names (test ∷ tests) [] k z e each = cc
by_name names (test ∷ tests) (place ∷ places) k z e each =
    let here : place_of names (column_of test) ≡ Some place = cc in
    let later : ArePlaces names tests places = cc in
    All-cons (AllowsAt names k z) test tests
    (λ at. let same : place ≡ suc k = cc in All-head (AllowsAtPlace k z) (test, place) (zip tests places) each same)
    (by_name names tests places k z later (All-tail (AllowsAtPlace k z) (test, place) (zip tests places) each))

by_place : (names : List (List ℕ)) (tests : List Test) (places : List ℕ) (k : ℕ) (z : ℤ) → ArePlaces names tests places →
    All (AllowsAt names k z) tests → All (AllowsAtPlace k z) (zip tests places)
by_place names [] places k z e each = All-nil (AllowsAtPlace k z)
by_place names (test ∷ tests) [] k z e each = All-nil (AllowsAtPlace k z)
by_place names (test ∷ tests) (place ∷ places) k z e each =
    let here : place_of names (column_of test) ≡ Some place = cc in
    let later : ArePlaces names tests places = cc in
    All-cons (AllowsAtPlace k z) (test, place) (zip tests places)
    (λ at. All-head (AllowsAt names k z) test tests each (here ∙ ap Some at))
    (by_place names tests places k z later (All-tail (AllowsAt names k z) test tests each))

-- the window of a filter is that of its condition
pub window-of : (columns : Columns) (cond : List Test) (filter : Placed) (window : List Interval) →
    IsFilterOf columns cond filter → IsWindowAt columns.axes filter window → IsWindowOf columns cond window
window-of columns cond filter window made at =
    let same = made.cond_is in
    record {
      long = at.long;
      exact = λ k z h. (
        (λ allowed.
            let both = (at.exact k z h).0 allowed in
            (both.0, by_name columns.names cond filter.places k z made.places_are (rw (← same) both.1))),
        (λ both. (at.exact k z h).1 (both.0, rw same (by_place columns.names cond filter.places k z made.places_are both.1))),
      );
    }

-- ---- a window narrowed by a comparison

-- a window's comparison keeps the numbers that pass a condition's
kept_passes : (op : Operator) (z value : ℤ) → Keeps op z value ↔ ((is_unequal op || compares op (Int z) (Int value)) ≡ true)
kept_passes Eq z value = search rules
kept_passes Ne z value = search rules
kept_passes Lt z value = search rules
kept_passes Le z value = search rules
kept_passes Gt z value = search rules
kept_passes Ge z value = search rules

pub narrowed_by_number : (old new : List Interval) (k : ℕ) (op : Operator) (value : ℤ) → Narrows old new k op value →
    NarrowsTo old new k (λ z. is_unequal op || compares op (Int z) (Int value))
narrowed_by_number old new k op value narrowed =
    record {
      long = narrowed.long;
      taken = λ z.
          let kept = narrowed.taken z in
          let same = kept_passes op z value in
          (λ allowed. let both = kept.0 allowed in (both.0, same.0 both.1), λ both. kept.1 (both.0, same.1 both.1));
      others = narrowed.others;
    }

-- ---- a row that passes lies in the window

or_right : (a b : Bool) → b ≡ true → (a || b) ≡ true
or_right true b e = refl
or_right false b e = e

-- a number that passes a test is allowed
passed_is_allowed : (test : Test) (z : ℤ) → value_passes (Int z) test ≡ true → allows test z ≡ true
passed_is_allowed (Compare c) z e = or_right (is_unequal c.op) (compares c.op (Int z) c.value) e
passed_is_allowed (IsNull name) z e = e
passed_is_allowed (IsNotNull name) z e = refl

-- the coordinate of a row behind its id
value_is : (row : TableRow) (k : ℕ) (d : Value) → k < length (coordinates row.box) →
    get_or (values_of row) (suc k) d ≡ Int (get_or (coordinates row.box) k (pos 0))
value_is row k d h =
    let long : k < length (map Int (coordinates row.box)) = rw length-map h in
    get_or_append_left (map Int (coordinates row.box)) row.auxiliary d k long ∙ get_or-map Int (coordinates row.box) k (pos 0) d h

allowed_here : (row : TableRow) (test : Test) (place k : ℕ) → k < length (coordinates row.box) → passes_at row (test, place) ≡ true →
    AllowsAtPlace k (get_or (coordinates row.box) k (pos 0)) (test, place)
allowed_here row test place k h passes at =
    let there : get_or (values_of row) place Null ≡ Int (get_or (coordinates row.box) k (pos 0)) = rw at (value_is row k Null h) in
    passed_is_allowed test (get_or (coordinates row.box) k (pos 0)) (rw (← there) passes)

all_allowed : (row : TableRow) (tests : List (Test × ℕ)) (k : ℕ) → k < length (coordinates row.box) → list_all (passes_at row) tests ≡ true →
    All (AllowsAtPlace k (get_or (coordinates row.box) k (pos 0))) tests
all_allowed row [] k h passes = All-nil (AllowsAtPlace k (get_or (coordinates row.box) k (pos 0)))
all_allowed row (t ∷ tests) k h passes =
    All-cons (AllowsAtPlace k (get_or (coordinates row.box) k (pos 0))) t tests
    (allowed_here row t.0 t.1 k h (head (passes_at row t) (list_all (passes_at row) tests) passes))
    (all_allowed row tests k h (tail (passes_at row t) (list_all (passes_at row) tests) passes))

fits_at : (b : List Interval) → All FitsEnds b → (k : ℕ) (z : ℤ) → k < length (coordinates b) → FitsSigned w32 (get_or (coordinates b) k z)
fits_at [] fits k z h = absurd (omega arith)
fits_at (i ∷ b) fits zero z h = (All-head FitsEnds i b fits).0
fits_at (i ∷ b) fits (suc zero) z h = (All-head FitsEnds i b fits).1
fits_at (i ∷ b) fits (suc (suc k)) z h = fits_at b (All-tail FitsEnds i b fits) k z (omega arith)

-- a search by the window loses no row that the filter admits
pub window-keeps : (D : ℕ) (filter : Placed) (window : List Interval) (row : TableRow) →
    IsWindowAt D filter window → IsBox D row.box → admits filter row ≡ true → Admits window row.box
window-keeps D filter window row at is passes =
    let long : length (coordinates row.box) ≡ 2 * D = omega (arith, length-coordinates row.box, is.axes_are) in
    admits_from window row.box (at.long ∙ sym long)
    (λ k h.
    let within : k < 2 * D = omega (arith, at.long) in
    let there : k < length (coordinates row.box) = omega arith in
    (at.exact k (get_or (coordinates row.box) k (pos 0)) within).1
    (fits_at row.box is.fits k (pos 0) there, all_allowed row (zip filter.cond filter.places) k there passes))

-- ---- a row that lies in a window that says all passes

and_parts : (a b : Bool) → (a && b) ≡ true → (a ≡ true) × (b ≡ true)
and_parts true b e = (refl, e)
and_parts false b e = cc

-- of a number a test asks no more than it allows, unless it leaves a gap
said_value : (test : Test) (z : ℤ) → not (is_gap test) ≡ true → allows test z ≡ true → value_passes (Int z) test ≡ true
said_value (Compare c) z whole e = by (is_unequal c.op) whole e
  where
    by : (gap : Bool) → not gap ≡ true → (gap || compares c.op (Int z) c.value) ≡ true → compares c.op (Int z) c.value ≡ true
    by true whole e = cc
    by false whole e = e
said_value (IsNull name) z whole e = cc
said_value (IsNotNull name) z whole e = refl

-- each coordinate is one that the window allows
said_here : (row : TableRow) (test : Test) (place k : ℕ) → place ≡ suc k → k < length (coordinates row.box) →
    not (is_gap test) ≡ true → AllowsAtPlace k (get_or (coordinates row.box) k (pos 0)) (test, place) → passes_at row (test, place) ≡ true
said_here row test place k at h whole allowed =
    let there : get_or (values_of row) place Null ≡ Int (get_or (coordinates row.box) k (pos 0)) = rw at (value_is row k Null h) in
    rw there (said_value test (get_or (coordinates row.box) k (pos 0)) whole (allowed at))

all_said : (n : ℕ) (row : TableRow) (tests : List (Test × ℕ)) → n ≤ length (coordinates row.box) →
    ((k : ℕ) → k < n → All (AllowsAtPlace k (get_or (coordinates row.box) k (pos 0))) tests) →
    list_all (is_said n) tests ≡ true → list_all (passes_at row) tests ≡ true
all_said n row [] long each e = refl
all_said n row (t ∷ tests) long each e =
    let both = and_parts (is_said n t) (list_all (is_said n) tests) e in
    let whole = and_parts (nat_lt 0 t.1 && nat_lt t.1 (suc n)) (not (is_gap t.0)) both.0 in
    let within = and_parts (nat_lt 0 t.1) (nat_lt t.1 (suc n)) whole.0 in
    and_from (passes_at row t) (list_all (passes_at row) tests)
    (by t.0 t.1 within.0 within.1 whole.1 (λ k h. All-head (AllowsAtPlace k (get_or (coordinates row.box) k (pos 0))) t tests (each k h)))
    (all_said n row tests long (λ k h. All-tail (AllowsAtPlace k (get_or (coordinates row.box) k (pos 0))) t tests (each k h)) both.1)
  where
    by : (test : Test) (place : ℕ) → nat_lt 0 place ≡ true → nat_lt place (suc n) ≡ true → not (is_gap test) ≡ true →
        ((k : ℕ) → k < n → AllowsAtPlace k (get_or (coordinates row.box) k (pos 0)) (test, place)) → passes_at row (test, place) ≡ true
    by test zero some within whole allowed = absurd (grind (arith, nat_tests))
    by test (suc k) some within whole allowed =
        let h : k < n = grind (arith, nat_tests) in
        said_here row test (suc k) k refl (omega arith) whole (allowed k h)

same_long : (window : List Interval) (numbers : List ℤ) → AllZip Includes window numbers → length window ≡ length numbers
same_long [] [] each = refl
same_long [] (z ∷ numbers) each = absurd each
same_long (i ∷ window) [] each = absurd each
same_long (i ∷ window) (z ∷ numbers) each = ap suc (same_long window numbers each.1)

pub says-all : (D : ℕ) (filter : Placed) → list_all (is_said (2 * D)) (zip filter.cond filter.places) ≡ true → SaysAll D filter
says-all D filter e window row at admitted =
    let same : length window ≡ length (coordinates row.box) = same_long window (coordinates row.box) admitted in
    all_said (2 * D) row (zip filter.cond filter.places) (omega (arith, at.long))
    (λ k h.
    let allowed = allowed_at window row.box k admitted (omega (arith, at.long)) in
    ((at.exact k (get_or (coordinates row.box) k (pos 0)) h).0 allowed).1)
    e

-- ---- narrowing by one test after another

-- what holds of the elements up to one holds of those before it, and of it
all_parts : {X : Type 0} (P : X → Type 0) (xs : List X) (n : ℕ) (d : X) → n < length xs → All P (take (n + 1) xs) → All P (take n xs) × P (get_or xs n d)
all_parts P [] n d h each = absurd (omega arith)
all_parts P (x ∷ xs) zero d h each = (All-nil P, each 0 x (omega arith))
all_parts P (x ∷ xs) (suc n) d h each =
    let next : suc n + 1 ≡ suc (n + 1) = omega arith in
    let here : All P (x ∷ take (n + 1) xs) = rw next at each in
    let rest = all_parts P xs n d (omega arith) (All-tail P x (take (n + 1) xs) here) in
    (All-cons P x (take n xs) (All-head P x (take (n + 1) xs) here) rest.0, rest.1)

-- a test of a coordinate narrows its interval alone
pub NarrowsAt-coordinate : (axes : ℕ) (old new : List Interval) (test : Test) (place coordinate : ℕ) → place ≡ suc coordinate →
    NarrowsTo old new coordinate (allows test) → NarrowsAt axes old new (test, place)
NarrowsAt-coordinate axes old new test place coordinate behind narrows = record {
  long = narrows.long;
  exact = λ k z h. elim (cases_eq k coordinate) [
    | inl same ↦ (
      (λ a. let both = (narrows.taken z).0 (rw same at a) in (rw same both.0, λ _. both.1)),
      (λ both. rw same ((narrows.taken z).1 (rw same at both.0, both.1 (behind ∙ ap suc (sym same))))),
    )
    | inr ne ↦ (
      (λ a. ((narrows.others k z ne).0 a, λ at. absurd (ne (omega arith)))),
      (λ both. (narrows.others k z ne).1 both.0),
    )
  ];
}

-- the window of some tests
pub record IsNarrowedBy (axes : ℕ) (window : List Interval) (tests : List (Test × ℕ)) : Type 0 where
  pub long : length window ≡ 2 * axes
  pub exact : (k : ℕ) (z : ℤ) → k < 2 * axes → (Allows window k z ↔ (FitsSigned w32 z × All (AllowsAtPlace k z) tests))

pub IsNarrowedBy-none : (axes : ℕ) (window : List Interval) → IsUnlimited axes window → IsNarrowedBy axes window []
IsNarrowedBy-none axes window unlimited = record {
  long = unlimited.long;
  exact = λ k z h. (
    (λ a. ((unlimited.every k z h).0 a, All-nil (AllowsAtPlace k z))),
    (λ both. (unlimited.every k z h).1 both.0),
  );
}

pub IsNarrowedBy-more : (axes : ℕ) (old new : List Interval) (tests : List (Test × ℕ)) (n : ℕ) (test : Test × ℕ) →
    IsNarrowedBy axes old (take n tests) → n < length tests → test ≡ get_or tests n test → NarrowsAt axes old new test →
    IsNarrowedBy axes new (take (n + 1) tests)
IsNarrowedBy-more axes old new tests n test by h is narrows = record {
  long = narrows.long ∙ by.long;
  exact = λ k z within. (
    (λ a.
        let both = (narrows.exact k z within).0 a in
        let before = (by.exact k z within).0 both.0 in
        (before.0, All-more (AllowsAtPlace k z) tests n test h before.1 (subst (AllowsAtPlace k z) is both.1))),
    (λ both.
        let parts = all_parts (AllowsAtPlace k z) tests n test h both.1 in
        (narrows.exact k z within).1 ((by.exact k z within).1 (both.0, parts.0), subst (AllowsAtPlace k z) (sym is) parts.1)),
  );
}

pub IsWindowAt-all : (axes : ℕ) (window : List Interval) (filter : Placed) (n : ℕ) → IsNarrowedBy axes window (take n (zip filter.cond filter.places)) →
    length (zip filter.cond filter.places) ≤ n → IsWindowAt axes filter window
IsWindowAt-all axes window filter n by h =
    let all : take n (zip filter.cond filter.places) ≡ zip filter.cond filter.places = take_all n (zip filter.cond filter.places) h in
    let each : IsNarrowedBy axes window (zip filter.cond filter.places) = rw all at by in
    record { long = each.long; exact = each.exact }
