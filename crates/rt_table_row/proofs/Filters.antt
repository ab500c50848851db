-- A condition whose columns were looked up picks the rows that it picks by their names.
use Rattle.std.proofs.Common.{◌≡◌, ℕ, suc, ◌+◌, ◌<◌, ◌≤◌, ℤ, Bool, true, false, cond, not, ◌||◌, ◌&&◌, List, [], ◌∷◌, zip, length, get_or, take, sym, ap, arith, refl, ◌∙◌, nat_lt, Option, Some, None, IfSome, slice_index_or}
use Rattle.std.specs.List.{list_any, list_all, position_or_len}
use Rattle.std.specs.Option.{option_map_or}
use Rattle.std.specs.Ordering.{int_eq}
use Rattle.std.proofs.lemmas.Bool.Decides.{nat_tests}
use Rattle.std.proofs.lemmas.List.{take_all}
use Rattle.std.proofs.lemmas.List.Folds.{list_all_at, list_any_more}
use Rattle.rt_sql_statement.specs.Name.{same_name}
use Rattle.rt_sql_statement.specs.declared.value.Value.{Value}
use Rattle.rt_sql_statement.specs.declared.value.Value.TheVariants.{Null}
use Rattle.rt_sql_statement.specs.declared.statement.Test.{Test}
use Rattle.rt_sql_statement.specs.declared.statement.Test.TheVariants.{Compare, IsNull, IsNotNull}
use Rattle.rt_table_row.specs.Values.{is_null, compares}
use Rattle.rt_table_row.specs.Columns.{Columns, place_of, has_name}
use Rattle.rt_table_row.specs.Conditions.{column_of, value_in, passes, holds, has_columns}
use Rattle.rt_table_row.specs.Rows.{TableRow, values_of}
use Rattle.rt_table_row.specs.Filters.{value_passes, passes_at, ArePlaces}

pub less : (n m : ℕ) → nat_lt n m ≡ nat_lt (1 + n) (suc m)
less n m = grind (arith, nat_tests)

pub first : (m : ℕ) → true ≡ nat_lt 0 (suc m)
first m = grind (arith, nat_tests)

any_here : (b tail : Bool) (n m : ℕ) → tail ≡ nat_lt n m →
    (b || tail) ≡ nat_lt (cond (not b) (1 + n) 0) (suc m)
any_here true tail n m e = first m
any_here false tail n m e = e ∙ less n m

pub any_position : {X : Type 0} (p : X → Bool) (xs : List X) → list_any p xs ≡ nat_lt (position_or_len p xs) (length xs)
any_position p [] = refl
any_position p (x ∷ xs) = any_here (p x) (list_any p xs) (position_or_len p xs) (length xs) (any_position p xs)

none_here : (b : Bool) (n : ℕ) → cond b (Some n) None ≡ None → b ≡ false
none_here true n e = cc
none_here false n e = refl

some_here : (b : Bool) (n k : ℕ) → cond b (Some n) None ≡ Some k → b ≡ true
some_here true n k e = refl
some_here false n k e = cc

pub absent : (names : List (List ℕ)) (name : List ℕ) → place_of names name ≡ None → has_name names name ≡ false
absent names name e = any_position (same_name name) names ∙ none_here _ _ e

pub present : (names : List (List ℕ)) (name : List ℕ) (place : ℕ) → place_of names name ≡ Some place → has_name names name ≡ true
present names name place e = any_position (same_name name) names ∙ some_here _ _ place e

pub value_there : (names : List (List ℕ)) (values : List Value) (name : List ℕ) (place : ℕ) → place_of names name ≡ Some place →
    slice_index_or values place Null ≡ value_in names values name
value_there names values name place e = sym (ap (λ (o : Option ℕ). option_map_or (λ (k : ℕ). slice_index_or values k Null) o Null) e)

passes_there : (names : List (List ℕ)) (values : List Value) (test : Test) (place : ℕ) → place_of names (column_of test) ≡ Some place →
    value_passes (slice_index_or values place Null) test ≡ passes names values test
passes_there names values (Compare c) place e = ap (λ (v : Value). compares c.op v c.value) (value_there names values c.column place e)
passes_there names values (IsNull name) place e = ap is_null (value_there names values name place e)
passes_there names values (IsNotNull name) place e = ap (λ (v : Value). value_passes v (IsNotNull name)) (value_there names values name place e)

pub admits_same : (columns : Columns) (tests : List Test) (places : List ℕ) (row : TableRow) → ArePlaces columns.names tests places →
    list_all (passes_at row) (zip tests places) ≡ holds columns tests row
admits_same columns [] [] row e = refl
admits_same columns [] (place ∷ places) row e = refl
admits_same columns (test ∷ tests) [] row e = cc
admits_same columns (test ∷ tests) (place ∷ places) row e =
    let here : place_of columns.names (column_of test) ≡ Some place = cc in
    let later : ArePlaces columns.names tests places = cc in
    let one : value_passes (slice_index_or (values_of row) place Null) test ≡ passes columns.names (values_of row) test = passes_there columns.names (values_of row) test place here in
    let rest : list_all (passes_at row) (zip tests places) ≡ holds columns tests row = admits_same columns tests places row later in
    rw (one, rest)

pub has_columns_from : (columns : Columns) (tests : List Test) (places : List ℕ) → ArePlaces columns.names tests places → has_columns columns tests ≡ true
has_columns_from columns [] places e = refl
has_columns_from columns (test ∷ tests) [] e = cc
has_columns_from columns (test ∷ tests) (place ∷ places) e =
    let here : place_of columns.names (column_of test) ≡ Some place = cc in
    let later : ArePlaces columns.names tests places = cc in
    rw (present columns.names (column_of test) place here) (has_columns_from columns tests places later)

passes_here : (t : Bool) → (t ≡ false → false ≡ true) → t ≡ true
passes_here true none = refl
passes_here false none = none refl

-- what passes all of the tests passes each one
pub passes_each : {X : Type 0} (p : X → Bool) (xs : List X) (n : ℕ) (x : X) → n < length xs → x ≡ get_or xs n x → list_all p xs ≡ true → p x ≡ true
passes_each p xs n x h is all = passes_here (p x) (λ none. sym (list_all_at p xs n x h (sym (ap p is) ∙ none)) ∙ all)

-- the tests up to one that doesn't fix the id
pub unfixed_more : {X : Type 0} (p : X → Bool) (xs : List X) (n : ℕ) (x : X) → n < length xs → x ≡ get_or xs n x →
    list_any p (take n xs) ≡ false → p x ≡ false → list_any p (take (n + 1) xs) ≡ false
unfixed_more p xs n x h is before here =
    let there : p (get_or xs n x) ≡ false = sym (ap p is) ∙ here in
    list_any_more p xs n x h ∙ rw (before, there)

pub unfixed_all : {X : Type 0} (p : X → Bool) (xs : List X) (n : ℕ) → length xs ≤ n → list_any p (take n xs) ≡ false → list_any p xs ≡ false
unfixed_all p xs n h none = sym (ap (list_any p) (take_all n xs h)) ∙ none

-- ---- a condition of one test

one-item : {X : Type 0} (xs : List X) (x : X) → length xs ≡ 1 → x ≡ get_or xs 0 x → xs ≡ x ∷ []
one-item [] x one is = absurd (omega (arith, one))
one-item (y ∷ []) x one is = ap (λ z. z ∷ []) (sym is)
one-item (y ∷ z ∷ xs) x one is = absurd (omega (arith, one))

lone-place : (columns : Columns) (tests : List Test) (test : Test) (place : ℕ) → tests ≡ test ∷ [] → place_of columns.names (column_of test) ≡ Some place → ArePlaces columns.names tests (place ∷ [])
lone-place columns tests test place is there = rw is (ap (λ (o : Option ℕ). o ∷ []) there)

and-true : (b : Bool) → (b && true) ≡ b
and-true true = refl
and-true false = refl

module _ (columns : Columns) (tests : List Test) (test : Test) (place : ℕ) (one : length tests ≡ 1) (is : test ≡ get_or tests 0 test) (there : place_of columns.names (column_of test) ≡ Some place) where
  alone : tests ≡ test ∷ []
  alone = one-item tests test one is

  pub lone-known : (found : Option ℤ) → IfSome found (λ _. has_columns columns tests ≡ true)
  lone-known None = tt
  lone-known (Some id) = has_columns_from columns tests (place ∷ []) (lone-place columns tests test place alone there)

  lone-holds : (row : TableRow) → holds columns tests row ≡ passes_at row (test, place)
  lone-holds row =
      sym (admits_same columns tests (place ∷ []) row (lone-place columns tests test place alone there))
      ∙ ap (λ (ts : List Test). list_all (passes_at row) (zip ts (place ∷ []))) alone
      ∙ and-true (passes_at row (test, place))

  pub lone-exact : (found : Option ℤ) → IfSome found (λ id. (row : TableRow) → passes_at row (test, place) ≡ int_eq row.id id) → IfSome found (λ id. (row : TableRow) → holds columns tests row ≡ int_eq row.id id)
  lone-exact None exact = tt
  lone-exact (Some id) exact = λ row. lone-holds row ∙ exact row
