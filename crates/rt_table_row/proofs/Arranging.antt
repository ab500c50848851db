-- Values in the order of looked-up places are in the order of names.
use Rattle.std.proofs.Common.{◌≡◌, ◌<◌, ◌≤◌, ◌+◌, ℕ, zero, suc, true, List, [], ◌∷◌, ◌++◌, Option, Some, None, map, take, get_or, length, refl, sym, ap, ◌∙◌, arith, take-suc, length-append, add-one}
use Rattle.std.proofs.lemmas.List.{map-append, get_or-map, get_or_append_left, length-map, take_all}
use Rattle.rt_sql_statement.specs.declared.value.Value.{Value}
use Rattle.rt_sql_statement.specs.declared.value.Value.TheVariants.{Null}
use Rattle.rt_table_row.specs.Columns.{place_of, are_distinct}
use Rattle.rt_table_row.specs.Edits.{column_values}
use Rattle.rt_table_row.specs.Arrangements.{value_at, own_places}
use Rattle.rt_table_row.proofs.Names.{own_place}

pub arranged_same : (names listed : List (List ℕ)) (values : List Value) → map (value_at values) (map (place_of listed) names) ≡ column_values names listed values
arranged_same [] listed values = refl
arranged_same (name ∷ names) listed values = rw (arranged_same names listed values)

-- ---- columns in their own places

pub length-own_places : (n : ℕ) → length (own_places n) ≡ n
length-own_places zero = refl
length-own_places (suc n) = let before = length-own_places n in grind (arith, before, length-append)

own_front : (values : List Value) (n : ℕ) → n ≤ length values → map (value_at values) (own_places n) ≡ take n values
own_front values zero h = refl
own_front values (suc n) h =
    map-append (value_at values) (own_places n) (Some n ∷ [])
    ∙ ap (λ (front : List Value). front ++ get_or values n Null ∷ []) (own_front values n (omega arith))
    ∙ sym (take-suc values n Null (omega arith))

-- values that stand in the order of the columns stay
pub own_values : (values : List Value) (n : ℕ) → length values ≡ n → map (value_at values) (own_places n) ≡ values
own_values values n long = own_front values n (omega arith) ∙ take_all n values (omega arith)

places_front : (names : List (List ℕ)) (n : ℕ) → are_distinct names ≡ true → n ≤ length names → own_places n ≡ take n (map (place_of names) names)
places_front names zero distinct h = refl
places_front names (suc n) distinct h =
    let within : n < length names = omega arith in
    let here : get_or (map (place_of names) names) n (Some n) ≡ Some n = get_or-map (place_of names) names n [] (Some n) within ∙ own_place names n [] distinct within in
    ap (λ (front : List (Option ℕ)). front ++ Some n ∷ []) (places_front names n distinct (omega arith))
    ∙ ap (λ (last : Option ℕ). take n (map (place_of names) names) ++ last ∷ []) (sym here)
    ∙ sym (take-suc (map (place_of names) names) n (Some n) (rw length-map within))

-- where no two columns have one name, each has its own place
pub places_own : (names : List (List ℕ)) (n : ℕ) → are_distinct names ≡ true → n ≡ length names → own_places n ≡ map (place_of names) names
places_own names n distinct long =
    places_front names n distinct (omega arith) ∙ take_all n (map (place_of names) names) (rw length-map (omega arith))

own_first : (n : ℕ) → 1 ≤ n → get_or (own_places n) 0 None ≡ Some 0
own_first zero h = absurd (omega arith)
own_first (suc zero) h = refl
own_first (suc (suc n)) h =
    let long : 0 < length (own_places (suc n)) = rw (length-own_places (suc n)) (omega arith) in
    get_or_append_left (own_places (suc n)) (Some (suc n) ∷ []) None 0 long ∙ own_first (suc n) (omega arith)

-- the first of the values in the order of the columns
pub first_value : (values : List Value) (places : List (Option ℕ)) → 1 ≤ length places →
    get_or (map (value_at values) places) 0 Null ≡ value_at values (get_or places 0 None)
first_value values [] h = absurd (omega arith)
first_value values (place ∷ places) h = refl

pub first_own : (values : List Value) (n : ℕ) → 1 ≤ n → get_or (map (value_at values) (own_places n)) 0 Null ≡ value_at values (Some 0)
first_own values n h =
    first_value values (own_places n) (rw (length-own_places n) h) ∙ ap (value_at values) (own_first n h)

-- one place more
pub own_more : (values : List Value) (done : List Value) (k : ℕ) (value : Value) → done ≡ map (value_at values) (own_places k) → value ≡ value_at values (Some k) →
    done ++ value ∷ [] ≡ map (value_at values) (own_places (k + 1))
own_more values done k value before here =
    ap (λ (front : List Value). front ++ value ∷ []) before ∙ ap (λ (last : Value). map (value_at values) (own_places k) ++ last ∷ []) here
    ∙ sym (rw add-one (map-append (value_at values) (own_places k) (Some k ∷ [])))
