-- What a loop over a list makes of one element more.
use Rattle.std.proofs.Common.{◌≡◌, ℕ, ◌+◌, ◌<◌, ◌≤◌, List, [], ◌∷◌, ◌++◌, Option, Some, length, get_or, map, take, arith, length-append, append_assoc, le_refl, le_of_lt, ap, sym, ◌∙◌}
use Rattle.std.proofs.lemmas.List.{length-map, length-take-le, map-append, map_more, take_all, take_more, take-append-le}
use Rattle.rt_sql_statement.specs.declared.statement.Test.{Test}
use Rattle.rt_table_row.specs.Columns.{place_of}
use Rattle.rt_table_row.specs.Conditions.{column_of}
use Rattle.rt_table_row.specs.Filters.{ArePlaces}
use Rattle.rt_table_row.specs.RowLists.{IsPrefix}

module _ {X : Type 0} (xs : List X) (i : ℕ) (x : X) (within : i < length xs) (is : x ≡ get_or xs i x) where
  -- what is made of it was appended
  pub mapped-more : {Y : Type 0} (f : X → Y) (y : Y) (before after : List Y) → before ≡ map f (take i xs) → after ≡ before ++ y ∷ [] → y ≡ f x → after ≡ map f (take (i + 1) xs)
  mapped-more {Y} f y before after so more made =
      more ∙ ap (λ (ys : List Y). ys ++ y ∷ []) so ∙ ap (λ (z : Y). map f (take i xs) ++ z ∷ []) (made ∙ ap f is) ∙ sym (map_more f xs i x within)

  -- a copy of it was appended
  pub copied-more : (old before after : List X) (y : X) → before ≡ old ++ take i xs → after ≡ before ++ y ∷ [] → y ≡ x → after ≡ old ++ take (i + 1) xs
  copied-more old before after y so more same =
      more ∙ ap (λ (ys : List X). ys ++ y ∷ []) so ∙ append_assoc old (take i xs) (y ∷ [])
      ∙ ap (λ (z : X). old ++ (take i xs ++ z ∷ [])) (same ∙ is) ∙ ap (λ (ys : List X). old ++ ys) (sym (take_more xs i x within))

-- a list to which something was appended begins with what it was, and isn't shorter
pub is-prefix : {X : Type 0} (old more items : List X) → items ≡ old ++ more → IsPrefix old items
is-prefix old more items is = ap (take (length old)) is ∙ take-append-le (length old) old more (le_refl _) ∙ take_all (length old) old (le_refl _)

pub not-shorter : {X : Type 0} (old more items : List X) → items ≡ old ++ more → length old ≤ length items
not-shorter old more items is = omega (arith, ap length is, length-append old more)

-- there is room for what is made of one element more, if there is for all
pub mapped-room : {X Y : Type 0} (xs : List X) (i : ℕ) (f : X → Y) (ys : List Y) (n : ℕ) → i < length xs → ys ≡ map f (take i xs) → length xs ≤ n → length ys < n
mapped-room xs i f ys n within so few = omega (arith, ap length so, length-map (take i xs) f, length-take-le i xs (le_of_lt within))

-- the place of one test more
pub places-more : (names : List (List ℕ)) (tests : List Test) (i : ℕ) (test : Test) (before after : List ℕ) (place : ℕ) → i < length tests → test ≡ get_or tests i test →
    ArePlaces names (take i tests) before → after ≡ before ++ place ∷ [] → place_of names (column_of test) ≡ Some place → ArePlaces names (take (i + 1) tests) after
places-more names tests i test before after place within is so more found =
    let at : Test → Option ℕ = λ t. place_of names (column_of t) in
    map_more at tests i test within
    ∙ ap (λ (os : List (Option ℕ)). os ++ at (get_or tests i test) ∷ []) so
    ∙ ap (λ (o : Option ℕ). map Some before ++ o ∷ []) (sym (ap at is) ∙ found)
    ∙ sym (ap (map Some) more ∙ map-append Some before (place ∷ []))
