-- Rows whose numbers and auxiliary values stand in two lists, and one more behind them.
use Rattle.std.proofs.Common.{◌≡◌, ℤ, ◌-◌, List, [], ◌∷◌, ◌++◌, map, length, take, drop, All, Result, Ok, Err, arith, refl, ap, sym, ◌∙◌}
use Rattle.std.specs.Prelude.{OnErr}
use Rattle.std.proofs.lemmas.List.{length-append, length-drop, take_all, drop_at, drop-append-le, take-append-le, take-append-drop}
use Rattle.std.proofs.lemmas.List.Elements.{All-head, All-tail}
use Rattle.rt_sql_statement.specs.declared.value.Value.{Value}
use Rattle.rt_sql_statement.specs.declared.value.Value.TheVariants.{Int}
use Rattle.rt_table_row.specs.declared.row_list.Span.{Span}
use Rattle.rt_table_row.specs.declared.row_list.Place.{Place}
use Rattle.rt_table_row.specs.RowLists.{part, row_in, IsWithin, IsPrefix}

-- a part stays where more come behind
part_kept : {A : Type 0} (items more : List A) (s : Span) → IsWithin items s → part (items ++ more) s ≡ part items s
part_kept items more s within =
    ap (take (s.end - s.start)) (drop-append-le s.start items more (omega (arith, within.0, within.1)))
    ∙ take-append-le (s.end - s.start) (drop s.start items) more (omega (arith, within.0, within.1, length-drop s.start items))

part_new : {A : Type 0} (items more : List A) (s : Span) → s.start ≡ length items → s.end ≡ length (items ++ more) → part (items ++ more) s ≡ more
part_new items more s from to =
    ap (take (s.end - s.start)) (drop_at items more s.start (sym from))
    ∙ take_all (s.end - s.start) more (omega (arith, from, to, length-append items more))

abbrev AreWithin : List ℤ → List Value → List Place → Type 0
AreWithin numbers values places = All (λ place. IsWithin numbers place.numbers × IsWithin values place.auxiliary) places

row_kept : (numbers ns : List ℤ) (values vs : List Value) (p : Place) → IsWithin numbers p.numbers → IsWithin values p.auxiliary →
    row_in (numbers ++ ns) (values ++ vs) p ≡ row_in numbers values p
row_kept numbers ns values vs p in_numbers in_values =
    ap (λ (xs : List ℤ). map Int xs ++ part (values ++ vs) p.auxiliary) (part_kept numbers ns p.numbers in_numbers)
    ∙ ap (λ (xs : List Value). map Int (part numbers p.numbers) ++ xs) (part_kept values vs p.auxiliary in_values)

rows_kept : (numbers ns : List ℤ) (values vs : List Value) (places : List Place) → AreWithin numbers values places →
    map (row_in (numbers ++ ns) (values ++ vs)) places ≡ map (row_in numbers values) places
rows_kept numbers ns values vs [] within = refl
rows_kept numbers ns values vs (p ∷ places) within =
    let here = All-head (λ place. IsWithin numbers place.numbers × IsWithin values place.auxiliary) p places within in
    ap (λ (row : List Value). row ∷ map (row_in (numbers ++ ns) (values ++ vs)) places) (row_kept numbers ns values vs p here.0 here.1)
    ∙ ap (λ (rows : List (List Value)). row_in numbers values p ∷ rows)
    (rows_kept numbers ns values vs places (All-tail (λ place. IsWithin numbers place.numbers × IsWithin values place.auxiliary) p places within))

pub on_err : {T E P : Type 0} (r : Result T E) → P → OnErr r P
on_err (Ok a) p = tt
on_err (Err e) p = p

-- what is pushed without a place belongs to no row
pub rows-kept : (numbers ns : List ℤ) (values more : List Value) (places : List Place) →
    All (λ place. IsWithin numbers place.numbers × IsWithin values place.auxiliary) places → IsPrefix values more →
    map (row_in (numbers ++ ns) more) places ≡ map (row_in numbers values) places
rows-kept numbers ns values more places within prefix =
    let rest = drop (length values) more in
    ap (λ (xs : List Value). map (row_in (numbers ++ ns) xs) places)
    (sym (take-append-drop (length values) more) ∙ ap (λ (xs : List Value). xs ++ rest) prefix)
    ∙ rows_kept numbers ns values rest places within

map_more_one : (f : Place → List Value) (places : List Place) (p : Place) → map f (places ++ p ∷ []) ≡ map f places ++ f p ∷ []
map_more_one f [] p = refl
map_more_one f (q ∷ places) p = ap (λ (rows : List (List Value)). f q ∷ rows) (map_more_one f places p)

-- one row more
pub rows-push : (numbers ns : List ℤ) (values vs : List Value) (places : List Place) (p : Place) →
    All (λ place. IsWithin numbers place.numbers × IsWithin values place.auxiliary) places →
    p.numbers.start ≡ length numbers → p.numbers.end ≡ length (numbers ++ ns) → p.auxiliary.start ≡ length values → p.auxiliary.end ≡ length (values ++ vs) →
    map (row_in (numbers ++ ns) (values ++ vs)) (places ++ p ∷ []) ≡ map (row_in numbers values) places ++ (map Int ns ++ vs) ∷ []
rows-push numbers ns values vs places p within from to start end =
    map_more_one (row_in (numbers ++ ns) (values ++ vs)) places p
    ∙ ap (λ (rows : List (List Value)). rows ++ row_in (numbers ++ ns) (values ++ vs) p ∷ []) (rows_kept numbers ns values vs places within)
    ∙ ap (λ (last : List Value). map (row_in numbers values) places ++ last ∷ [])
    (ap (λ (xs : List ℤ). map Int xs ++ part (values ++ vs) p.auxiliary) (part_new numbers ns p.numbers from to)
    ∙ ap (λ (xs : List Value). map Int ns ++ xs) (part_new values vs p.auxiliary start end))
