-- The columns that a SELECT lists, and where they stand.
use Rattle.std.proofs.Common.{◌≡◌, ◌∙◌, ℕ, ℤ, zero, suc, ◌<◌, Bool, true, false, ◌&&◌, List, [], ◌∷◌, map, length, get_or, Option, Some, Ok, refl, sym, ap, arith}
use Rattle.std.specs.Prelude.{slice_index_or}
use Rattle.std.specs.List.{list_all}
use Rattle.rt_sql_statement.specs.declared.value.Value.{Value}
use Rattle.rt_sql_statement.specs.declared.value.Value.TheVariants.{Null}
use Rattle.rt_sql_statement.specs.declared.statement.Test.{Test}
use Rattle.rt_table_row.specs.Columns.{Columns, has_name, place_of}
use Rattle.rt_table_row.specs.Conditions.{value_in}
use Rattle.rt_table_row.specs.Rows.{TableRow, values_of}
use Rattle.rt_table_row.specs.Tables.{TableLists, select}
use Rattle.rt_table_row.proofs.Filters.{present}
use Rattle.rt_table.specs.Replies.{Shows, ShowsIds}
use Rattle.rt_reply.specs.declared.reply.Reply.TheVariants.{Rows}
use Rattle.rt_session.specs.Session.{select_reply, shown_values, is_by_id}
use Rattle.rt_session.specs.Selecting.{ArePlaces}
use Rattle.rt_reply.specs.Rows.{id_values, values_at}

pub one_fails : {X : Type 0} (p : X → Bool) (xs : List X) (at : ℕ) (x : X) → at < length xs → x ≡ get_or xs at x → p x ≡ false → list_all p xs ≡ false
one_fails p [] at x within read fails = absurd (omega arith)
one_fails p (y ∷ ys) zero x within read fails = rw (ap p (sym read) ∙ fails) refl
one_fails p (y ∷ ys) (suc at) x within read fails =
    let later = one_fails p ys at x (omega arith) read fails in
    elim (p y) as (λ b. (b && list_all p ys) ≡ false) [ true ↦ later | false ↦ refl ]

-- all of them are columns
are_known : (columns names : List (List ℕ)) (places : List ℕ) → ArePlaces columns names places → list_all (has_name columns) names ≡ true
are_known columns [] [] placed = refl
are_known columns [] (place ∷ places) placed = refl
are_known columns (name ∷ names) [] placed = absurd (let none : ⊥ = cc in none)
are_known columns (name ∷ names) (place ∷ places) placed =
    let here : place_of columns name ≡ Some place = cc in
    let later : ArePlaces columns names places = cc in
    rw (present columns name place here) (are_known columns names places later)

-- the values at their places are theirs
values_there : (columns names : List (List ℕ)) (places : List ℕ) (values : List Value) → ArePlaces columns names places → values_at places values ≡ map (value_in columns values) names
values_there columns [] [] values placed = refl
values_there columns [] (place ∷ places) values placed = absurd (let none : ⊥ = cc in none)
values_there columns (name ∷ names) [] values placed = absurd (let none : ⊥ = cc in none)
values_there columns (name ∷ names) (place ∷ places) values placed =
    let here : place_of columns name ≡ Some place = cc in
    let later : ArePlaces columns names places = cc in
    rw here (ap (λ vs. slice_index_or values place Null ∷ vs) (values_there columns names places values later))

columns_shown : (columns : Columns) (names : List (List ℕ)) (places : List ℕ) (rows : List TableRow) → ArePlaces columns.names names places
    → map (values_at places) (map values_of rows) ≡ map (shown_values columns (Some names)) rows
columns_shown columns names places [] placed = refl
columns_shown columns names places (row ∷ rows) placed =
    rw (values_there columns.names names places (values_of row) placed) (ap (λ vs. map (value_in columns.names (values_of row)) names ∷ vs) (columns_shown columns names places rows placed))

pub selected_columns : (t : TableLists) (names : List (List ℕ)) (cond : List Test) (order : Option (List ℕ)) (places : List ℕ) (values : List (List Value))
    → ArePlaces t.columns.names names places → is_by_id t.columns order ≡ true → Shows (select t cond) values
    → select_reply (Some names) cond order t ≡ Ok (Rows (map (values_at places) values))
selected_columns t names cond order places values placed by_id (rows, given, same) =
    rw (are_known t.columns.names names places placed, by_id, given, same, columns_shown t.columns names places rows placed) refl

-- where the id alone is listed
ids_shown : (rows : List TableRow) → map (values_at (0 ∷ [])) (map values_of rows) ≡ map id_values (map (λ (row : TableRow). row.id) rows)
ids_shown [] = refl
ids_shown (row ∷ rows) = ap (λ vs. id_values row.id ∷ vs) (ids_shown rows)

pub selected_ids : (t : TableLists) (names : List (List ℕ)) (cond : List Test) (order : Option (List ℕ)) (places : List ℕ) (ids : List ℤ)
    → ArePlaces t.columns.names names places → places ≡ 0 ∷ [] → is_by_id t.columns order ≡ true → ShowsIds (select t cond) ids
    → select_reply (Some names) cond order t ≡ Ok (Rows (map id_values ids))
selected_ids t names cond order places ids placed alone by_id (rows, given, same) =
    selected_columns t names cond order places (map values_of rows) placed by_id (rows, given, refl)
    ∙ ap (λ (ps : List ℕ). Ok (Rows (map (values_at ps) (map values_of rows)))) alone
    ∙ ap (λ (lists : List (List Value)). Ok (Rows lists)) (ids_shown rows)
    ∙ ap (λ (zs : List ℤ). Ok (Rows (map id_values zs))) (sym same)
