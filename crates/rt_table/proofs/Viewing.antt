-- The views of a table, looked up by name.
use Rattle.std.proofs.Common.{◌≡◌, ℕ, ℤ, zero, suc, ◌<◌, Bool, true, false, cond, not, ◌||◌, List, [], ◌∷◌, map, filter, length, get_or, Some, None, Ok, refl, sym, ap, ◌∙◌, arith}
use Rattle.std.specs.Prelude.{position}
use Rattle.std.specs.List.{list_any, remove}
use Rattle.std.proofs.lemmas.List.Elements.{filter_agree}
use Rattle.rt_table_row.proofs.Filters.{any_position}
use Rattle.rt_sql_statement.specs.declared.value.Value.{Value}
use Rattle.rt_sql_statement.specs.declared.statement.Test.{Test}
use Rattle.rt_table_row.specs.Rows.{TableRow, values_of}
use Rattle.rt_table_row.specs.Conditions.{holds, has_columns, picked}
use Rattle.rt_table_row.specs.Filters.{Placed, admits, IsFilterOf}
use Rattle.rt_table_row.specs.Tables.{TableLists, select, unwatch, has_view, is_view}
use Rattle.rt_table_row.specs.Views.{View}
use Rattle.rt_sql_statement.specs.Name.{same_name}
use Rattle.rt_table_view.specs.declared.view.Watched.{Watched}
use Rattle.rt_table_view.specs.Watching.{view_of}
use Rattle.rt_table.specs.Replies.{Shows, ShowsIds}

pub any_mapped : {X Y : Type 0} (p : Y → Bool) (f : X → Y) (xs : List X) → list_any p (map f xs) ≡ list_any (λ x. p (f x)) xs
any_mapped p f [] = refl
any_mapped p f (x ∷ xs) = ap (λ (b : Bool). p (f x) || b) (any_mapped p f xs)

map_choice : {X Y : Type 0} (f : X → Y) (b : Bool) (x : X) (xs ys : List X) → map f (cond b xs ys) ≡ cond b (map f xs) (map f ys)
map_choice f true x xs ys = refl
map_choice f false x xs ys = refl

pub map-sifted : {X Y : Type 0} (p : Y → Bool) (f : X → Y) (xs : List X) → map f (filter (λ x. p (f x)) xs) ≡ filter p (map f xs)
map-sifted p f [] = refl
map-sifted p f (x ∷ xs) = map_choice f (p (f x)) x _ _ ∙ ap (λ ys. cond (p (f x)) (f x ∷ ys) ys) (map-sifted p f xs)

-- one that is sifted out may go before
pub sifted_out : {X : Type 0} (p : X → Bool) (xs : List X) (at : ℕ) (d : X) → at < length xs → p (get_or xs at d) ≡ true → filter (λ x. not (p x)) (remove xs at) ≡ filter (λ x. not (p x)) xs
sifted_out p [] at d within is = absurd (omega arith)
sifted_out p (x ∷ xs) zero d within is = rw is
sifted_out p (x ∷ xs) (suc at) d within is = ap (λ ys. cond (not (p x)) (x ∷ ys) ys) (sifted_out p xs at d (omega arith) is)

all_stay : {X : Type 0} (p : X → Bool) (b : Bool) (x : X) (xs : List X) → p x ≡ b → (b || list_any p xs) ≡ false → (list_any p xs ≡ false → filter (λ y. not (p y)) xs ≡ xs) → filter (λ y. not (p y)) (x ∷ xs) ≡ x ∷ xs
all_stay p true x xs is none later = cc
all_stay p false x xs is none later = rw (is, later none)

pub none_sifted : {X : Type 0} (p : X → Bool) (xs : List X) → list_any p xs ≡ false → filter (λ x. not (p x)) xs ≡ xs
none_sifted p [] none = refl
none_sifted p (x ∷ xs) none = all_stay p (p x) x xs refl none (none_sifted p xs)

no_place : (b : Bool) (n : ℕ) → cond b (Some n) None ≡ None → b ≡ false
no_place true n none = cc
no_place false n none = refl

pub not_placed : {X : Type 0} (p : X → Bool) (xs : List X) → position p xs ≡ None → list_any p xs ≡ false
not_placed p xs none = any_position p xs ∙ no_place _ _ none

known_select : (lists : TableLists) (cond : List Test) → has_columns lists.columns cond ≡ true → select lists cond ≡ Ok (picked lists.columns cond lists.rows)
known_select lists cond known = rw known

-- what a filter of the condition picks is what is selected
pub selected : (lists : TableLists) (cond : List Test) (test : Placed) → IsFilterOf lists.columns cond test → (values : List (List Value)) → values ≡ map values_of (filter (admits test) lists.rows)
    → Shows (select lists cond) values
selected lists cond test is values shown =
    (picked lists.columns cond lists.rows, known_select lists cond is.known, shown ∙ ap (map values_of) (filter_agree (admits test) (holds lists.columns cond) is.same lists.rows))

pub selected_ids : (lists : TableLists) (cond : List Test) (test : Placed) → IsFilterOf lists.columns cond test → (ids : List ℤ) → ids ≡ map (λ row. row.id) (filter (admits test) lists.rows)
    → ShowsIds (select lists cond) ids
selected_ids lists cond test is ids shown =
    (picked lists.columns cond lists.rows, known_select lists cond is.known, shown ∙ ap (map (λ (row : TableRow). row.id)) (filter_agree (admits test) (holds lists.columns cond) is.same lists.rows))

pub unwatched : (lists : TableLists) (name : List ℕ) → has_view lists name ≡ true → unwatch lists name ≡ Ok (record lists { views = filter (λ view. not (is_view name view)) lists.views })
unwatched lists name there = rw there

-- what is left of the views is what is left of the table's
pub unwatched_of : (lists : TableLists) (name : List ℕ) (views left : List Watched) → lists.views ≡ map view_of views → left ≡ filter (λ w. not (same_name name w.name)) views → has_view lists name ≡ true
    → unwatch lists name ≡ Ok (record lists { views = map view_of left })
unwatched_of lists name views left same is there =
    unwatched lists name there
    ∙ ap (λ (vs : List View). Ok (record lists { views = vs }))
    (ap (filter (λ view. not (is_view name view))) same ∙ sym (map-sifted (λ view. not (is_view name view)) view_of views) ∙ ap (map view_of) (sym is))
