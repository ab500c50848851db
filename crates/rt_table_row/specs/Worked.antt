-- The definitions, held against worked examples: each says what a statement does to the rows of a small table, and
-- is proved by running the definitions.
use Rattle.std.specs.Prelude.{◌≡◌, ℕ, ◌-◌, ◌^◌, ℤ, pos, negsuc, true, false, List, [], ◌∷◌, map, codes, Some, None, Result, Ok, Err, refl}
use Rattle.rt_box.specs.Interval.{interval}
use Rattle.rt_sql_statement.specs.declared.value.Value.{Value}
use Rattle.rt_sql_statement.specs.declared.value.Value.TheVariants.{Null, Int, Text, Blob}
use Rattle.rt_sql_statement.specs.declared.statement.Rule.TheVariants.{Abort, Replace, Ignore}
use Rattle.rt_sql_statement.specs.declared.statement.Source.{Source}
use Rattle.rt_sql_statement.specs.declared.statement.Source.TheVariants.{Literal, Plus, Minus}
use Rattle.rt_box.specs.declared.operator.Operator.{Operator}
use Rattle.rt_box.specs.declared.operator.Operator.TheVariants.{Eq, Ne, Lt, Le, Gt, Ge}
use Rattle.rt_sql_statement.specs.declared.statement.Test.{Test}
use Rattle.rt_sql_statement.specs.declared.statement.Test.TheVariants.{Compare, IsNull, IsNotNull}
use Rattle.rt_sql_statement.specs.declared.statement.ColumnDef.{ColumnDef}
use Rattle.rt_sql_statement.specs.declared.refusal.Refusal.{Refusal}
use Rattle.rt_sql_statement.specs.declared.refusal.Refusal.TheVariants.{BadColumnList, NoSuchColumn, WrongNumberOfValues, WrongType, IntegerOutOfRange, IdAlreadyTaken, MinimumAboveMaximum, NoIdLeft, NoSuchView, ViewAlreadyExists}
use Rattle.rt_table_row.specs.Columns.{Columns, columns_of}
use Rattle.rt_table_row.specs.Rows.{TableRow}
use Rattle.rt_table_row.specs.Edits.{Setting, Steps, and_then, outcome, insert, update, delete}
use Rattle.rt_table_row.specs.Views.{ViewChange}
use Rattle.rt_table_row.specs.Tables.{TableLists, new_table, edited, select, watch, unwatch, view}

-- ---- tables to work on

abbrev plain : List ℕ → ColumnDef
plain name = record { name = name; auxiliary = false }

abbrev auxiliary : List ℕ → ColumnDef
auxiliary name = record { name = name; auxiliary = true }

-- a table of one axis, and one with an auxiliary column beside
abbrev points : Columns
points = record { axes = 1; names = codes "id" ∷ codes "minX" ∷ codes "maxX" ∷ [] }

abbrev noted : Columns
noted = record { axes = 1; names = codes "id" ∷ codes "minX" ∷ codes "maxX" ∷ codes "n" ∷ [] }

abbrev row : ℤ → ℤ → ℤ → TableRow
row id lo hi = record { id = id; box = interval lo hi ∷ []; auxiliary = [] }

abbrev note : ℤ → ℤ → ℤ → Value → TableRow
note id lo hi n = record { id = id; box = interval lo hi ∷ []; auxiliary = n ∷ [] }

abbrev n : ℕ → Value
n k = Int (pos k)

abbrev text : List ℕ → Value
text t = Text t

abbrev compare : List ℕ → Operator → Value → Test
compare column op value = Compare (record { column = column; op = op; value = value })

abbrev set : List ℕ → Source → Setting
set column source = (column, source)

-- the rows that the steps leave
abbrev left_by : List TableRow → Steps → Result (List TableRow) Refusal
left_by rows steps = and_then steps (λ done. Ok (outcome rows done))

abbrev ids_of : Result (List TableRow) Refusal → Result (List ℤ) Refusal
ids_of picked = and_then picked (λ rows. Ok (map (λ r. r.id) rows))

-- ---- columns

columns-three : columns_of (plain (codes "id") ∷ plain (codes "minX") ∷ plain (codes "maxX") ∷ auxiliary (codes "n") ∷ []) ≡ Ok noted
columns-three = refl

columns-two : columns_of (plain (codes "id") ∷ plain (codes "a") ∷ []) ≡ Err BadColumnList
columns-two = refl

columns-same_name : columns_of (plain (codes "id") ∷ plain (codes "a") ∷ plain (codes "A") ∷ []) ≡ Err BadColumnList
columns-same_name = refl

columns-plain_after_auxiliary : columns_of (plain (codes "id") ∷ auxiliary (codes "n") ∷ plain (codes "a") ∷ plain (codes "b") ∷ []) ≡ Err BadColumnList
columns-plain_after_auxiliary = refl

-- ---- INSERT

-- rows stand by rising id, whatever the order of the statements
insert-order : left_by (row (pos 9) (pos 5) (pos 7) ∷ []) (insert points (row (pos 9) (pos 5) (pos 7) ∷ []) Abort None ((n 2 ∷ Int (negsuc 0) ∷ n 0 ∷ []) ∷ []))
    ≡ Ok (row (pos 2) (negsuc 0) (pos 0) ∷ row (pos 9) (pos 5) (pos 7) ∷ [])
insert-order = refl

-- a minimum above its maximum, under each rule
insert-reversed : insert points [] Abort None ((n 1 ∷ n 3 ∷ n 2 ∷ []) ∷ []) ≡ Err MinimumAboveMaximum
insert-reversed = refl

insert-reversed_ignored : insert points [] Ignore None ((n 1 ∷ n 3 ∷ n 2 ∷ []) ∷ []) ≡ Ok []
insert-reversed_ignored = refl

insert-reversed_replace : insert points [] Replace None ((n 1 ∷ n 3 ∷ n 2 ∷ []) ∷ []) ≡ Err MinimumAboveMaximum
insert-reversed_replace = refl

-- a new id: 1 in an empty table, one more than the largest, also below 0, and none beside the largest integer
insert-first_id : left_by [] (insert points [] Abort None ((Null ∷ n 1 ∷ n 1 ∷ []) ∷ [])) ≡ Ok (row (pos 1) (pos 1) (pos 1) ∷ [])
insert-first_id = refl

insert-id_below_zero : left_by (row (negsuc 4) (pos 0) (pos 0) ∷ []) (insert points (row (negsuc 4) (pos 0) (pos 0) ∷ []) Abort None ((Null ∷ n 1 ∷ n 1 ∷ []) ∷ []))
    ≡ Ok (row (negsuc 4) (pos 0) (pos 0) ∷ row (negsuc 3) (pos 1) (pos 1) ∷ [])
insert-id_below_zero = refl

insert-no_id_left : insert points (row (pos (2 ^ 63 - 1)) (pos 2) (pos 2) ∷ []) Abort (Some (codes "minX" ∷ codes "maxX" ∷ [])) ((n 3 ∷ n 3 ∷ []) ∷ []) ≡ Err NoIdLeft
insert-no_id_left = refl

-- the skipped row has a new id and a reversed box beside the largest integer: the box is looked at first
insert-ignored_before_new_id : insert points (row (pos (2 ^ 63 - 1)) (pos 2) (pos 2) ∷ []) Ignore None ((Null ∷ n 3 ∷ n 2 ∷ []) ∷ []) ≡ Ok []
insert-ignored_before_new_id = refl

insert-too_few : insert points [] Abort None ((n 1 ∷ n 2 ∷ []) ∷ []) ≡ Err WrongNumberOfValues
insert-too_few = refl

insert-text_id : insert points [] Abort None ((text (codes "1") ∷ n 2 ∷ n 3 ∷ []) ∷ []) ≡ Err WrongType
insert-text_id = refl

insert-too_large : insert points [] Abort None ((n 1 ∷ n 2 ∷ n (2 ^ 31) ∷ []) ∷ []) ≡ Err IntegerOutOfRange
insert-too_large = refl

-- names of one list are compared before they are looked up
insert-unknown_twice : insert points [] Abort (Some (codes "z" ∷ codes "Z" ∷ [])) ((n 1 ∷ n 2 ∷ []) ∷ []) ≡ Err BadColumnList
insert-unknown_twice = refl

-- a taken id, under each rule
abbrev one : List TableRow
one = note (pos 1) (pos 0) (pos 1) (text (codes "it's")) ∷ []

insert-taken : insert noted one Abort None ((n 1 ∷ n 5 ∷ n 6 ∷ Blob (0 ∷ 255 ∷ []) ∷ []) ∷ []) ≡ Err IdAlreadyTaken
insert-taken = refl

insert-taken_ignored : insert noted one Ignore None ((n 1 ∷ n 5 ∷ n 6 ∷ Blob (0 ∷ 255 ∷ []) ∷ []) ∷ []) ≡ Ok []
insert-taken_ignored = refl

insert-taken_replaced : left_by one (insert noted one Replace None ((n 1 ∷ n 5 ∷ n 6 ∷ Blob (0 ∷ 255 ∷ []) ∷ []) ∷ []))
    ≡ Ok (note (pos 1) (pos 5) (pos 6) (Blob (0 ∷ 255 ∷ [])) ∷ [])
insert-taken_replaced = refl

-- several rows: each among those before it, one refusal for all
insert-several : ids_of (left_by [] (insert noted [] Abort None ((n 1 ∷ n 0 ∷ n 5 ∷ text (codes "a") ∷ []) ∷ (Null ∷ n 0 ∷ n 9 ∷ text (codes "b") ∷ []) ∷ (Null ∷ n 2 ∷ n 3 ∷ text (codes "c") ∷ []) ∷ [])))
    ≡ Ok (pos 1 ∷ pos 2 ∷ pos 3 ∷ [])
insert-several = refl

insert-several_taken : insert noted [] Abort None ((n 4 ∷ n 0 ∷ n 0 ∷ Null ∷ []) ∷ (n 4 ∷ n 1 ∷ n 1 ∷ Null ∷ []) ∷ []) ≡ Err IdAlreadyTaken
insert-several_taken = refl

insert-several_no_id_left : insert noted [] Abort None ((n (2 ^ 63 - 1) ∷ n 0 ∷ n 0 ∷ Null ∷ []) ∷ (Null ∷ n 0 ∷ n 0 ∷ Null ∷ []) ∷ []) ≡ Err NoIdLeft
insert-several_no_id_left = refl

-- the number of values is looked at before any row
insert-several_too_few : insert noted [] Abort None ((n 6 ∷ n 2 ∷ n 1 ∷ Null ∷ []) ∷ (n 7 ∷ n 0 ∷ n 0 ∷ []) ∷ []) ≡ Err WrongNumberOfValues
insert-several_too_few = refl

insert-several_reversed : insert noted [] Abort None ((n 6 ∷ n 2 ∷ n 1 ∷ Null ∷ []) ∷ (text (codes "7") ∷ n 0 ∷ n 0 ∷ Null ∷ []) ∷ []) ≡ Err MinimumAboveMaximum
insert-several_reversed = refl

-- ---- UPDATE and DELETE

abbrev two : List TableRow
two = row (pos 1) (pos 0) (pos 0) ∷ row (pos 2) (pos 0) (pos 0) ∷ []

-- the first row's new id is the second row's, which is still there
update-up : update points two (set (codes "id") (Plus (codes "id") (pos 1)) ∷ []) [] ≡ Err IdAlreadyTaken
update-up = refl

-- the second row's new id was the first row's, which has gone
update-down : ids_of (left_by two (update points two (set (codes "id") (Minus (codes "id") (pos 1)) ∷ []) [])) ≡ Ok (pos 0 ∷ pos 1 ∷ [])
update-down = refl

-- the third row's maximum doesn't fit
update-third : update points (row (pos 1) (pos 0) (pos 5) ∷ row (pos 2) (pos 0) (pos 6) ∷ row (pos 3) (pos 0) (pos (2 ^ 31 - 1)) ∷ [])
    (set (codes "maxX") (Plus (codes "maxX") (pos 1)) ∷ []) [] ≡ Err IntegerOutOfRange
update-third = refl

update-text_plus_one : update noted one (set (codes "n") (Plus (codes "n") (pos 1)) ∷ []) [] ≡ Err WrongType
update-text_plus_one = refl

update-sum_of_65_bits : update noted (note (pos 1) (pos 0) (pos 1) (n (2 ^ 63 - 1)) ∷ []) (set (codes "n") (Plus (codes "n") (pos 1)) ∷ []) [] ≡ Err IntegerOutOfRange
update-sum_of_65_bits = refl

update-null_id : update noted one (set (codes "id") (Literal Null) ∷ []) [] ≡ Err WrongType
update-null_id = refl

update-reversed : update noted one (set (codes "minX") (Plus (codes "maxX") (pos 1)) ∷ []) [] ≡ Err MinimumAboveMaximum
update-reversed = refl

-- each code over all columns before the next: the type of the last column before the range of the first
update-type_before_range : update noted one (set (codes "minX") (Plus (codes "minX") (pos (2 ^ 31))) ∷ set (codes "n") (Minus (codes "n") (pos 1)) ∷ []) [] ≡ Err WrongType
update-type_before_range = refl

-- no row is picked, so nothing is wrong with the new values
update-none : update noted one (set (codes "id") (Literal Null) ∷ []) (compare (codes "id") Gt (n 5) ∷ []) ≡ Ok []
update-none = refl

delete-above_one : left_by two (delete points two (compare (codes "ID") Gt (n 1) ∷ [])) ≡ Ok (row (pos 1) (pos 0) (pos 0) ∷ [])
delete-above_one = refl

-- ---- conditions

abbrev five : TableLists
five = record (new_table noted) {
  rows = note (pos 1) (pos 0) (pos 1) Null ∷ note (pos 2) (pos 0) (pos 1) (n 5) ∷ note (pos 3) (pos 0) (pos 1) (text (codes "5"))
      ∷ note (pos 4) (pos 0) (pos 1) (text (codes "b")) ∷ note (pos 5) (pos 0) (pos 1) (Blob (0 ∷ [])) ∷ [];
}

abbrev of_n : Operator → Value → List Test
of_n op value = compare (codes "n") op value ∷ []

abbrev those : List Test → Result (List ℤ) Refusal
those cond = ids_of (select five cond)

select-above_integer : those (of_n Gt (n 5)) ≡ Ok (pos 3 ∷ pos 4 ∷ pos 5 ∷ [])
select-above_integer = refl

select-other_than_integer : those (of_n Ne (n 5)) ≡ Ok (pos 3 ∷ pos 4 ∷ pos 5 ∷ [])
select-other_than_integer = refl

select-up_to_text : those (of_n Le (text (codes "5"))) ≡ Ok (pos 2 ∷ pos 3 ∷ [])
select-up_to_text = refl

select-integer : those (of_n Eq (n 5)) ≡ Ok (pos 2 ∷ [])
select-integer = refl

select-null : those (IsNull (codes "n") ∷ []) ≡ Ok (pos 1 ∷ [])
select-null = refl

select-below_empty_blob : those (IsNotNull (codes "n") ∷ of_n Lt (Blob [])) ≡ Ok (pos 2 ∷ pos 3 ∷ pos 4 ∷ [])
select-below_empty_blob = refl

select-coordinate_below_text : those (compare (codes "minX") Lt (text (codes "a")) ∷ of_n Ge (text (codes "b"))) ≡ Ok (pos 4 ∷ pos 5 ∷ [])
select-coordinate_below_text = refl

select-equal_to_null : those (of_n Eq Null) ≡ Ok []
select-equal_to_null = refl

select-other_than_null : those (of_n Ne Null) ≡ Ok []
select-other_than_null = refl

select-other_text : those (of_n Eq (text (codes "05"))) ≡ Ok []
select-other_text = refl

select-coordinate_above_text : those (compare (codes "minX") Gt (text (codes "a")) ∷ []) ≡ Ok []
select-coordinate_above_text = refl

select-null_id : those (IsNull (codes "id") ∷ []) ≡ Ok []
select-null_id = refl

select-unknown : those (IsNull (codes "z") ∷ []) ≡ Err NoSuchColumn
select-unknown = refl

-- ---- views

abbrev watched : Columns → List TableRow → List Test → TableLists
watched columns rows cond = record { columns = columns; rows = rows; views = record { name = codes "v"; cond = cond } ∷ [] }

-- the changes that the steps make in the views
abbrev changes : TableLists → Steps → Result (List ViewChange) Refusal
changes t steps = and_then (edited t steps) (λ done. Ok done.0)

abbrev minus : List Value → ViewChange
minus row = record { view = codes "v"; came = false; row = row }

abbrev plus : List Value → ViewChange
plus row = record { view = codes "v"; came = true; row = row }

abbrev small : List Test
small = compare (codes "maxX") Le (n 5) ∷ []

abbrev first : List TableRow
first = note (pos 1) (pos 0) (pos 5) (text (codes "a")) ∷ []

-- a row leaves the window, and another auxiliary value comes with it
view-left : changes (watched noted first small) (insert noted first Replace None ((n 1 ∷ n 0 ∷ n 9 ∷ text (codes "b") ∷ []) ∷ []))
    ≡ Ok (minus (n 1 ∷ n 0 ∷ n 5 ∷ text (codes "a") ∷ []) ∷ [])
view-left = refl

-- an auxiliary value alone is a change
view-note_alone : changes (watched noted first small) (update noted first (set (codes "n") (Literal Null) ∷ []) (compare (codes "id") Eq (n 1) ∷ []))
    ≡ Ok (minus (n 1 ∷ n 0 ∷ n 5 ∷ text (codes "a") ∷ []) ∷ plus (n 1 ∷ n 0 ∷ n 5 ∷ Null ∷ []) ∷ [])
view-note_alone = refl

-- an equal row in the place of a row is none
view-equal_row : changes (watched noted first small) (insert noted first Replace None ((n 1 ∷ n 0 ∷ n 5 ∷ text (codes "a") ∷ []) ∷ [])) ≡ Ok []
view-equal_row = refl

-- a statement's changes are those of all of its rows together
view-moved_ids : changes (watched points two []) (update points two (set (codes "id") (Minus (codes "id") (pos 1)) ∷ []) [])
    ≡ Ok (plus (n 0 ∷ n 0 ∷ n 0 ∷ []) ∷ minus (n 2 ∷ n 0 ∷ n 0 ∷ []) ∷ [])
view-moved_ids = refl

view-there_and_back : changes (watched points (row (pos 4) (pos 0) (pos 0) ∷ []) [])
    (insert points (row (pos 4) (pos 0) (pos 0) ∷ []) Replace None ((n 4 ∷ n 7 ∷ n 7 ∷ []) ∷ (n 4 ∷ n 0 ∷ n 0 ∷ []) ∷ [])) ≡ Ok []
view-there_and_back = refl

-- rows come into a view because an auxiliary value became NULL, and leave it likewise
view-null_notes : changes (record five { views = record { name = codes "v"; cond = IsNull (codes "n") ∷ [] } ∷ [] }) (update noted five.rows (set (codes "n") (Literal Null) ∷ []) (of_n Gt (text (codes "5"))))
    ≡ Ok (plus (n 4 ∷ n 0 ∷ n 1 ∷ Null ∷ []) ∷ plus (n 5 ∷ n 0 ∷ n 1 ∷ Null ∷ []) ∷ [])
view-null_notes = refl

-- a name is taken whatever its case, and a view that goes can be named again
watch-again : and_then (watch (new_table points) (codes "v") []) (λ t. watch t (codes "V") []) ≡ Err ViewAlreadyExists
watch-again = refl

unwatch-twice : and_then (watch (new_table points) (codes "v") []) (λ t. and_then (unwatch t (codes "V")) (λ u. unwatch u (codes "v"))) ≡ Err NoSuchView
unwatch-twice = refl

view-unknown : view (new_table points) (codes "v") ≡ Err NoSuchView
view-unknown = refl
