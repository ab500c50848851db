-- What the values of a new row have to be. Source: SQLite's documentation (The SQLite R*Tree Module, section 3.1);
-- that nothing is converted, and the order of the refusals, are own.
use Rattle.std.specs.Prelude.{ℕ, ◌+◌, ◌*◌, ◌-◌, ◌^◌, ℤ, pos, negsuc, Bool, true, false, not, ◌&&◌, int_lt, int_le, if◌then◌else◌, List, [], ◌∷◌, map, take, drop, Option, Some, None, Result, Ok, Err, slice_index_or}
use Rattle.std.specs.List.{list_all}
use Rattle.rt_box.specs.declared.interval.Interval.{Interval}
use Rattle.rt_box.specs.Interval.{interval}
use Rattle.rt_sql_statement.specs.declared.value.Value.{Value}
use Rattle.rt_sql_statement.specs.declared.value.Value.TheVariants.{Null, Int, Text, Blob}
use Rattle.rt_sql_statement.specs.declared.refusal.Refusal.{Refusal}
use Rattle.rt_sql_statement.specs.declared.refusal.Refusal.TheVariants.{WrongType, IntegerOutOfRange, MinimumAboveMaximum, NoIdLeft}
use Rattle.rt_table_row.specs.Rows.{TableRow}

-- an id is an integer, or NULL for a new one
abbrev pub is_id : Value → Bool
is_id Null = true
is_id (Int n) = true
is_id (Text t) = false
is_id (Blob b) = false

abbrev pub is_integer : Value → Bool
is_integer Null = false
is_integer (Int n) = true
is_integer (Text t) = false
is_integer (Blob b) = false

abbrev pub id_in : Value → Option ℤ
id_in Null = None
id_in (Int n) = Some n
id_in (Text t) = None
id_in (Blob b) = None

abbrev pub number_in : Value → ℤ
number_in Null = pos 0
number_in (Int n) = n
number_in (Text t) = pos 0
number_in (Blob b) = pos 0

-- an integer of `bits` bits and a sign
abbrev pub fits_bits : ℕ → ℤ → Bool
fits_bits bits n = int_lt n (pos (2 ^ bits)) && int_le (negsuc (2 ^ bits - 1)) n

abbrev pub id_value : List Value → Value
id_value values = slice_index_or values 0 Null

-- the id that the values give; none if it is NULL
abbrev pub given_id : List Value → Option ℤ
given_id values = id_in (id_value values)

-- the values of the coordinates, which follow the id
abbrev pub coordinate_values : ℕ → List Value → List Value
coordinate_values axes values = take (2 * axes) (drop 1 values)

-- a minimum and a maximum for each axis
abbrev pub box_of : List ℤ → List Interval
box_of (lo ∷ hi ∷ rest) = interval lo hi ∷ box_of rest
box_of _ = []

abbrev pub is_ordered : List Interval → Bool
is_ordered box = list_all (λ i. int_le i.lo i.hi) box

-- the row of an id, if there is one
abbrev pub row_of_id : Option ℤ → List Interval → List Value → Result TableRow Refusal
row_of_id None box auxiliary = Err NoIdLeft
row_of_id (Some id) box auxiliary = Ok (record { id = id; box = box; auxiliary = auxiliary })

-- the row of an id, of coordinates, and of auxiliary values, or the first thing that is wrong: a coordinate of more than
-- 32 bits, a minimum above its maximum, no id
abbrev pub row_with : Option ℤ → List ℤ → List Value → Result TableRow Refusal
row_with id numbers auxiliary =
    if not (list_all (fits_bits 31) numbers) then Err IntegerOutOfRange
    else (if not (is_ordered (box_of numbers)) then Err MinimumAboveMaximum
    else row_of_id id (box_of numbers) auxiliary)

-- the row of that id that the values are; before all else, each has its type
abbrev pub row_from : ℕ → Option ℤ → List Value → Result TableRow Refusal
row_from axes id values =
    if not (is_id (id_value values) && list_all is_integer (coordinate_values axes values)) then Err WrongType
    else row_with id (map number_in (coordinate_values axes values)) (drop (1 + 2 * axes) values)
