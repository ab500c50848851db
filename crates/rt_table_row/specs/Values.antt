-- How values stand to one another. Source: SQLite's documentation (Datatypes In SQLite, sections 4.1 and 4.2);
-- that nothing is converted before it is compared is own.
use Rattle.std.specs.Prelude.{ℕ, Bool, true, false, not, ◌&&◌, ◌||◌}
use Rattle.std.specs.declared.cmp.Ordering.{Ordering}
use Rattle.std.specs.Ordering.{is_eq, is_ne, is_lt, is_le, is_gt, is_ge, nat_cmp, int_cmp}
use Rattle.std.specs.Cmp.Lexicographic.{slice_cmp}
use Rattle.rt_sql_statement.specs.declared.value.Value.{Value}
use Rattle.rt_sql_statement.specs.declared.value.Value.TheVariants.{Null, Int, Text, Blob}
use Rattle.rt_box.specs.declared.operator.Operator.{Operator}
use Rattle.rt_box.specs.declared.operator.Operator.TheVariants.{Eq, Ne, Lt, Le, Gt, Ge}

abbrev pub is_null : Value → Bool
is_null Null = true
is_null (Int n) = false
is_null (Text t) = false
is_null (Blob b) = false

-- integers come before texts, and texts before blobs
abbrev pub rank : Value → ℕ
rank Null = 0
rank (Int n) = 1
rank (Text t) = 2
rank (Blob b) = 3

-- integers by size, texts and blobs by their bytes, values of two types by their types
abbrev pub value_cmp : Value → Value → Ordering
value_cmp Null b = nat_cmp (rank Null) (rank b)
value_cmp (Int a) Null = nat_cmp (rank (Int a)) (rank Null)
value_cmp (Int a) (Int b) = int_cmp a b
value_cmp (Int a) (Text b) = nat_cmp (rank (Int a)) (rank (Text b))
value_cmp (Int a) (Blob b) = nat_cmp (rank (Int a)) (rank (Blob b))
value_cmp (Text a) Null = nat_cmp (rank (Text a)) (rank Null)
value_cmp (Text a) (Int b) = nat_cmp (rank (Text a)) (rank (Int b))
value_cmp (Text a) (Text b) = slice_cmp nat_cmp a b
value_cmp (Text a) (Blob b) = nat_cmp (rank (Text a)) (rank (Blob b))
value_cmp (Blob a) Null = nat_cmp (rank (Blob a)) (rank Null)
value_cmp (Blob a) (Int b) = nat_cmp (rank (Blob a)) (rank (Int b))
value_cmp (Blob a) (Text b) = nat_cmp (rank (Blob a)) (rank (Text b))
value_cmp (Blob a) (Blob b) = slice_cmp nat_cmp a b

-- the operator holds of two values that stand so to one another
abbrev pub keeps : Operator → Ordering → Bool
keeps Eq order = is_eq order
keeps Ne order = is_ne order
keeps Lt order = is_lt order
keeps Le order = is_le order
keeps Gt order = is_gt order
keeps Ge order = is_ge order

-- a comparison with NULL on either side doesn't hold
abbrev pub compares : Operator → Value → Value → Bool
compares op a b = not (is_null a || is_null b) && keeps op (value_cmp a b)
