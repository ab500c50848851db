-- When two values are the same: of one kind, with the same number, characters or bytes.
-- NULL is NULL, unlike in a comparison of SQL. Source: own.
use Rattle.std.specs.Prelude.{Bool, true, false}
use Rattle.std.specs.Ordering.{int_eq}
use Rattle.std.specs.Str.{bytes_eq}
use Rattle.rt_sql_statement.specs.declared.value.Value.{Value}
use Rattle.rt_sql_statement.specs.declared.value.Value.TheVariants.{Null, Int, Text, Blob}

abbrev pub same_value : Value → Value → Bool
same_value Null Null = true
same_value (Int a) (Int b) = int_eq a b
same_value (Text a) (Text b) = bytes_eq a b
same_value (Blob a) (Blob b) = bytes_eq a b
same_value Null (Int b) = false
same_value Null (Text b) = false
same_value Null (Blob b) = false
same_value (Int a) Null = false
same_value (Int a) (Text b) = false
same_value (Int a) (Blob b) = false
same_value (Text a) Null = false
same_value (Text a) (Int b) = false
same_value (Text a) (Blob b) = false
same_value (Blob a) Null = false
same_value (Blob a) (Int b) = false
same_value (Blob a) (Text b) = false
