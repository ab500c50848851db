-- Names of tables, columns and views, which are compared without ASCII case (SQLite's documentation).
use Rattle.std.specs.Prelude.{ℕ, Bool, List, IsTrue}
use Rattle.std.specs.String.{string_bytes}
use Rattle.rt_sql_statement.specs.declared.name.Storage.{Storage}
use Rattle.rt_sql_statement.specs.declared.name.Storage.TheVariants.{InPlace, OnHeap}
use Rattle.std.specs.Str.{str_eq_ignore_ascii_case}

abbrev pub same_name : List ℕ → List ℕ → Bool
same_name a b = str_eq_ignore_ascii_case a b

abbrev pub SameName : List ℕ → List ℕ → Type 0
SameName a b = IsTrue (same_name a b)

-- the text, wherever it stands
abbrev pub text_in : Storage → List ℕ
text_in (InPlace text) = text.bytes
text_in (OnHeap text) = string_bytes text
