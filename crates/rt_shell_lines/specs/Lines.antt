-- The lines that a script's run prints (own; values as SQLite's documentation has them of quote(), Built-In Scalar SQL
-- Functions).
use Rattle.std.specs.Prelude.{ℕ, ℤ, ◌/◌, ◌%◌, Bool, true, false, if◌then◌else◌, List, [], ◌∷◌, ◌++◌, codes, decimal, slice_index_or, map, take, drop, Result, Ok, Err}
use Rattle.std.specs.Fmt.{digit_glyph, signed_decimal}
use Rattle.std.specs.List.{flat_map, join_by}
use Rattle.rt_sql_cut.specs.Pieces.{PieceText}
use Rattle.rt_sql_cut.specs.declared.piece.Ending.{Ending}
use Rattle.rt_sql_cut.specs.declared.piece.Ending.TheVariants.{Whole, Incomplete, TooLong}
use Rattle.rt_sql.specs.Token.{double}
use Rattle.rt_sql_statement.specs.Refusal.{code_of, text_of}
use Rattle.rt_sql_statement.specs.declared.refusal.Refusal.{Refusal}
use Rattle.rt_sql_statement.specs.declared.value.Value.{Value}
use Rattle.rt_sql_statement.specs.declared.value.Value.TheVariants.{Null, Int, Text, Blob}
use Rattle.rt_check_dump.specs.Dump.{any_text}
use Rattle.rt_check_report.specs.Verdict.{verdict_lines}
use Rattle.rt_table_row.specs.Views.{ViewChange}
use Rattle.rt_reply.specs.declared.rows.Rows.{Rows}
use Rattle.rt_tree_walk.specs.declared.searching.Row.{Row}
use Rattle.rt_reply.specs.Rows.{box_values, id_values, values_in, values_at}
use Rattle.rt_reply.specs.declared.reply.Reply.{Reply}
use Rattle.rt_reply.specs.declared.reply.Reply.TheVariants as reply

-- a byte in two hexadecimal digits, with letters in upper case
abbrev pub hex_pair : ℕ → List ℕ
hex_pair b = digit_glyph true (b / 16) ∷ digit_glyph true (b % 16) ∷ []

-- a text in quotes (39), those inside it doubled
abbrev pub quoted_text : List ℕ → List ℕ
quoted_text t = codes "'" ++ double 39 t ++ codes "'"

-- bytes as a blob's literal
abbrev pub blob_text : List ℕ → List ℕ
blob_text bytes = codes "X'" ++ flat_map hex_pair bytes ++ codes "'"

-- a value as a statement could write it
abbrev pub value_text : Value → List ℕ
value_text Null = codes "NULL"
value_text (Int n) = signed_decimal n
value_text (Text t) = quoted_text t
value_text (Blob bytes) = blob_text bytes

-- the value of a row at that place; NULL past the last one
abbrev pub column_text : List Value → ℕ → List ℕ
column_text row place = value_text (slice_index_or row place Null)

-- a row's values with bars between them
abbrev pub row_line : List Value → List ℕ
row_line row = join_by value_text (codes "|") row ++ codes "\n"

-- the line of a row's columns at these places
abbrev pub columns_line : List ℕ → List Value → List ℕ
columns_line places row = row_line (values_at places row)

-- the values of the row at that place, and the text of a column of it
abbrev pub row_at : Rows → ℕ → List Value
row_at rows at = slice_index_or (values_in rows) at []

abbrev pub column_at : Rows → ℕ → ℕ → List ℕ
column_at rows at place = column_text (row_at rows at) place

-- texts with a bar before each, and with bars between them
abbrev pub after_bars : {X : Type 0} → (X → List ℕ) → List X → List ℕ
after_bars text items = flat_map (λ item. codes "|" ++ text item) items

abbrev pub between_bars : {X : Type 0} → (X → List ℕ) → List X → List ℕ
between_bars text items = join_by text (codes "|") items

-- numbers and then values, with a bar before each
abbrev pub listed_after_bars : List ℤ → List Value → List ℕ
listed_after_bars numbers values = after_bars value_text (map Int numbers ++ values)

-- the lines of the rows from one place to another
abbrev pub rows_between : ℕ → ℕ → List (List Value) → List ℕ
rows_between from to rows = flat_map row_line (drop from (take to rows))

-- the lines of rows without auxiliary values
abbrev pub lines_of_boxes : {D : _} → List (Row D) → List ℕ
lines_of_boxes rows = flat_map (λ row. row_line (box_values row)) rows

-- the lines of rows of which only the id is kept
abbrev pub lines_of_ids : List ℤ → List ℕ
lines_of_ids ids = flat_map (λ id. row_line (id_values id)) ids

-- the lines of columns, of all rows and of those from one place to another
abbrev pub lines_of_columns : List ℕ → Rows → List ℕ
lines_of_columns places rows = flat_map (columns_line places) (values_in rows)

abbrev pub columns_between : List ℕ → ℕ → ℕ → Rows → List ℕ
columns_between places from to rows = flat_map (columns_line places) (drop from (take to (values_in rows)))

-- the lines of columns of rows without auxiliary values
abbrev pub columns_of_boxes : {D : _} → List ℕ → List (Row D) → List ℕ
columns_of_boxes places rows = flat_map (λ row. columns_line places (box_values row)) rows

-- the row that came into the view of that name, or left it
abbrev pub change_line : ViewChange → List ℕ
change_line c = (if c.came then codes "+" else codes "-") ++ c.view ++ codes " " ++ row_line c.row

abbrev pub reply_lines : Reply → List ℕ
reply_lines reply.Nothing = []
reply_lines (reply.Rows rows) = flat_map row_line rows
reply_lines (reply.Changes changes) = flat_map change_line changes
reply_lines (reply.Verdict problems) = verdict_lines problems
reply_lines (reply.Dump tree) = any_text tree

-- the refusal of the piece of this number
abbrev pub refusal_line : ℕ → Refusal → List ℕ
refusal_line number refusal =
    codes "refused " ++ decimal number ++ codes " " ++ decimal (code_of refusal) ++ codes ": " ++ text_of refusal ++ codes "\n"

-- what an answer to the piece of this number prints
abbrev pub answer_lines : ℕ → Result Reply Refusal → List ℕ
answer_lines number (Ok given) = reply_lines given
answer_lines number (Err refusal) = refusal_line number refusal

-- a piece's text that ended so, as it is echoed
abbrev pub echo_by : Ending → List ℕ → List ℕ
echo_by Whole text = text ++ codes "\n"
echo_by Incomplete text = text ++ codes "\n"
echo_by TooLong text = []

-- with echo a piece is printed before its answer, as `sqlite3 -echo` does: its bytes as they stand in the script, and a
-- line feed. What stands before it, white space, comments and `;`, belongs to no piece and isn't printed. Of a piece that
-- is too long nothing is held, and nothing is printed.
abbrev pub echo_of : Bool → PieceText → List ℕ
echo_of false piece = []
echo_of true piece = echo_by piece.ending piece.text
