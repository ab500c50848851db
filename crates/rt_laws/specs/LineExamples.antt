-- The definitions, held against worked examples: each says what a reply prints, and is proved by running the
-- definitions. The values' texts are those that SQLite's quote() gives.
use Rattle.std.specs.Prelude.{◌≡◌, ℕ, ◌-◌, ◌^◌, pos, negsuc, true, false, List, [], ◌∷◌, codes, refl}
use Rattle.std.specs.Fmt.{digits}
use Rattle.rt_sql_statement.specs.declared.value.Value.{Value}
use Rattle.rt_sql_statement.specs.declared.value.Value.TheVariants.{Null, Int, Text, Blob}
use Rattle.rt_sql_statement.specs.declared.statement.ColumnDef.{ColumnDef}
use Rattle.rt_sql_request.specs.declared.request.Stmt.{Stmt}
use Rattle.rt_sql_request.specs.declared.request.Stmt.TheVariants.{Create, Check, Nodes}
use Rattle.rt_check.specs.declared.problem.Condition.TheVariants.{FitsChild, HasCell}
use Rattle.rt_reply.specs.declared.reply.Reply.TheVariants.{Nothing, Rows, Changes, Verdict}
use Rattle.rt_session.specs.Session.{State, empty, state_after, answer, no_tree}
use Rattle.rt_sql_cut.specs.declared.piece.Ending.TheVariants.{Whole, Incomplete, TooLong}
use Rattle.rt_shell_lines.specs.Lines.{value_text, row_line, change_line, reply_lines, echo_of}
use Rattle.rt_shell.specs.Transcript.{lines_of}

-- ---- values

null : value_text Null ≡ codes "NULL"
null = refl

integer-zero : value_text (Int (pos 0)) ≡ codes "0"
unfolding digits
integer-zero = refl

integer-largest : value_text (Int (pos (2 ^ 63 - 1))) ≡ codes "9223372036854775807"
unfolding digits
integer-largest = refl

integer-smallest : value_text (Int (negsuc (2 ^ 63 - 1))) ≡ codes "-9223372036854775808"
unfolding digits
integer-smallest = refl

text-plain : value_text (Text (codes "a|b")) ≡ codes "'a|b'"
text-plain = refl

text-quote : value_text (Text (codes "it's")) ≡ codes "'it''s'"
text-quote = refl

text-quotes_at_its_ends : value_text (Text (codes "''x'")) ≡ codes "'''''x'''"
text-quotes_at_its_ends = refl

text-empty : value_text (Text []) ≡ codes "''"
text-empty = refl

-- the text NULL isn't NULL
text-null : value_text (Text (codes "NULL")) ≡ codes "'NULL'"
text-null = refl

blob-bytes : value_text (Blob (0 ∷ 10 ∷ 159 ∷ 171 ∷ 255 ∷ [])) ≡ codes "X'000A9FABFF'"
blob-bytes = refl

blob-empty : value_text (Blob []) ≡ codes "X''"
blob-empty = refl

-- ---- rows

row-each_kind : row_line (Int (pos 7) ∷ Int (negsuc 0) ∷ Int (pos 4) ∷ Text (codes "it's") ∷ Blob (10 ∷ 255 ∷ []) ∷ Null ∷ [])
    ≡ codes "7|-1|4|'it''s'|X'0AFF'|NULL\n"
unfolding digits
row-each_kind = refl

row-one_value : row_line (Null ∷ []) ≡ codes "NULL\n"
row-one_value = refl

-- ---- replies

abbrev box : ℕ → List Value
box id = Int (pos id) ∷ Int (pos 1) ∷ Int (pos 2) ∷ []

nothing : reply_lines Nothing ≡ []
nothing = refl

rows-none : reply_lines (Rows []) ≡ []
rows-none = refl

rows-two : reply_lines (Rows (box 3 ∷ box 12 ∷ [])) ≡ codes "3|1|2\n12|1|2\n"
unfolding digits
rows-two = refl

-- a view's name stands as it was given
change-came : change_line (record { view = codes "Near me"; came = true; row = box 3 }) ≡ codes "+Near me 3|1|2\n"
unfolding digits
change-came = refl

change-left : change_line (record { view = codes "v"; came = false; row = box 3 }) ≡ codes "-v 3|1|2\n"
unfolding digits
change-left = refl

-- a row that changed left its view, and then came into it
changes-two : reply_lines (Changes (record { view = codes "v"; came = false; row = box 3 } ∷ record { view = codes "v"; came = true; row = Int (pos 3) ∷ Int (pos 1) ∷ Int (pos 5) ∷ [] } ∷ []))
    ≡ codes "-v 3|1|2\n+v 3|1|5\n"
unfolding digits
changes-two = refl

changes-none : reply_lines (Changes []) ≡ []
changes-none = refl

-- a line for each problem, of its condition, node and position
verdict-two : reply_lines (Verdict (record { condition = FitsChild; node = pos 1; position = 2 } ∷ record { condition = HasCell; node = pos 4; position = 1 } ∷ []))
    ≡ codes "C6 node 1 at 2\nC9 node 4 at 1\n"
unfolding digits
verdict-two = refl

-- ---- pieces that are printed before their answers

echo-comment_inside : echo_of true (record { text = codes "SELECT * -- all\nFROM t;"; ending = Whole }) ≡ codes "SELECT * -- all\nFROM t;\n"
echo-comment_inside = refl

echo-dot_line : echo_of true (record { text = codes ".view v ;"; ending = Whole }) ≡ codes ".view v ;\n"
echo-dot_line = refl

-- the script ends after a line feed
echo-incomplete : echo_of true (record { text = codes "SELECT\n"; ending = Incomplete }) ≡ codes "SELECT\n\n"
echo-incomplete = refl

echo-too_long : echo_of true (record { text = []; ending = TooLong }) ≡ []
echo-too_long = refl

echo-not_asked_for : echo_of false (record { text = codes "SELECT"; ending = Incomplete }) ≡ []
echo-not_asked_for = refl

-- ---- trees

abbrev plain : List ℕ → ColumnDef
plain name = record { name = name; auxiliary = false }

-- what the second piece of a script prints, after a table of that name on one axis was made
abbrev after_create : List ℕ → Stmt → List ℕ
after_create name statement =
    let columns = plain (codes "id") ∷ plain (codes "minX") ∷ plain (codes "maxX") ∷ [] in
    let made : State = state_after (empty 5) (answer no_tree (empty 5) (Create name false columns)) in
    lines_of 2 (answer no_tree made statement)

check-of_a_new_table : after_create (codes "t") (Check (codes "T")) ≡ codes "ok\n"
check-of_a_new_table = refl

-- the root is a leaf without cells
nodes-of_a_new_table : after_create (codes "t") (Nodes (codes "T")) ≡ codes "rtree 1 5 1 1 0\nnode 1 0 - 0\nend\n"
unfolding digits
nodes-of_a_new_table = refl

nodes-of_no_table : after_create (codes "t") (Nodes (codes "u")) ≡ codes "refused 2 5: no such table\n"
unfolding digits
nodes-of_no_table = refl
