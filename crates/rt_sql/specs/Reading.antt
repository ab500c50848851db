-- Statements read from a list of tokens, as functions (own): the value and the tokens after it, or none if the tokens spell
-- no such thing.
use Rattle.std.specs.Prelude.{◌≡◌, ◌≢◌, ◌<◌, ℕ, zero, suc, Bool, true, false, not, List, [], ◌∷◌, ◌++◌, length, Option, Some, None, Result, Ok, Err, MatchResult, if◌then◌else◌, codes, ◌&&◌, ◌||◌}
use lib.IntN.{ℤ}
use Rattle.std.specs.Option.{is_some}
use denote.Enum.Bare.{sameb}
use Rattle.rt_sql.specs.contracts.token.Sign.{the_type}
use Rattle.rt_sql.specs.declared.grammar.items.Separator.{Separator}
use Rattle.rt_sql.specs.declared.grammar.items.Separator.TheVariants as separators
use Rattle.rt_sql.specs.declared.token.Sign.{Sign}
use Rattle.rt_sql.specs.declared.token.Sign.TheVariants.{LeftParenthesis, RightParenthesis, Comma, Semicolon, Plus, Minus, Star, Equal, DoubleEqual, LessGreater, BangEqual, Less, LessOrEqual, Greater, GreaterOrEqual}
use Rattle.rt_sql.specs.declared.token.Token.{Token}
use Rattle.rt_sql.specs.declared.token.Token.TheVariants as token
use Rattle.rt_sql_statement.specs.declared.refusal.Refusal.{Refusal}
use Rattle.rt_sql_statement.specs.declared.refusal.Refusal.TheVariants.{OutOfMemory}
use Rattle.rt_sql_statement.specs.declared.statement.ColumnDef.{ColumnDef}
use Rattle.rt_box.specs.declared.operator.Operator.{Operator}
use Rattle.rt_box.specs.declared.operator.Operator.TheVariants.{Eq, Ne, Lt, Le, Gt, Ge}
use Rattle.rt_sql_statement.specs.declared.statement.Rule.{Rule}
use Rattle.rt_sql_statement.specs.declared.statement.Rule.TheVariants.{Abort, Replace, Ignore}
use Rattle.rt_sql_statement.specs.declared.statement.Source.{Source}
use Rattle.rt_sql_statement.specs.declared.statement.Source.TheVariants as source
use Rattle.rt_sql_request.specs.declared.request.Stmt.{Stmt}
use Rattle.rt_sql_statement.specs.declared.statement.Edit.TheVariants as edit
use Rattle.rt_sql_request.specs.declared.request.Stmt.TheVariants as stmt
use Rattle.rt_sql_statement.specs.declared.statement.Test.{Test}
use Rattle.rt_sql_statement.specs.declared.statement.Test.TheVariants as test
use Rattle.rt_sql_statement.specs.declared.value.Value.{Value}
use Rattle.rt_sql_statement.specs.declared.value.Value.TheVariants as value
use Rattle.rt_sql.specs.Grammar.{named_lines, is_command}
use Rattle.rt_sql.specs.Token.{Text, undouble, hex_bytes, same_word, is_reserved}

abbrev pub Outcome : Type 0 → Type 0
Outcome A = Option (A × List Token)

abbrev pub Parser : Type 0 → Type 0
Parser A = List Token → Outcome A

abbrev pub and_then : {A B : Type 0} → Outcome A → (A → Parser B) → Outcome B
and_then None f = None
and_then (Some p) f = f p.0 p.1

infixl 10 ◌>>=◌
abbrev pub ◌>>=◌ : {A B : Type 0} → Parser A → (A → Parser B) → Parser B
p >>= f = λ ts. and_then (p ts) f

infixl 10 ◌>>◌
abbrev pub ◌>>◌ : {A B : Type 0} → Parser A → Parser B → Parser B
p >> q = p >>= (λ _. q)

abbrev pub pure : {A : Type 0} → A → Parser A
pure a = λ ts. Some (a, ts)

abbrev pub refuse : {A : Type 0} → Parser A
refuse = λ _. None

-- ---- one token

unfoldable pub first : List Token → Option Token
first [] = None
first (t ∷ ts) = Some t

unfoldable pub rest : List Token → List Token
rest [] = []
rest (t ∷ ts) = ts

unfoldable pub is_sign : Sign → Token → Bool
is_sign sign (token.Sign s) = sameb the_type s sign
is_sign sign _ = false

unfoldable pub is_word : Text → Token → Bool
is_word word (token.Word w) = same_word w word
is_word word _ = false

abbrev pub passes : (Token → Bool) → Option Token → Bool
passes p None = false
passes p (Some t) = p t

unfoldable pub sees_sign : Sign → List Token → Bool
sees_sign sign ts = passes (is_sign sign) (first ts)

unfoldable pub sees_word : Text → List Token → Bool
sees_word word ts = passes (is_word word) (first ts)

abbrev pub eat_sign : Sign → Parser Bool
eat_sign sign = λ ts. Some (sees_sign sign ts, if sees_sign sign ts then rest ts else ts)

abbrev pub eat_word : Text → Parser Bool
eat_word word = λ ts. Some (sees_word word ts, if sees_word word ts then rest ts else ts)

unfoldable pub sign : Sign → Parser (Unit {0})
sign s = λ ts. if sees_sign s ts then Some (tt, rest ts) else None

unfoldable pub keyword : Text → Parser (Unit {0})
keyword w = λ ts. if sees_word w ts then Some (tt, rest ts) else None

abbrev pub paired : {A : Type 0} → Option A → Parser A
paired None ts = None
paired (Some a) ts = Some (a, ts)

-- what the next token gives, and the tokens after it
abbrev pub from_first : {A : Type 0} → (Option Token → Option A) → Parser A
from_first f = λ ts. paired (f (first ts)) (rest ts)

-- ---- what a function that reads ensures: the outcome, unless memory fails

abbrev pub Reads : {A : Type 0} → Outcome A → Result A Refusal → List Token → Type 0
Reads outcome (Ok a) new = outcome ≡ Some (a, new)
Reads outcome (Err e) new = e ≢ OutOfMemory → outcome ≡ None

-- what a function that makes a value ensures: that value, unless memory fails
abbrev pub Makes : {A : Type 0} → A → Result A Refusal → Type 0
Makes value result = MatchResult result (λ made. made ≡ value) (λ refusal. refusal ≡ OutOfMemory)

-- ---- names and values

unfoldable pub name_in : Option Token → Option Text
name_in (Some (token.Word w)) = if is_reserved w then None else Some w
name_in (Some (token.Quoted q)) = Some (undouble 34 q)
name_in _ = None

unfoldable pub name : Parser Text
name = from_first name_in

-- the next token, that word, read as a name
abbrev pub word_name : Text → Parser Text
word_name word = λ ts. paired (name_in (Some (token.Word word))) (rest ts)

abbrev pub Read : Type 0
Read = Bool → Text → Option ℤ

unfoldable pub number_in : Read → Bool → Option Token → Option ℤ
number_in read is_negative (Some (token.Digits d)) = read is_negative d
number_in read is_negative _ = None

unfoldable pub number : Read → Bool → Parser ℤ
number read is_negative = from_first (number_in read is_negative)

unfoldable pub integer : Read → Parser ℤ
integer read = do
  is_negative ← eat_sign Minus
  if is_negative then pure true else eat_sign Plus
  number read is_negative

unfoldable pub literal_in : Option Token → Option Value
literal_in (Some (token.Text t)) = Some (value.Text (undouble 39 t))
literal_in (Some (token.Blob h)) = Some (value.Blob (hex_bytes h))
literal_in _ = None

unfoldable pub literal : Parser Value
literal = from_first literal_in

unfoldable pub is_literal : Token → Bool
is_literal (token.Text t) = true
is_literal (token.Blob h) = true
is_literal _ = false

unfoldable pub sees_literal : List Token → Bool
sees_literal ts = passes is_literal (first ts)

unfoldable pub not_null : Read → Parser Value
not_null read = λ ts. if sees_literal ts then literal ts else (do n ← integer read; pure (value.Int n)) ts

abbrev pub is_digits : Token → Bool
is_digits (token.Digits d) = true
is_digits _ = false

unfoldable pub sees_digits : List Token → Bool
sees_digits ts = passes is_digits (first ts)

unfoldable pub a_value : Read → Parser Value
a_value read = do
  is_null ← eat_word (codes "NULL")
  if is_null then pure value.Null else not_null read

-- ---- lists. Each turn takes a token, so their number bounds the turns.

unfoldable pub sequence_from : {A : Type 0} → (List Token → Bool) → Parser A → ℕ → List A → Parser (List A)
sequence_from sees item zero found = refuse
sequence_from sees item (suc turns) found = do
  x ← item
  more ← (λ ts. Some (sees ts, if sees ts then rest ts else ts))
  if more then sequence_from sees item turns (found ++ x ∷ []) else pure (found ++ x ∷ [])

-- items with what `sees` sees between
abbrev pub sequence : {A : Type 0} → (List Token → Bool) → Parser A → Parser (List A)
sequence sees item = λ ts. sequence_from sees item (length ts) [] ts

abbrev pub by_commas : {A : Type 0} → Parser A → Parser (List A)
by_commas item = sequence (sees_sign Comma) item

-- a separator comes next
abbrev pub sees : Separator → List Token → Bool
sees separators.Comma = sees_sign Comma
sees separators.And = sees_word (codes "AND")

-- items with separators between
abbrev pub sequence_by : {A : Type 0} → Separator → Parser A → Parser (List A)
sequence_by separator item = sequence (sees separator) item

-- what reads an item takes a token
abbrev pub TakesTokens : {A : Type 0} → Parser A → Type 0
TakesTokens {A} item = (ts : List Token) (a : A) (left : List Token) → item ts ≡ Some (a, left) → length left < length ts

-- a row from its first value on
abbrev pub row_values : Read → Parser (List Value)
row_values read = do
  values ← by_commas (a_value read)
  sign RightParenthesis
  pure values

unfoldable pub list : Read → Parser (List Value)
list read = do
  sign LeftParenthesis
  row_values read

-- ---- columns

unfoldable pub is_any_word : Token → Bool
is_any_word (token.Word w) = true
is_any_word _ = false

unfoldable pub sees_any_word : List Token → Bool
sees_any_word ts = passes is_any_word (first ts)

unfoldable pub skip_words : List Token → List Token
skip_words [] = []
skip_words (t ∷ ts) = if is_any_word t then skip_words ts else t ∷ ts

abbrev pub words : Parser (Unit {0})
words = λ ts. Some (tt, skip_words ts)

unfoldable pub second_size : Read → Parser (Unit {0})
second_size read = do
  more ← eat_sign Comma
  if more then (do number read false; pure tt) else pure tt

unfoldable pub size_digits : Read → Parser (Unit {0})
size_digits read = do
  number read false
  second_size read
  sign RightParenthesis
  words

unfoldable pub size : Read → Parser (Unit {0})
size read = do
  is_sized ← eat_sign LeftParenthesis
  if is_sized then size_digits read else pure tt

unfoldable pub column : Read → Parser ColumnDef
column read = do
  marked ← eat_sign Plus
  called ← name
  words
  size read
  pure (record { name = called; auxiliary = marked })

-- ---- tables that may be there or not

unfoldable pub table : Bool → Parser (Bool × Text)
table is_guarded = do
  called ← name
  pure (is_guarded, called)

unfoldable pub if_not_exists : Parser (Bool × Text)
if_not_exists = λ ts.
    if sees_word (codes "IF") ts && sees_word (codes "NOT") (rest ts)
    then (do keyword (codes "EXISTS"); table true) (rest (rest ts))
    else table false ts

unfoldable pub if_exists : Parser (Bool × Text)
if_exists = λ ts.
    if sees_word (codes "IF") ts && sees_word (codes "EXISTS") (rest ts) then table true (rest (rest ts)) else table false ts

unfoldable pub create : Read → Parser Stmt
create read = do
  keyword (codes "VIRTUAL")
  keyword (codes "TABLE")
  target ← if_not_exists
  keyword (codes "USING")
  keyword (codes "RTREE_I32")
  sign LeftParenthesis
  columns ← by_commas (column read)
  sign RightParenthesis
  pure (stmt.Create target.1 target.0 columns)

unfoldable pub drop_table : Parser Stmt
drop_table = do
  keyword (codes "TABLE")
  target ← if_exists
  pure (stmt.Drop target.1 target.0)

-- ---- INSERT

unfoldable pub other_rule : Parser Rule
other_rule = do
  is_ignore ← eat_word (codes "IGNORE")
  if is_ignore then pure Ignore else (do keyword (codes "ABORT"); pure Abort)

unfoldable pub chosen_rule : Parser Rule
chosen_rule = do
  is_replace ← eat_word (codes "REPLACE")
  if is_replace then pure Replace else other_rule

unfoldable pub rule : Parser Rule
rule = do
  is_or ← eat_word (codes "OR")
  if is_or then chosen_rule else pure Abort

unfoldable pub name_list : Parser (Option (List Text))
name_list = do
  names ← by_commas name
  sign RightParenthesis
  pure (Some names)

unfoldable pub named_columns : Parser (Option (List Text))
named_columns = do
  is_open ← eat_sign LeftParenthesis
  if is_open then name_list else pure None

unfoldable pub insert : Read → Rule → Parser Stmt
insert read how = do
  keyword (codes "INTO")
  table ← name
  columns ← named_columns
  keyword (codes "VALUES")
  rows ← by_commas (list read)
  pure (stmt.Edit table (edit.Insert how columns rows))

-- ---- conditions

unfoldable pub operator_in : Option Token → Option Operator
operator_in (Some (token.Sign Equal)) = Some Eq
operator_in (Some (token.Sign DoubleEqual)) = Some Eq
operator_in (Some (token.Sign LessGreater)) = Some Ne
operator_in (Some (token.Sign BangEqual)) = Some Ne
operator_in (Some (token.Sign Less)) = Some Lt
operator_in (Some (token.Sign LessOrEqual)) = Some Le
operator_in (Some (token.Sign Greater)) = Some Gt
operator_in (Some (token.Sign GreaterOrEqual)) = Some Ge
operator_in _ = None

unfoldable pub operator : Parser Operator
operator = from_first operator_in

unfoldable pub null_test : Text → Parser Test
null_test column = do
  is_not ← eat_word (codes "NOT")
  keyword (codes "NULL")
  pure (if is_not then test.IsNotNull column else test.IsNull column)

unfoldable pub comparison : Read → Text → Parser Test
comparison read column = do
  op ← operator
  v ← a_value read
  pure (test.Compare (record { column = column; op = op; value = v }))

unfoldable pub a_test : Read → Parser Test
a_test read = do
  column ← name
  is_is ← eat_word (codes "IS")
  if is_is then null_test column else comparison read column

unfoldable pub condition : Read → Parser (List Test)
condition read = do
  is_where ← eat_word (codes "WHERE")
  if is_where then sequence (sees_word (codes "AND")) (a_test read) else pure []

-- ---- UPDATE and DELETE

unfoldable pub begins_value : Token → Bool
begins_value (token.Word w) = same_word w (codes "NULL")
begins_value (token.Digits d) = true
begins_value (token.Text t) = true
begins_value (token.Blob h) = true
begins_value (token.Sign Plus) = true
begins_value (token.Sign Minus) = true
begins_value _ = false

unfoldable pub sees_value : List Token → Bool
sees_value ts = passes begins_value (first ts)

-- that column plus a number, read from the number on
abbrev pub plus_number : Read → Text → Parser Source
plus_number read column = do
  n ← number read false
  pure (source.Plus column n)

-- that column minus a number, read from the number on
abbrev pub minus_number : Read → Text → Parser Source
minus_number read column = do
  n ← number read false
  pure (source.Minus column n)

unfoldable pub less_or_same : Read → Text → Parser Source
less_or_same read column = do
  is_minus ← eat_sign Minus
  if is_minus then minus_number read column else pure (source.Column column)

unfoldable pub from_column : Read → Parser Source
from_column read = do
  column ← name
  is_plus ← eat_sign Plus
  if is_plus then plus_number read column else less_or_same read column

unfoldable pub a_source : Read → Parser Source
a_source read = λ ts. if sees_value ts then (do v ← a_value read; pure (source.Literal v)) ts else from_column read ts

-- what that column is given, from `=` on
abbrev pub set_to : Read → Text → Parser (Text × Source)
set_to read column = do
  sign Equal
  from ← a_source read
  pure (column, from)

unfoldable pub set : Read → Parser (Text × Source)
set read = do
  column ← name
  set_to read column

unfoldable pub update : Read → Parser Stmt
update read = do
  table ← name
  keyword (codes "SET")
  sets ← by_commas (set read)
  tests ← condition read
  pure (stmt.Edit table (edit.Update sets tests))

unfoldable pub delete : Read → Parser Stmt
delete read = do
  keyword (codes "FROM")
  table ← name
  tests ← condition read
  pure (stmt.Edit table (edit.Delete tests))

-- ---- SELECT

unfoldable pub order_by : Parser (Option Text)
order_by = do
  keyword (codes "BY")
  column ← name
  eat_word (codes "ASC")
  pure (Some column)

unfoldable pub order : Parser (Option Text)
order = do
  is_ordered ← eat_word (codes "ORDER")
  if is_ordered then order_by else pure None

unfoldable pub selection : Parser (Option (List Text))
selection = do
  is_all ← eat_sign Star
  if is_all then pure None else (do names ← by_commas name; pure (Some names))

unfoldable pub select_rows : Read → Parser Stmt
select_rows read = do
  columns ← selection
  keyword (codes "FROM")
  table ← name
  tests ← condition read
  by ← order
  pure (stmt.Select columns table tests by)

unfoldable pub text_in : Option Token → Option Text
text_in (Some (token.Text t)) = Some (undouble 39 t)
text_in _ = None

unfoldable pub text : Parser Text
text = from_first text_in

unfoldable pub check : Parser Stmt
check = do
  sign LeftParenthesis
  table ← text
  sign RightParenthesis
  pure (stmt.Check table)

unfoldable pub select : Read → Parser Stmt
select read = λ ts. if sees_word (codes "RTREECHECK") ts && sees_sign LeftParenthesis (rest ts) then check (rest ts) else select_rows read ts

-- ---- statements

unfoldable pub definition : Read → Parser Stmt
definition read = do
  is_create ← eat_word (codes "CREATE")
  if is_create then create read else (do keyword (codes "DROP"); drop_table)

unfoldable pub change : Read → Parser Stmt
change read = do
  is_update ← eat_word (codes "UPDATE")
  if is_update then update read else (do
    is_delete ← eat_word (codes "DELETE")
    if is_delete then delete read else definition read)

unfoldable pub replacement : Read → Parser Stmt
replacement read = do
  is_replace ← eat_word (codes "REPLACE")
  if is_replace then insert read Replace else change read

unfoldable pub insertion : Read → Parser Stmt
insertion read = do
  is_insert ← eat_word (codes "INSERT")
  if is_insert then (do how ← rule; insert read how) else replacement read

unfoldable pub statement : Read → Parser Stmt
statement read = do
  is_select ← eat_word (codes "SELECT")
  if is_select then select read else insertion read

-- ---- dot lines

unfoldable pub watch : Read → Parser Stmt
watch read = do
  view ← name
  keyword (codes "FROM")
  table ← name
  tests ← condition read
  pure (stmt.Watch view table tests)

-- what a dot line of that word asks for, if it is one of these and has that name
unfoldable pub statement_by : Text → Text → List (Text × (Text → Stmt)) → Option Stmt
statement_by w n [] = None
statement_by w n (line ∷ lines) = if same_word w line.0 then Some (line.1 n) else statement_by w n lines

unfoldable pub named_command : Text → Parser Stmt
named_command w = do
  n ← name
  paired (statement_by w n named_lines)

unfoldable pub command : Read → Text → Parser Stmt
command read w = if same_word w (codes "WATCH") then watch read else named_command w

unfoldable pub dot_in : Option Token → Option Text
dot_in (Some (token.Dot w)) = Some w
dot_in _ = None

-- a dot line with another word
unfoldable pub unknown_in : Option Token → Bool
unknown_in (Some (token.Dot w)) = not (is_command w)
unknown_in _ = false

unfoldable pub finish : {A : Type 0} → A → Parser A
finish a = λ ts. if is_some (first ts) then None else Some (a, ts)

-- a semicolon, and no token after it
abbrev pub end : {A : Type 0} → A → Parser A
end a = do
  sign Semicolon
  finish a

unfoldable pub whole_command : Read → Text → Parser Stmt
whole_command read w = do
  asked ← command read w
  eat_sign Semicolon
  finish asked

unfoldable pub whole_statement : Read → Parser Stmt
whole_statement read = do
  asked ← statement read
  end asked

abbrev pub whole_of : Read → Option Text → Parser Stmt
whole_of read (Some w) = λ ts. whole_command read w (rest ts)
whole_of read None = whole_statement read

-- all of the tokens
unfoldable pub whole : Read → Parser Stmt
whole read = λ ts. whole_of read (dot_in (first ts)) ts
