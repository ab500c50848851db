-- Which tokens spell which statement (SQLite's documentation: SQL As Understood By SQLite; The SQLite R*Tree Module; dot lines: own).
-- A part of a statement is a relation between the tokens from its start on and those after it.
use Rattle.std.specs.Prelude.{◌≡◌, ◌⊎◌, Bool, true, false, List, [], ◌∷◌, ◌++◌, map, Option, Some, None, IsTrue, codes}
use Rattle.std.specs.List.{list_any}
use lib.IntN.{ℤ}
use Rattle.rt_sql_statement.specs.declared.statement.ColumnDef.{ColumnDef}
use Rattle.rt_box.specs.declared.operator.Operator.{Operator}
use Rattle.rt_box.specs.declared.operator.Operator.TheVariants.{Eq, Ne, Lt, Le, Gt, Ge}
use Rattle.rt_sql_statement.specs.declared.statement.Rule.{Rule}
use Rattle.rt_sql_statement.specs.declared.statement.Rule.TheVariants.{Abort, Replace, Ignore}
use Rattle.rt_sql_statement.specs.declared.statement.Source.{Source}
use Rattle.rt_sql_statement.specs.declared.statement.Source.TheVariants as sources
use Rattle.rt_sql_statement.specs.declared.statement.Edit.TheVariants.{Insert, Update, Delete}
use Rattle.rt_sql_request.specs.declared.request.Stmt.{Stmt}
use Rattle.rt_sql_request.specs.declared.request.Stmt.TheVariants.{Create, Drop, Edit, Select, Check, Watch, Unwatch, View, Nodes}
use Rattle.rt_sql_statement.specs.declared.statement.Test.{Test}
use Rattle.rt_sql_statement.specs.declared.statement.Test.TheVariants as tests
use Rattle.rt_sql.specs.declared.token.Sign.{Sign}
use Rattle.rt_sql.specs.declared.token.Sign.TheVariants.{LeftParenthesis, RightParenthesis, Comma, Semicolon, Plus, Minus, Star, Equal, DoubleEqual, LessGreater, BangEqual, Less, LessOrEqual, Greater, GreaterOrEqual}
use Rattle.rt_sql.specs.declared.token.Token.{Token}
use Rattle.rt_sql.specs.declared.token.Token.TheVariants as token
use Rattle.rt_sql_statement.specs.declared.value.Value.{Value}
use Rattle.rt_sql_statement.specs.declared.value.Value.TheVariants as values
use Rattle.rt_sql.specs.Number.{Writes}
use Rattle.rt_sql.specs.Token.{Text, undouble, hex_bytes, same_word, is_reserved}

abbrev pub Part : Type 1
Part = List Token → List Token → Type 0

-- one part and then another
infixr 12 ◌⨾◌
abbrev pub ◌⨾◌ : Part → Part → Part
p ⨾ q = λ ts after. (between : List Token) × p ts between × q between after

infixr 11 ◌or◌
abbrev pub ◌or◌ : Part → Part → Part
p or q = λ ts after. p ts after ⊎ q ts after

abbrev pub nothing : Part
nothing ts after = ts ≡ after

abbrev pub never : Part
never ts after = ⊥

-- it is there, or it isn't
abbrev pub flag : Part → Bool → Part
flag p true = p
flag p false = nothing

-- ---- tokens

abbrev pub word : Text → Part
word spelling ts after = (w : Text) × (ts ≡ token.Word w ∷ after) × IsTrue (same_word w spelling)

abbrev pub any_words : Part
any_words ts after = (ws : List Text) × (ts ≡ map (λ w. token.Word w) ws ++ after)

abbrev pub sign : Sign → Part
sign s ts after = ts ≡ token.Sign s ∷ after

abbrev pub plain_name : Text → Part
plain_name n ts after = (ts ≡ token.Word n ∷ after) × (is_reserved n ≡ false)

abbrev pub quoted_name : Text → Part
quoted_name n ts after = (q : Text) × (ts ≡ token.Quoted q ∷ after) × (n ≡ undouble 34 q)

abbrev pub name : Text → Part
name n = plain_name n or quoted_name n

abbrev pub text : Text → Part
text t ts after = (q : Text) × (ts ≡ token.Text q ∷ after) × (t ≡ undouble 39 q)

abbrev pub blob : Text → Part
blob bytes ts after = (h : Text) × (ts ≡ token.Blob h ∷ after) × (bytes ≡ hex_bytes h)

abbrev pub digits : Writes → Bool → ℤ → Part
digits writes is_negative n ts after = (d : Text) × (ts ≡ token.Digits d ∷ after) × writes is_negative d n

-- ---- lists: item {, item}

abbrev pub further : {A : Type 0} → Part → (A → Part) → List A → Part
further separator item [] = nothing
further separator item (x ∷ xs) = separator ⨾ item x ⨾ further separator item xs

abbrev pub sequence : {A : Type 0} → Part → (A → Part) → List A → Part
sequence separator item [] = never
sequence separator item (x ∷ xs) = item x ⨾ further separator item xs

abbrev pub by_commas : {A : Type 0} → (A → Part) → List A → Part
by_commas = sequence (sign Comma)

-- ---- values

abbrev pub integer : Writes → ℤ → Part
integer writes n = digits writes false n or sign Plus ⨾ digits writes false n or sign Minus ⨾ digits writes true n

abbrev pub value : Writes → Value → Part
value writes values.Null = word (codes "NULL")
value writes (values.Int n) = integer writes n
value writes (values.Text t) = text t
value writes (values.Blob bytes) = blob bytes

-- ( value {, value} )
abbrev pub list : Writes → List Value → Part
list writes row = sign LeftParenthesis ⨾ by_commas (value writes) row ⨾ sign RightParenthesis

-- ---- columns of a table

abbrev pub some_digits : Writes → Part
some_digits writes ts after = (n : ℤ) × digits writes false n ts after

-- ( digits [, digits] ) {word}
abbrev pub size : Writes → Part
size writes =
    sign LeftParenthesis ⨾ some_digits writes ⨾ (nothing or sign Comma ⨾ some_digits writes) ⨾ sign RightParenthesis ⨾ any_words

-- [+] name {word} [size]
abbrev pub column : Writes → ColumnDef → Part
column writes c = flag (sign Plus) c.auxiliary ⨾ name c.name ⨾ any_words ⨾ (nothing or size writes)

-- ---- conditions

abbrev pub operator : Operator → Part
operator Eq = sign Equal or sign DoubleEqual
operator Ne = sign LessGreater or sign BangEqual
operator Lt = sign Less
operator Le = sign LessOrEqual
operator Gt = sign Greater
operator Ge = sign GreaterOrEqual

abbrev pub test : Writes → Test → Part
test writes (tests.Compare c) = name c.column ⨾ operator c.op ⨾ value writes c.value
test writes (tests.IsNull column) = name column ⨾ word (codes "IS") ⨾ word (codes "NULL")
test writes (tests.IsNotNull column) = name column ⨾ word (codes "IS") ⨾ word (codes "NOT") ⨾ word (codes "NULL")

-- [WHERE test {AND test}]
abbrev pub condition : Writes → List Test → Part
condition writes [] = nothing
condition writes (t ∷ ts) = word (codes "WHERE") ⨾ sequence (word (codes "AND")) (test writes) (t ∷ ts)

-- ---- parts of statements

-- INSERT | REPLACE | INSERT OR ABORT | INSERT OR IGNORE | INSERT OR REPLACE
abbrev pub head : Rule → Part
head Abort = word (codes "INSERT") or word (codes "INSERT") ⨾ word (codes "OR") ⨾ word (codes "ABORT")
head Ignore = word (codes "INSERT") ⨾ word (codes "OR") ⨾ word (codes "IGNORE")
head Replace = word (codes "REPLACE") or word (codes "INSERT") ⨾ word (codes "OR") ⨾ word (codes "REPLACE")

-- [( name {, name} )]
abbrev pub named_columns : Option (List Text) → Part
named_columns None = nothing
named_columns (Some names) = sign LeftParenthesis ⨾ by_commas name names ⨾ sign RightParenthesis

abbrev pub source : Writes → Source → Part
source writes (sources.Literal v) = value writes v
source writes (sources.Column column) = name column
source writes (sources.Plus column n) = name column ⨾ sign Plus ⨾ digits writes false n
source writes (sources.Minus column n) = name column ⨾ sign Minus ⨾ digits writes false n

abbrev pub set : Writes → Text × Source → Part
set writes s = name s.0 ⨾ sign Equal ⨾ source writes s.1

-- * | name {, name}
abbrev pub selection : Option (List Text) → Part
selection None = sign Star
selection (Some names) = by_commas name names

-- [ORDER BY name [ASC]]
abbrev pub order : Option Text → Part
order None = nothing
order (Some column) = word (codes "ORDER") ⨾ word (codes "BY") ⨾ name column ⨾ (nothing or word (codes "ASC"))

-- ---- whole statements and dot lines

-- the dot with its word, which ASCII case doesn't change
abbrev pub dot : Text → Part
dot spelling ts after = (w : Text) × (ts ≡ token.Dot w ∷ after) × IsTrue (same_word w spelling)

-- the dot lines that take one name: the word of each, and what it asks for
abbrev pub named_lines : List (Text × (Text → Stmt))
named_lines = (codes "UNWATCH", Unwatch) ∷ (codes "VIEW", View) ∷ (codes "NODES", Nodes) ∷ []

-- the words of all dot lines
abbrev pub dot_words : List Text
dot_words = codes "WATCH" ∷ map (λ line. line.0) named_lines

unfoldable pub is_command : Text → Bool
is_command w = list_any (same_word w) dot_words

-- a dot line may end at a `;`, at which a statement has to end
abbrev pub ending : Part
ending = nothing or sign Semicolon

abbrev pub statement : Writes → Stmt → Part
statement writes (Create table if_absent columns) =
    word (codes "CREATE") ⨾ word (codes "VIRTUAL") ⨾ word (codes "TABLE")
    ⨾ flag (word (codes "IF") ⨾ word (codes "NOT") ⨾ word (codes "EXISTS")) if_absent ⨾ name table
    ⨾ word (codes "USING") ⨾ word (codes "RTREE_I32") ⨾ sign LeftParenthesis ⨾ by_commas (column writes) columns ⨾ sign RightParenthesis
statement writes (Drop table if_there) =
    word (codes "DROP") ⨾ word (codes "TABLE") ⨾ flag (word (codes "IF") ⨾ word (codes "EXISTS")) if_there ⨾ name table
statement writes (Edit table (Insert rule columns rows)) =
    head rule ⨾ word (codes "INTO") ⨾ name table ⨾ named_columns columns ⨾ word (codes "VALUES") ⨾ by_commas (list writes) rows
statement writes (Edit table (Update sets cond)) =
    word (codes "UPDATE") ⨾ name table ⨾ word (codes "SET") ⨾ by_commas (set writes) sets ⨾ condition writes cond
statement writes (Edit table (Delete cond)) = word (codes "DELETE") ⨾ word (codes "FROM") ⨾ name table ⨾ condition writes cond
statement writes (Select columns table cond by) =
    word (codes "SELECT") ⨾ selection columns ⨾ word (codes "FROM") ⨾ name table ⨾ condition writes cond ⨾ order by
statement writes (Check table) =
    word (codes "SELECT") ⨾ word (codes "RTREECHECK") ⨾ sign LeftParenthesis ⨾ text table ⨾ sign RightParenthesis
statement writes (Watch view table cond) =
    dot (codes "WATCH") ⨾ name view ⨾ word (codes "FROM") ⨾ name table ⨾ condition writes cond
statement writes (Unwatch view) = dot (codes "UNWATCH") ⨾ name view
statement writes (View view) = dot (codes "VIEW") ⨾ name view
statement writes (Nodes table) = dot (codes "NODES") ⨾ name table

abbrev pub end_of : Stmt → Part
end_of (Create table if_absent columns) = sign Semicolon
end_of (Drop table if_there) = sign Semicolon
end_of (Edit table edit) = sign Semicolon
end_of (Select columns table cond by) = sign Semicolon
end_of (Check table) = sign Semicolon
end_of (Watch view table cond) = ending
end_of (Unwatch view) = ending
end_of (View view) = ending
end_of (Nodes table) = ending

-- the tokens spell the statement up to its end, and nothing is left
abbrev pub Spells : Writes → List Token → Stmt → Type 0
Spells writes tokens asked = (statement writes asked ⨾ end_of asked) tokens []
