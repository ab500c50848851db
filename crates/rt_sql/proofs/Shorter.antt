-- Each item of a list takes a token.
use Rattle.std.proofs.Common.{◌≡◌, ◌<◌, ◌≤◌, ◌⊎◌, inl, inr, Bool, true, false, List, [], ◌∷◌, map, length, Some, codes, ap, length-append, arith}
use lib.IntN.{ℤ}
use Rattle.rt_sql_statement.specs.declared.statement.ColumnDef.{ColumnDef}
use Rattle.rt_box.specs.declared.operator.Operator.{Operator}
use Rattle.rt_box.specs.declared.operator.Operator.TheVariants.{Eq, Ne, Lt, Le, Gt, Ge}
use Rattle.rt_sql_statement.specs.declared.statement.Source.{Source}
use Rattle.rt_sql_statement.specs.declared.statement.Source.TheVariants as sources
use Rattle.rt_sql_statement.specs.declared.statement.Test.{Test}
use Rattle.rt_sql_statement.specs.declared.statement.Test.TheVariants as tests
use Rattle.rt_sql.specs.declared.token.Sign.{Sign}
use Rattle.rt_sql.specs.declared.token.Sign.TheVariants.{LeftParenthesis, RightParenthesis, Comma, Plus, Minus, Equal, DoubleEqual, LessGreater, BangEqual, Less, LessOrEqual, Greater, GreaterOrEqual}
use Rattle.rt_sql.specs.declared.token.Token.{Token}
use Rattle.rt_sql.specs.declared.token.Token.TheVariants as token
use Rattle.rt_sql_statement.specs.declared.value.Value.{Value}
use Rattle.rt_sql_statement.specs.declared.value.Value.TheVariants as values
use Rattle.rt_sql.specs.Token.{Text}
use Rattle.rt_sql.specs.Number.{Writes}
use Rattle.rt_sql.specs.Grammar as G
use Rattle.rt_sql.specs.Reading.{Parser, Read, TakesTokens}
use Rattle.rt_sql.specs.Reading as R
use Rattle.rt_sql.proofs.Sound.{sound_name, sound_value, sound_list, sound_column}
use Rattle.rt_sql.proofs.SoundForms.{sound_test, sound_set}

pub word_shorter : (w : Text) (ts after : List Token) → G.word w ts after → length after < length ts
word_shorter w ts after g = omega (arith, ap length g.1)

pub sign_shorter : (s : Sign) (ts after : List Token) → G.sign s ts after → length after < length ts
sign_shorter s ts after g = omega (arith, ap length g)

pub name_shorter : (n : Text) (ts after : List Token) → G.name n ts after → length after < length ts
name_shorter n ts after (inl g) = omega (arith, ap length g.0)
name_shorter n ts after (inr g) = omega (arith, ap length g.1)

words_shorter : (ts after : List Token) → G.any_words ts after → length after ≤ length ts
words_shorter ts after g = omega (arith, ap length g.1, length-append (map (λ w. token.Word w) g.0) after)

digits_shorter : (writes : Writes) (b : Bool) (n : ℤ) (ts after : List Token) → G.digits writes b n ts after → length after < length ts
digits_shorter writes b n ts after g = omega (arith, ap length g.1)

value_shorter : (writes : Writes) (v : Value) (ts after : List Token) → G.value writes v ts after → length after < length ts
value_shorter writes values.Null ts after g = word_shorter (codes "NULL") ts after g
value_shorter writes (values.Int n) ts after (inl g) = digits_shorter writes false n ts after g
value_shorter writes (values.Int n) ts after (inr (inl g)) = omega (arith, sign_shorter Plus ts g.0 g.1, digits_shorter writes false n g.0 after g.2)
value_shorter writes (values.Int n) ts after (inr (inr g)) = omega (arith, sign_shorter Minus ts g.0 g.1, digits_shorter writes true n g.0 after g.2)
value_shorter writes (values.Text t) ts after g = omega (arith, ap length g.1)
value_shorter writes (values.Blob b) ts after g = omega (arith, ap length g.1)

further_shorter : {A : Type 0} (P : A → G.Part) → ((a : A) (ts after : List Token) → P a ts after → length after < length ts) → (xs : List A) (ts after : List Token) → G.further (G.sign Comma) P xs ts after → length after ≤ length ts
further_shorter P each [] ts after g = omega (arith, ap length g)
further_shorter P each (x ∷ xs) ts after g = omega (arith, sign_shorter Comma ts g.0 g.1, each x g.0 g.2.0 g.2.1, further_shorter P each xs g.2.0 after g.2.2)

commas_shorter : {A : Type 0} (P : A → G.Part) → ((a : A) (ts after : List Token) → P a ts after → length after < length ts) → (xs : List A) (ts after : List Token) → G.by_commas P xs ts after → length after < length ts
commas_shorter P each [] ts after g = absurd g
commas_shorter P each (x ∷ xs) ts after g = omega (arith, each x ts g.0 g.1, further_shorter P each xs g.0 after g.2)

list_shorter : (writes : Writes) (vs : List Value) (ts after : List Token) → G.list writes vs ts after → length after < length ts
list_shorter writes vs ts after g =
    omega (arith, sign_shorter LeftParenthesis ts g.0 g.1, commas_shorter (G.value writes) (value_shorter writes) vs g.0 g.2.0 g.2.1, sign_shorter RightParenthesis g.2.0 after g.2.2)

flag_shorter : (b : Bool) (ts after : List Token) → G.flag (G.sign Plus) b ts after → length after ≤ length ts
flag_shorter true ts after g = omega (arith, sign_shorter Plus ts after g)
flag_shorter false ts after g = omega (arith, ap length g)

second_shorter : (writes : Writes) (ts after : List Token) → G.nothing ts after ⊎ ((mid : List Token) × G.sign Comma ts mid × G.some_digits writes mid after) → length after ≤ length ts
second_shorter writes ts after (inl g) = omega (arith, ap length g)
second_shorter writes ts after (inr g) = omega (arith, sign_shorter Comma ts g.0 g.1, digits_shorter writes false g.2.0 g.0 after g.2.1)

size_shorter : (writes : Writes) (ts after : List Token) → G.size writes ts after → length after ≤ length ts
size_shorter writes ts after g =
    omega (arith, sign_shorter LeftParenthesis ts g.0 g.1, digits_shorter writes false g.2.1.0 g.0 g.2.0 g.2.1.1, second_shorter writes g.2.0 g.2.2.0 g.2.2.1, sign_shorter RightParenthesis g.2.2.0 g.2.2.2.0 g.2.2.2.1, words_shorter g.2.2.2.0 after g.2.2.2.2)

sized_shorter : (writes : Writes) (ts after : List Token) → G.nothing ts after ⊎ G.size writes ts after → length after ≤ length ts
sized_shorter writes ts after (inl g) = omega (arith, ap length g)
sized_shorter writes ts after (inr g) = size_shorter writes ts after g

column_shorter : (writes : Writes) (c : ColumnDef) (ts after : List Token) → G.column writes c ts after → length after < length ts
column_shorter writes c ts after g =
    omega (arith, flag_shorter c.auxiliary ts g.0 g.1, name_shorter c.name g.0 g.2.0 g.2.1, words_shorter g.2.0 g.2.2.0 g.2.2.1, sized_shorter writes g.2.2.0 after g.2.2.2)

operator_shorter : (op : Operator) (ts after : List Token) → G.operator op ts after → length after < length ts
operator_shorter Eq ts after (inl g) = sign_shorter Equal ts after g
operator_shorter Eq ts after (inr g) = sign_shorter DoubleEqual ts after g
operator_shorter Ne ts after (inl g) = sign_shorter LessGreater ts after g
operator_shorter Ne ts after (inr g) = sign_shorter BangEqual ts after g
operator_shorter Lt ts after g = sign_shorter Less ts after g
operator_shorter Le ts after g = sign_shorter LessOrEqual ts after g
operator_shorter Gt ts after g = sign_shorter Greater ts after g
operator_shorter Ge ts after g = sign_shorter GreaterOrEqual ts after g

test_shorter : (writes : Writes) (t : Test) (ts after : List Token) → G.test writes t ts after → length after < length ts
test_shorter writes (tests.Compare c) ts after g =
    omega (arith, name_shorter c.column ts g.0 g.1, operator_shorter c.op g.0 g.2.0 g.2.1, value_shorter writes c.value g.2.0 after g.2.2)
test_shorter writes (tests.IsNull n) ts after g =
    omega (arith, name_shorter n ts g.0 g.1, word_shorter (codes "IS") g.0 g.2.0 g.2.1, word_shorter (codes "NULL") g.2.0 after g.2.2)
test_shorter writes (tests.IsNotNull n) ts after g =
    omega (arith, name_shorter n ts g.0 g.1, word_shorter (codes "IS") g.0 g.2.0 g.2.1, word_shorter (codes "NOT") g.2.0 g.2.2.0 g.2.2.1, word_shorter (codes "NULL") g.2.2.0 after g.2.2.2)

source_shorter : (writes : Writes) (s : Source) (ts after : List Token) → G.source writes s ts after → length after < length ts
source_shorter writes (sources.Literal v) ts after g = value_shorter writes v ts after g
source_shorter writes (sources.Column n) ts after g = name_shorter n ts after g
source_shorter writes (sources.Plus n k) ts after g =
    omega (arith, name_shorter n ts g.0 g.1, sign_shorter Plus g.0 g.2.0 g.2.1, digits_shorter writes false k g.2.0 after g.2.2)
source_shorter writes (sources.Minus n k) ts after g =
    omega (arith, name_shorter n ts g.0 g.1, sign_shorter Minus g.0 g.2.0 g.2.1, digits_shorter writes false k g.2.0 after g.2.2)

set_shorter : (writes : Writes) (s : Text × Source) (ts after : List Token) → G.set writes s ts after → length after < length ts
set_shorter writes s ts after g =
    omega (arith, name_shorter s.0 ts g.0 g.1, sign_shorter Equal g.0 g.2.0 g.2.1, source_shorter writes s.1 g.2.0 after g.2.2)

-- the numbers that are read are written as they are read
abbrev Own : Read → Writes
Own read b d n = read b d ≡ Some n

pub name_takes : TakesTokens R.name
name_takes ts a after h = name_shorter a ts after (sound_name ts a after h)

pub value_takes : (read : Read) → TakesTokens (R.a_value read)
value_takes read ts a after h = value_shorter (Own read) a ts after (sound_value read (Own read) (λ b d n e. e) ts a after h)

pub list_takes : (read : Read) → TakesTokens (R.list read)
list_takes read ts a after h = list_shorter (Own read) a ts after (sound_list read (Own read) (λ b d n e. e) ts a after h)

pub column_takes : (read : Read) → TakesTokens (R.column read)
column_takes read ts a after h = column_shorter (Own read) a ts after (sound_column read (Own read) (λ b d n e. e) ts a after h)

pub test_takes : (read : Read) → TakesTokens (R.a_test read)
test_takes read ts a after h = test_shorter (Own read) a ts after (sound_test read (Own read) (λ b d n e. e) ts a after h)

pub set_takes : (read : Read) → TakesTokens (R.set read)
set_takes read ts a after h = set_shorter (Own read) a ts after (sound_set read (Own read) (λ b d n e. e) ts a after h)
