-- What is spelled as a statement is read.
use Rattle.std.proofs.Common.{◌≡◌, ◌⊎◌, inl, inr, Bool, true, false, ◌&&◌, List, [], ◌∷◌, Option, Some, None, codes, if◌then◌else◌, refl, ap, ◌∙◌}
use denote.Enum.Bare.{sameb}
use Rattle.rt_sql.specs.contracts.token.Sign.{the_type}
use Rattle.rt_sql_statement.specs.declared.statement.ColumnDef.{ColumnDef}
use Rattle.rt_sql_statement.specs.declared.statement.Rule.{Rule}
use Rattle.rt_sql_statement.specs.declared.statement.Rule.TheVariants.{Abort, Replace, Ignore}
use Rattle.rt_sql_statement.specs.declared.statement.Source.{Source}
use Rattle.rt_sql_request.specs.declared.request.Stmt.{Stmt}
use Rattle.rt_sql_statement.specs.declared.statement.Edit.TheVariants as edit
use Rattle.rt_sql_request.specs.declared.request.Stmt.TheVariants as stmt
use Rattle.rt_sql_statement.specs.declared.statement.Test.{Test}
use Rattle.rt_sql.specs.declared.token.Sign.{Sign}
use Rattle.rt_sql.specs.declared.token.Sign.TheVariants.{LeftParenthesis, RightParenthesis, Comma, Semicolon, Plus, Minus, Star, Equal}
use Rattle.rt_sql.specs.declared.token.Token.{Token}
use Rattle.rt_sql.specs.declared.token.Token.TheVariants as token
use Rattle.rt_sql_statement.specs.declared.value.Value.{Value}
use Rattle.rt_sql.specs.Token.{Text, same_word}
use Rattle.rt_sql.specs.Number.{Writes}
use Rattle.rt_sql.specs.Grammar as G
use Rattle.rt_sql.specs.Grammar.{◌⨾◌}
use Rattle.rt_sql.specs.Reading.{Parser, Read}
use Rattle.rt_sql.specs.Reading as R
use Rattle.rt_sql_statement.specs.declared.statement.Test.TheVariants as tests
use Rattle.rt_sql_statement.specs.declared.statement.Source.TheVariants as sources
use Rattle.rt_sql.proofs.Shorter.{sign_shorter, name_takes, list_takes, column_takes, test_takes, set_takes}
use Rattle.rt_sql.proofs.Sound.{TakesEach}
use Rattle.rt_sql.proofs.Complete.{Complete, Separates, Anything, and_separates, complete_sequence, complete_commas, complete_list, EndsColumn, complete_column, comma_ends_column, parenthesis_ends_column, sees_own_sign, other_sign, no_sign_at_word, no_word_at_sign, sees_own_word, past_sign, past_word, other_word, other_dot, statement_by_same, past_name, no_sign_at_name, no_value_at_name, value_begins, complete_sign, complete_keyword, complete_name, complete_text, complete_number, complete_operator, complete_value, no_word_at_operator}

-- a statement ends at its `;`, and a dot line may end without
abbrev pub Ends : List Token → Type 0
Ends ts = (ts ≡ []) ⊎ ((after : List Token) × G.sign Semicolon ts after)

pub ends_word : (w : Text) (ts : List Token) → Ends ts → R.sees_word w ts ≡ false
unfolding R.sees_word R.first
ends_word w ts (inl e) = rw e refl
ends_word w ts (inr g) = no_word_at_sign w Semicolon ts g.0 g.1

pub ends_sign : (s : Sign) (ts : List Token) → sameb the_type Semicolon s ≡ false → Ends ts → R.sees_sign s ts ≡ false
unfolding R.sees_sign R.first
ends_sign s ts h (inl e) = rw e refl
ends_sign s ts h (inr g) = other_sign Semicolon s ts g.0 h g.1

-- ---- tables that may be there or not

complete_table : (b : Bool) (ts : List Token) (n : Text) (after : List Token) → G.name n ts after → R.table b ts ≡ Some ((b, n), after)
unfolding R.table
complete_table b ts n after g = rw (complete_name ts n after g) refl

and_no : (x y : Bool) → y ≡ false → (x && y) ≡ false
and_no true y h = h
and_no false y h = refl

no_guard : (v w n : Text) (ts after : List Token) → G.name n ts after → R.sees_word w after ≡ false → (R.sees_word v ts && R.sees_word w (R.rest ts)) ≡ false
no_guard v w n ts after g stops = and_no (R.sees_word v ts) (R.sees_word w (R.rest ts)) (ap (R.sees_word w) (past_name n ts after g) ∙ stops)

complete_if_not : (b : Bool) (n : Text) (ts mid after : List Token) → G.flag (λ s t. (m : List Token) × G.word (codes "IF") s m × ((k : List Token) × G.word (codes "NOT") m k × G.word (codes "EXISTS") k t)) b ts mid → G.name n mid after → R.sees_word (codes "NOT") after ≡ false → R.if_not_exists ts ≡ Some ((b, n), after)
unfolding R.if_not_exists
complete_if_not true n ts mid after g named stops =
    rw (
      sees_own_word (codes "IF") ts g.0 g.1,
      past_word (codes "IF") ts g.0 g.1,
      sees_own_word (codes "NOT") g.0 g.2.0 g.2.1,
      past_word (codes "NOT") g.0 g.2.0 g.2.1,
      complete_keyword (codes "EXISTS") g.2.0 mid g.2.2,
    )
    (complete_table true mid n after named)
complete_if_not false n ts mid after g named stops =
    rw (g, no_guard (codes "IF") (codes "NOT") n mid after named stops) (complete_table false mid n after named)

complete_if : (b : Bool) (n : Text) (ts mid after : List Token) → G.flag (λ s t. (m : List Token) × G.word (codes "IF") s m × G.word (codes "EXISTS") m t) b ts mid → G.name n mid after → R.sees_word (codes "EXISTS") after ≡ false → R.if_exists ts ≡ Some ((b, n), after)
unfolding R.if_exists
complete_if true n ts mid after g named stops =
    rw (
      sees_own_word (codes "IF") ts g.0 g.1,
      past_word (codes "IF") ts g.0 g.1,
      sees_own_word (codes "EXISTS") g.0 mid g.2,
      past_word (codes "EXISTS") g.0 mid g.2,
    )
    (complete_table true mid n after named)
complete_if false n ts mid after g named stops =
    rw (g, no_guard (codes "IF") (codes "EXISTS") n mid after named stops) (complete_table false mid n after named)

-- ---- conditions

complete_test : (read : Read) (writes : Writes) (each : TakesEach read writes) → Complete (R.a_test read) (G.test writes)
unfolding R.a_test R.null_test R.comparison
complete_test read writes each ts (tests.Compare c) after g =
    rw (
      complete_name ts c.column g.0 g.1,
      no_word_at_operator (codes "IS") c.op g.0 g.2.0 g.2.1,
      complete_operator g.0 c.op g.2.0 g.2.1,
      complete_value read writes each g.2.0 c.value after g.2.2,
    )
    refl
complete_test read writes each ts (tests.IsNull n) after g =
    rw (
      complete_name ts n g.0 g.1,
      sees_own_word (codes "IS") g.0 g.2.0 g.2.1,
      past_word (codes "IS") g.0 g.2.0 g.2.1,
      other_word (codes "NULL") (codes "NOT") g.2.0 after refl g.2.2,
      complete_keyword (codes "NULL") g.2.0 after g.2.2,
    )
    refl
complete_test read writes each ts (tests.IsNotNull n) after g =
    rw (
      complete_name ts n g.0 g.1,
      sees_own_word (codes "IS") g.0 g.2.0 g.2.1,
      past_word (codes "IS") g.0 g.2.0 g.2.1,
      sees_own_word (codes "NOT") g.2.0 g.2.2.0 g.2.2.1,
      past_word (codes "NOT") g.2.0 g.2.2.0 g.2.2.1,
      complete_keyword (codes "NULL") g.2.2.0 after g.2.2.2,
    )
    refl

abbrev EndsCondition : List Token → Type 0
EndsCondition ts = (R.sees_word (codes "WHERE") ts ≡ false) × (R.sees_word (codes "AND") ts ≡ false)

end_ends : (ts : List Token) → Ends ts → EndsCondition ts
end_ends ts e = (ends_word (codes "WHERE") ts e, ends_word (codes "AND") ts e)

complete_condition : (read : Read) (writes : Writes) (each : TakesEach read writes) (ts : List Token) (xs : List Test) (after : List Token) → G.condition writes xs ts after → EndsCondition after → R.condition read ts ≡ Some (xs, after)
unfolding R.condition
complete_condition read writes each ts [] after g stops = rw (g, stops.0) refl
complete_condition read writes each ts (x ∷ xs) after g stops =
    rw (sees_own_word (codes "WHERE") ts g.0 g.1, past_word (codes "WHERE") ts g.0 g.1)
    (complete_sequence (R.sees_word (codes "AND")) (G.word (codes "AND")) Anything and_separates (R.a_test read) (G.test writes) (test_takes read) (λ s a t h _. complete_test read writes each s a t h) g.0 (x ∷ xs) after g.2 stops.1 tt)

-- what stands in the place of a condition begins with no sign of these
no_sign_at_condition : (s : Sign) (writes : Writes) (xs : List Test) (ts after : List Token) → sameb the_type Semicolon s ≡ false → G.condition writes xs ts after → Ends after → R.sees_sign s ts ≡ false
no_sign_at_condition s writes [] ts after h g e = ap (R.sees_sign s) g ∙ ends_sign s after h e
no_sign_at_condition s writes (x ∷ xs) ts after h g e = no_sign_at_word s (codes "WHERE") ts g.0 g.1

-- ---- INSERT

complete_named : (ts : List Token) (o : Option (List Text)) (after : List Token) → G.named_columns o ts after → R.sees_sign LeftParenthesis after ≡ false → R.named_columns ts ≡ Some (o, after)
unfolding R.named_columns R.name_list
complete_named ts None after g stops = rw (g, stops) refl
complete_named ts (Some names) after g stops =
    rw (
      sees_own_sign LeftParenthesis ts g.0 g.1,
      past_sign LeftParenthesis ts g.0 g.1,
      complete_commas R.name G.name name_takes complete_name g.0 names g.2.0 g.2.1 (other_sign RightParenthesis Comma g.2.0 after refl g.2.2),
      complete_sign RightParenthesis g.2.0 after g.2.2,
    )
    refl

-- what comes after the head of an INSERT
abbrev Inserted : Writes → Text → Option (List Text) → List (List Value) → G.Part
Inserted writes table columns rows ts after =
    (a : List Token) × G.word (codes "INTO") ts a × ((b : List Token) × G.name table a b × ((c : List Token) × G.named_columns columns b c × ((d : List Token) × G.word (codes "VALUES") c d × G.by_commas (G.list writes) rows d after)))

complete_insert : (read : Read) (writes : Writes) (each : TakesEach read writes) (how : Rule) (table : Text) (columns : Option (List Text)) (rows : List (List Value)) (ts after : List Token) → Inserted writes table columns rows ts after → Ends after → R.insert read how ts ≡ Some (stmt.Edit table (edit.Insert how columns rows), after)
unfolding R.insert
complete_insert read writes each how table columns rows ts after g ends =
    rw (
      complete_keyword (codes "INTO") ts g.0 g.1,
      complete_name g.0 table g.2.0 g.2.1,
      complete_named g.2.0 columns g.2.2.0 g.2.2.1 (no_sign_at_word LeftParenthesis (codes "VALUES") g.2.2.0 g.2.2.2.0 g.2.2.2.1),
      complete_keyword (codes "VALUES") g.2.2.0 g.2.2.2.0 g.2.2.2.1,
      complete_commas (R.list read) (G.list writes) (list_takes read) (complete_list read writes each) g.2.2.2.0 rows after g.2.2.2.2 (ends_sign Comma after refl ends),
    )
    refl

rule_none : (ts : List Token) → R.sees_word (codes "OR") ts ≡ false → R.rule ts ≡ Some (Abort, ts)
unfolding R.rule
rule_none ts h = rw h refl

rule_abort : (ts mid after : List Token) → G.word (codes "OR") ts mid → G.word (codes "ABORT") mid after → R.rule ts ≡ Some (Abort, after)
unfolding R.rule R.chosen_rule R.other_rule
rule_abort ts mid after o w =
    rw (sees_own_word (codes "OR") ts mid o, past_word (codes "OR") ts mid o, other_word (codes "ABORT") (codes "REPLACE") mid after refl w, other_word (codes "ABORT") (codes "IGNORE") mid after refl w, complete_keyword (codes "ABORT") mid after w) refl

rule_ignore : (ts mid after : List Token) → G.word (codes "OR") ts mid → G.word (codes "IGNORE") mid after → R.rule ts ≡ Some (Ignore, after)
unfolding R.rule R.chosen_rule R.other_rule
rule_ignore ts mid after o w =
    rw (sees_own_word (codes "OR") ts mid o, past_word (codes "OR") ts mid o, other_word (codes "IGNORE") (codes "REPLACE") mid after refl w, sees_own_word (codes "IGNORE") mid after w, past_word (codes "IGNORE") mid after w) refl

rule_replace : (ts mid after : List Token) → G.word (codes "OR") ts mid → G.word (codes "REPLACE") mid after → R.rule ts ≡ Some (Replace, after)
unfolding R.rule R.chosen_rule
rule_replace ts mid after o w =
    rw (sees_own_word (codes "OR") ts mid o, past_word (codes "OR") ts mid o, sees_own_word (codes "REPLACE") mid after w, past_word (codes "REPLACE") mid after w) refl

-- after INSERT
statement_insert : (read : Read) (ts mid : List Token) → G.word (codes "INSERT") ts mid → R.statement read ts ≡ R.and_then (R.rule mid) (λ how. R.insert read how)
unfolding R.statement R.insertion
statement_insert read ts mid g =
    rw (other_word (codes "INSERT") (codes "SELECT") ts mid refl g, sees_own_word (codes "INSERT") ts mid g, past_word (codes "INSERT") ts mid g) refl

statement_replace : (read : Read) (ts mid : List Token) → G.word (codes "REPLACE") ts mid → R.statement read ts ≡ R.insert read Replace mid
unfolding R.statement R.insertion R.replacement
statement_replace read ts mid g =
    rw (other_word (codes "REPLACE") (codes "SELECT") ts mid refl g, other_word (codes "REPLACE") (codes "INSERT") ts mid refl g, sees_own_word (codes "REPLACE") ts mid g, past_word (codes "REPLACE") ts mid g) refl

statement_with : (read : Read) (ts mid after : List Token) (how : Rule) → G.word (codes "INSERT") ts mid → R.rule mid ≡ Some (how, after) → R.statement read ts ≡ R.insert read how after
statement_with read ts mid after how g e = statement_insert read ts mid g ∙ rw e refl

head_read : (read : Read) (how : Rule) (ts mid after : List Token) → G.head how ts mid → G.word (codes "INTO") mid after → R.statement read ts ≡ R.insert read how mid
head_read read Abort ts mid after (inl g) w = statement_with read ts mid mid Abort g (rule_none mid (other_word (codes "INTO") (codes "OR") mid after refl w))
head_read read Abort ts mid after (inr g) w = statement_with read ts g.0 mid Abort g.1 (rule_abort g.0 g.2.0 mid g.2.1 g.2.2)
head_read read Ignore ts mid after g w = statement_with read ts g.0 mid Ignore g.1 (rule_ignore g.0 g.2.0 mid g.2.1 g.2.2)
head_read read Replace ts mid after (inl g) w = statement_replace read ts mid g
head_read read Replace ts mid after (inr g) w = statement_with read ts g.0 mid Replace g.1 (rule_replace g.0 g.2.0 mid g.2.1 g.2.2)

-- ---- UPDATE

abbrev EndsSource : List Token → Type 0
EndsSource ts = (R.sees_sign Plus ts ≡ false) × (R.sees_sign Minus ts ≡ false)

complete_source : (read : Read) (writes : Writes) (each : TakesEach read writes) (ts : List Token) (s : Source) (after : List Token) → G.source writes s ts after → EndsSource after → R.a_source read ts ≡ Some (s, after)
unfolding R.a_source R.from_column R.less_or_same
complete_source read writes each ts (sources.Literal v) after g stops =
    rw (value_begins writes v ts after g, complete_value read writes each ts v after g) refl
complete_source read writes each ts (sources.Column n) after g stops =
    rw (no_value_at_name n ts after g, complete_name ts n after g, stops.0, stops.1) refl
complete_source read writes each ts (sources.Plus n k) after g stops =
    rw (
      no_value_at_name n ts g.0 g.1,
      complete_name ts n g.0 g.1,
      sees_own_sign Plus g.0 g.2.0 g.2.1,
      past_sign Plus g.0 g.2.0 g.2.1,
      complete_number read writes each false g.2.0 k after g.2.2,
    )
    refl
complete_source read writes each ts (sources.Minus n k) after g stops =
    rw (
      no_value_at_name n ts g.0 g.1,
      complete_name ts n g.0 g.1,
      other_sign Minus Plus g.0 g.2.0 refl g.2.1,
      sees_own_sign Minus g.0 g.2.0 g.2.1,
      past_sign Minus g.0 g.2.0 g.2.1,
      complete_number read writes each false g.2.0 k after g.2.2,
    )
    refl

complete_set : (read : Read) (writes : Writes) (each : TakesEach read writes) (ts : List Token) (s : Text × Source) (after : List Token) → G.set writes s ts after → EndsSource after → R.set read ts ≡ Some (s, after)
unfolding R.set
complete_set read writes each ts s after g stops =
    rw (complete_name ts s.0 g.0 g.1, complete_sign Equal g.0 g.2.0 g.2.1, complete_source read writes each g.2.0 s.1 after g.2.2 stops) refl

comma_ends_source : Separates (R.sees_sign Comma) (G.sign Comma) EndsSource
comma_ends_source ts mid g =
    (sees_own_sign Comma ts mid g, past_sign Comma ts mid g, (other_sign Comma Plus ts mid refl g, other_sign Comma Minus ts mid refl g), sign_shorter Comma ts mid g)

-- ---- SELECT

after_asc : (ts after : List Token) → G.nothing ts after ⊎ G.word (codes "ASC") ts after → Ends after → (if R.sees_word (codes "ASC") ts then R.rest ts else ts) ≡ after
after_asc ts after (inl g) ends = rw (g, ends_word (codes "ASC") after ends) refl
after_asc ts after (inr g) ends = rw (sees_own_word (codes "ASC") ts after g) (past_word (codes "ASC") ts after g)

complete_order : (ts : List Token) (o : Option Text) (after : List Token) → G.order o ts after → Ends after → R.order ts ≡ Some (o, after)
unfolding R.order R.order_by
complete_order ts None after g ends = rw (g, ends_word (codes "ORDER") after ends) refl
complete_order ts (Some n) after g ends =
    rw (
      sees_own_word (codes "ORDER") ts g.0 g.1,
      past_word (codes "ORDER") ts g.0 g.1,
      complete_keyword (codes "BY") g.0 g.2.0 g.2.1,
      complete_name g.2.0 n g.2.2.0 g.2.2.1,
      after_asc g.2.2.0 after g.2.2.2 ends,
    )
    refl

order_ends : (o : Option Text) (ts after : List Token) → G.order o ts after → Ends after → EndsCondition ts
order_ends None ts after g ends = rw g (end_ends after ends)
order_ends (Some n) ts after g ends = (other_word (codes "ORDER") (codes "WHERE") ts g.0 refl g.1, other_word (codes "ORDER") (codes "AND") ts g.0 refl g.1)

complete_selection : (ts : List Token) (o : Option (List Text)) (after : List Token) → G.selection o ts after → R.sees_sign Comma after ≡ false → R.selection ts ≡ Some (o, after)
unfolding R.selection
complete_selection ts None after g stops = rw (sees_own_sign Star ts after g, past_sign Star ts after g) refl
complete_selection ts (Some []) after g stops = absurd g
complete_selection ts (Some (n ∷ ns)) after g stops =
    rw (no_sign_at_name Star n ts g.0 g.1, complete_commas R.name G.name name_takes complete_name ts (n ∷ ns) after g stops) refl

no_check : (o : Option (List Text)) (ts mid after : List Token) → G.selection o ts mid → G.word (codes "FROM") mid after → (R.sees_word (codes "RTREECHECK") ts && R.sees_sign LeftParenthesis (R.rest ts)) ≡ false
no_check None ts mid after g w = rw (no_word_at_sign (codes "RTREECHECK") Star ts mid g) refl
no_check (Some []) ts mid after g w = absurd g
no_check (Some (n ∷ [])) ts mid after g w =
    and_no (R.sees_word (codes "RTREECHECK") ts) (R.sees_sign LeftParenthesis (R.rest ts))
    (ap (R.sees_sign LeftParenthesis) (past_name n ts g.0 g.1 ∙ g.2) ∙ no_sign_at_word LeftParenthesis (codes "FROM") mid after w)
no_check (Some (n ∷ k ∷ ns)) ts mid after g w =
    and_no (R.sees_word (codes "RTREECHECK") ts) (R.sees_sign LeftParenthesis (R.rest ts))
    (ap (R.sees_sign LeftParenthesis) (past_name n ts g.0 g.1) ∙ other_sign Comma LeftParenthesis g.0 g.2.0 refl g.2.1)

-- ---- statements

complete_create : (read : Read) (writes : Writes) (each : TakesEach read writes) (table : Text) (if_absent : Bool) (columns : List ColumnDef) (ts after : List Token) → G.statement writes (stmt.Create table if_absent columns) ts after → Ends after → R.statement read ts ≡ Some (stmt.Create table if_absent columns, after)
unfolding R.statement R.insertion R.replacement R.change R.definition R.create
complete_create read writes each table if_absent columns ts after g ends =
    rw (
      other_word (codes "CREATE") (codes "SELECT") ts g.0 refl g.1,
      other_word (codes "CREATE") (codes "INSERT") ts g.0 refl g.1,
      other_word (codes "CREATE") (codes "REPLACE") ts g.0 refl g.1,
      other_word (codes "CREATE") (codes "UPDATE") ts g.0 refl g.1,
      other_word (codes "CREATE") (codes "DELETE") ts g.0 refl g.1,
      sees_own_word (codes "CREATE") ts g.0 g.1,
      past_word (codes "CREATE") ts g.0 g.1,
      complete_keyword (codes "VIRTUAL") (g.0) (g.2.0) (g.2.1),
      complete_keyword (codes "TABLE") (g.2.0) (g.2.2.0) (g.2.2.1),
      complete_if_not if_absent table (g.2.2.0) (g.2.2.2.0) (g.2.2.2.2.0) (g.2.2.2.1) (g.2.2.2.2.1) (other_word (codes "USING") (codes "NOT") (g.2.2.2.2.0) (g.2.2.2.2.2.0) refl (g.2.2.2.2.2.1)),
      complete_keyword (codes "USING") (g.2.2.2.2.0) (g.2.2.2.2.2.0) (g.2.2.2.2.2.1),
      complete_keyword (codes "RTREE_I32") (g.2.2.2.2.2.0) (g.2.2.2.2.2.2.0) (g.2.2.2.2.2.2.1),
      complete_sign LeftParenthesis (g.2.2.2.2.2.2.0) (g.2.2.2.2.2.2.2.0) (g.2.2.2.2.2.2.2.1),
      complete_sequence (R.sees_sign Comma) (G.sign Comma) EndsColumn comma_ends_column (R.column read) (G.column writes) (column_takes read) (complete_column read writes each) (g.2.2.2.2.2.2.2.0) columns (g.2.2.2.2.2.2.2.2.0) (g.2.2.2.2.2.2.2.2.1) (other_sign RightParenthesis Comma (g.2.2.2.2.2.2.2.2.0) after refl (g.2.2.2.2.2.2.2.2.2)) (parenthesis_ends_column (g.2.2.2.2.2.2.2.2.0) after (g.2.2.2.2.2.2.2.2.2)),
      complete_sign RightParenthesis (g.2.2.2.2.2.2.2.2.0) after (g.2.2.2.2.2.2.2.2.2),
    )
    refl

complete_drop : (read : Read) (writes : Writes) (each : TakesEach read writes) (table : Text) (if_there : Bool) (ts after : List Token) → G.statement writes (stmt.Drop table if_there) ts after → Ends after → R.statement read ts ≡ Some (stmt.Drop table if_there, after)
unfolding R.statement R.insertion R.replacement R.change R.definition R.drop_table
complete_drop read writes each table if_there ts after g ends =
    rw (
      other_word (codes "DROP") (codes "SELECT") ts g.0 refl g.1,
      other_word (codes "DROP") (codes "INSERT") ts g.0 refl g.1,
      other_word (codes "DROP") (codes "REPLACE") ts g.0 refl g.1,
      other_word (codes "DROP") (codes "UPDATE") ts g.0 refl g.1,
      other_word (codes "DROP") (codes "DELETE") ts g.0 refl g.1,
      other_word (codes "DROP") (codes "CREATE") ts g.0 refl g.1,
      complete_keyword (codes "DROP") ts g.0 g.1,
      complete_keyword (codes "TABLE") (g.0) (g.2.0) (g.2.1),
      complete_if if_there table (g.2.0) (g.2.2.0) after (g.2.2.1) (g.2.2.2) (ends_word (codes "EXISTS") after ends),
    )
    refl

complete_update : (read : Read) (writes : Writes) (each : TakesEach read writes) (table : Text) (sets : List (Text × Source)) (cond : List Test) (ts after : List Token) → G.statement writes (stmt.Edit table (edit.Update sets cond)) ts after → Ends after → R.statement read ts ≡ Some (stmt.Edit table (edit.Update sets cond), after)
unfolding R.statement R.insertion R.replacement R.change R.update
complete_update read writes each table sets cond ts after g ends =
    rw (
      other_word (codes "UPDATE") (codes "SELECT") ts g.0 refl g.1,
      other_word (codes "UPDATE") (codes "INSERT") ts g.0 refl g.1,
      other_word (codes "UPDATE") (codes "REPLACE") ts g.0 refl g.1,
      sees_own_word (codes "UPDATE") ts g.0 g.1,
      past_word (codes "UPDATE") ts g.0 g.1,
      complete_name (g.0) table (g.2.0) (g.2.1),
      complete_keyword (codes "SET") (g.2.0) (g.2.2.0) (g.2.2.1),
      complete_sequence (R.sees_sign Comma) (G.sign Comma) EndsSource comma_ends_source (R.set read) (G.set writes) (set_takes read) (complete_set read writes each) (g.2.2.0) sets (g.2.2.2.0) (g.2.2.2.1) (no_sign_at_condition Comma writes cond (g.2.2.2.0) after refl (g.2.2.2.2) ends) (no_sign_at_condition Plus writes cond (g.2.2.2.0) after refl (g.2.2.2.2) ends, no_sign_at_condition Minus writes cond (g.2.2.2.0) after refl (g.2.2.2.2) ends),
      complete_condition read writes each (g.2.2.2.0) cond after (g.2.2.2.2) (end_ends after ends),
    )
    refl

complete_delete : (read : Read) (writes : Writes) (each : TakesEach read writes) (table : Text) (cond : List Test) (ts after : List Token) → G.statement writes (stmt.Edit table (edit.Delete cond)) ts after → Ends after → R.statement read ts ≡ Some (stmt.Edit table (edit.Delete cond), after)
unfolding R.statement R.insertion R.replacement R.change R.delete
complete_delete read writes each table cond ts after g ends =
    rw (
      other_word (codes "DELETE") (codes "SELECT") ts g.0 refl g.1,
      other_word (codes "DELETE") (codes "INSERT") ts g.0 refl g.1,
      other_word (codes "DELETE") (codes "REPLACE") ts g.0 refl g.1,
      other_word (codes "DELETE") (codes "UPDATE") ts g.0 refl g.1,
      sees_own_word (codes "DELETE") ts g.0 g.1,
      past_word (codes "DELETE") ts g.0 g.1,
      complete_keyword (codes "FROM") (g.0) (g.2.0) (g.2.1),
      complete_name (g.2.0) table (g.2.2.0) (g.2.2.1),
      complete_condition read writes each (g.2.2.0) cond after (g.2.2.2) (end_ends after ends),
    )
    refl

complete_select : (read : Read) (writes : Writes) (each : TakesEach read writes) (columns : Option (List Text)) (table : Text) (cond : List Test) (by : Option Text) (ts after : List Token) → G.statement writes (stmt.Select columns table cond by) ts after → Ends after → R.statement read ts ≡ Some (stmt.Select columns table cond by, after)
unfolding R.statement R.insertion R.replacement R.select R.select_rows
complete_select read writes each columns table cond by ts after g ends =
    rw (
      sees_own_word (codes "SELECT") ts g.0 g.1,
      past_word (codes "SELECT") ts g.0 g.1,
      no_check columns g.0 g.2.0 g.2.2.0 g.2.1 g.2.2.1,
      complete_selection (g.0) columns (g.2.0) (g.2.1) (no_sign_at_word Comma (codes "FROM") (g.2.0) (g.2.2.0) (g.2.2.1)),
      complete_keyword (codes "FROM") (g.2.0) (g.2.2.0) (g.2.2.1),
      complete_name (g.2.2.0) table (g.2.2.2.0) (g.2.2.2.1),
      complete_condition read writes each (g.2.2.2.0) cond (g.2.2.2.2.0) (g.2.2.2.2.1) (order_ends by (g.2.2.2.2.0) after (g.2.2.2.2.2) ends),
      complete_order (g.2.2.2.2.0) by after (g.2.2.2.2.2) ends,
    )
    refl

complete_check : (read : Read) (writes : Writes) (each : TakesEach read writes) (table : Text) (ts after : List Token) → G.statement writes (stmt.Check table) ts after → Ends after → R.statement read ts ≡ Some (stmt.Check table, after)
unfolding R.statement R.insertion R.replacement R.select R.check
complete_check read writes each table ts after g ends =
    rw (
      sees_own_word (codes "SELECT") ts g.0 g.1,
      past_word (codes "SELECT") ts g.0 g.1,
      sees_own_word (codes "RTREECHECK") g.0 g.2.0 g.2.1,
      past_word (codes "RTREECHECK") g.0 g.2.0 g.2.1,
      sees_own_sign LeftParenthesis g.2.0 g.2.2.0 g.2.2.1,
      complete_sign LeftParenthesis (g.2.0) (g.2.2.0) (g.2.2.1),
      complete_text (g.2.2.0) table (g.2.2.2.0) (g.2.2.2.1),
      complete_sign RightParenthesis (g.2.2.2.0) after (g.2.2.2.2),
    )
    refl

complete_inserted : (read : Read) (writes : Writes) (each : TakesEach read writes) (how : Rule) (table : Text) (columns : Option (List Text)) (rows : List (List Value)) (ts after : List Token) → G.statement writes (stmt.Edit table (edit.Insert how columns rows)) ts after → Ends after → R.statement read ts ≡ Some (stmt.Edit table (edit.Insert how columns rows), after)
complete_inserted read writes each how table columns rows ts after g ends =
    head_read read how ts g.0 g.2.0 g.1 g.2.1 ∙ complete_insert read writes each how table columns rows g.0 after g.2 ends

-- ---- the whole list

whole_at_word : (read : Read) (w : Text) (ts after : List Token) → ts ≡ token.Word w ∷ after → R.whole read ts ≡ R.whole_statement read ts
unfolding R.whole R.dot_in R.first
whole_at_word read w ts after g = rw g refl

whole_at_dot : (read : Read) (w : Text) (ts after : List Token) → ts ≡ token.Dot w ∷ after → R.whole read ts ≡ R.whole_command read w after
unfolding R.whole R.dot_in R.first R.rest
whole_at_dot read w ts after g = rw g refl

finished : (s : Stmt) → R.finish s [] ≡ Some (s, [])
unfolding R.finish R.first
finished s = refl

ended_statement : (read : Read) (s : Stmt) (ts mid : List Token) → R.statement read ts ≡ Some (s, mid) → G.sign Semicolon mid [] → R.whole_statement read ts ≡ Some (s, [])
unfolding R.whole_statement
ended_statement read s ts mid e g = rw (e, complete_sign Semicolon mid [] g) (finished s)

after_semicolon : (ts : List Token) → G.ending ts [] → (if R.sees_sign Semicolon ts then R.rest ts else ts) ≡ []
unfolding R.sees_sign R.first R.rest
after_semicolon ts (inl g) = rw g refl
after_semicolon ts (inr g) = rw (sees_own_sign Semicolon ts [] g) (past_sign Semicolon ts [] g)

ended_command : (read : Read) (s : Stmt) (w : Text) (ts mid : List Token) → R.command read w ts ≡ Some (s, mid) → G.ending mid [] → R.whole_command read w ts ≡ Some (s, [])
unfolding R.whole_command
ended_command read s w ts mid e g = rw (e, after_semicolon mid g) (finished s)

dot_line_ends : (ts : List Token) → G.ending ts [] → Ends ts
dot_line_ends ts (inl g) = inl g
dot_line_ends ts (inr g) = inr ([], g)

complete_watch : (read : Read) (writes : Writes) (each : TakesEach read writes) (view table : Text) (cond : List Test) (ts after : List Token) (g : G.statement writes (stmt.Watch view table cond) ts after) → Ends after → R.command read g.1.0 g.0 ≡ Some (stmt.Watch view table cond, after)
unfolding R.command R.watch
complete_watch read writes each view table cond ts after g ends =
    rw (
      g.1.2,
      complete_name g.0 view g.2.0 g.2.1,
      complete_keyword (codes "FROM") g.2.0 g.2.2.0 g.2.2.1,
      complete_name g.2.2.0 table g.2.2.2.0 g.2.2.2.1,
      complete_condition read writes each g.2.2.2.0 cond after g.2.2.2.2 (end_ends after ends),
    )
    refl

-- a dot line with one name
complete_line : (read : Read) (v w n : Text) (asked : Stmt) (ts after : List Token) → same_word w v ≡ true → same_word v (codes "WATCH") ≡ false → R.statement_by v n G.named_lines ≡ Some asked → G.name n ts after → R.command read w ts ≡ Some (asked, after)
unfolding R.command R.named_command
complete_line read v w n asked ts after h other known g =
    rw (other_dot w v (codes "WATCH") h other, complete_name ts n after g, statement_by_same v w n G.named_lines h, known) refl

complete_named_line : (read : Read) (v n : Text) (asked : Stmt) (ts : List Token) → same_word v (codes "WATCH") ≡ false → R.statement_by v n G.named_lines ≡ Some asked → ((G.dot v ⨾ G.name n) ⨾ G.ending) ts [] → R.whole read ts ≡ Some (asked, [])
complete_named_line read v n asked ts other known g =
    whole_at_dot read g.1.1.0 ts g.1.0 g.1.1.1 ∙ ended_command read asked g.1.1.0 g.1.0 g.0 (complete_line read v g.1.1.0 n asked g.1.0 g.0 g.1.1.2 other known g.1.2) g.2

head_word : (how : Rule) (ts mid : List Token) → G.head how ts mid → (w : Text) × (after : List Token) × (ts ≡ token.Word w ∷ after)
head_word Abort ts mid (inl g) = (g.0, mid, g.1)
head_word Abort ts mid (inr g) = (g.1.0, g.0, g.1.1)
head_word Ignore ts mid g = (g.1.0, g.0, g.1.1)
head_word Replace ts mid (inl g) = (g.0, mid, g.1)
head_word Replace ts mid (inr g) = (g.1.0, g.0, g.1.1)

pub complete_whole : (read : Read) (writes : Writes) (each : TakesEach read writes) (ts : List Token) (s : Stmt) → G.Spells writes ts s → R.whole read ts ≡ Some (s, [])
unfolding R.statement_by
complete_whole read writes each ts (stmt.Create table if_absent columns) g =
    whole_at_word read g.1.1.0 ts g.1.0 g.1.1.1 ∙ ended_statement read (stmt.Create table if_absent columns) ts g.0 (complete_create read writes each table if_absent columns ts g.0 g.1 (inr ([], g.2))) g.2
complete_whole read writes each ts (stmt.Drop table if_there) g =
    whole_at_word read g.1.1.0 ts g.1.0 g.1.1.1 ∙ ended_statement read (stmt.Drop table if_there) ts g.0 (complete_drop read writes each table if_there ts g.0 g.1 (inr ([], g.2))) g.2
complete_whole read writes each ts (stmt.Edit table (edit.Insert how columns rows)) g =
    let k = head_word how ts g.1.0 g.1.1 in
    whole_at_word read k.0 ts k.1 k.2 ∙ ended_statement read (stmt.Edit table (edit.Insert how columns rows)) ts g.0 (complete_inserted read writes each how table columns rows ts g.0 g.1 (inr ([], g.2))) g.2
complete_whole read writes each ts (stmt.Edit table (edit.Update sets cond)) g =
    whole_at_word read g.1.1.0 ts g.1.0 g.1.1.1 ∙ ended_statement read (stmt.Edit table (edit.Update sets cond)) ts g.0 (complete_update read writes each table sets cond ts g.0 g.1 (inr ([], g.2))) g.2
complete_whole read writes each ts (stmt.Edit table (edit.Delete cond)) g =
    whole_at_word read g.1.1.0 ts g.1.0 g.1.1.1 ∙ ended_statement read (stmt.Edit table (edit.Delete cond)) ts g.0 (complete_delete read writes each table cond ts g.0 g.1 (inr ([], g.2))) g.2
complete_whole read writes each ts (stmt.Select columns table cond by) g =
    whole_at_word read g.1.1.0 ts g.1.0 g.1.1.1 ∙ ended_statement read (stmt.Select columns table cond by) ts g.0 (complete_select read writes each columns table cond by ts g.0 g.1 (inr ([], g.2))) g.2
complete_whole read writes each ts (stmt.Check table) g =
    whole_at_word read g.1.1.0 ts g.1.0 g.1.1.1 ∙ ended_statement read (stmt.Check table) ts g.0 (complete_check read writes each table ts g.0 g.1 (inr ([], g.2))) g.2
complete_whole read writes each ts (stmt.Watch view table cond) g =
    whole_at_dot read g.1.1.0 ts g.1.0 g.1.1.1 ∙ ended_command read (stmt.Watch view table cond) g.1.1.0 g.1.0 g.0 (complete_watch read writes each view table cond ts g.0 g.1 (dot_line_ends g.0 g.2)) g.2
complete_whole read writes each ts (stmt.Unwatch n) g = complete_named_line read (codes "UNWATCH") n (stmt.Unwatch n) ts refl refl g
complete_whole read writes each ts (stmt.View n) g = complete_named_line read (codes "VIEW") n (stmt.View n) ts refl refl g
complete_whole read writes each ts (stmt.Nodes n) g = complete_named_line read (codes "NODES") n (stmt.Nodes n) ts refl refl g
