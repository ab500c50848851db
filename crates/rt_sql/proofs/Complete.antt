-- What is spelled is read.
use Rattle.std.proofs.Common.{◌≡◌, ℕ, zero, suc, ◌<◌, ◌≤◌, ◌⊎◌, inl, inr, Bool, true, false, List, [], ◌∷◌, ◌++◌, map, length, Some, codes, if◌then◌else◌, refl, ap, ◌∙◌, append_assoc, arith}
use lib.IntN.{ℤ}
use denote.Enum.Bare.{true_same, sameb}
use Rattle.rt_sql.specs.contracts.token.Sign.{the_type}
use Rattle.rt_sql_statement.specs.declared.statement.ColumnDef.{ColumnDef}
use Rattle.rt_sql_request.specs.declared.request.Stmt.{Stmt}
use Rattle.rt_box.specs.declared.operator.Operator.{Operator}
use Rattle.rt_sql.specs.declared.token.Sign.{Sign}
use Rattle.rt_sql.specs.declared.token.Sign.TheVariants.{LeftParenthesis, RightParenthesis, Comma, Plus, Minus, Equal, DoubleEqual, LessGreater, BangEqual, Less, LessOrEqual, Greater, GreaterOrEqual}
use Rattle.rt_sql.specs.declared.token.Token.{Token}
use Rattle.rt_sql.specs.declared.token.Token.TheVariants as token
use Rattle.rt_sql_statement.specs.declared.value.Value.{Value}
use Rattle.rt_sql_statement.specs.declared.value.Value.TheVariants as values
use Rattle.rt_sql.specs.Token.{Text, same_word, is_reserved}
use Rattle.rt_sql.specs.Number.{Writes}
use Rattle.rt_sql.specs.Grammar as G
use Rattle.rt_sql.specs.Reading.{Parser, Read, TakesTokens}
use Rattle.rt_sql.specs.Reading as R
use Rattle.rt_sql.proofs.Basics.{test}
use Rattle.std.proofs.lemmas.Slice.Eq.{bytes_eq-Decides}
use Rattle.std.specs.List.{list_any}
use Rattle.std.specs.Str.{bytes_eq, str_to_ascii_lowercase}
use Rattle.rt_box.specs.declared.operator.Operator.TheVariants.{Eq, Ne, Lt, Le, Gt, Ge}
use Rattle.rt_sql.proofs.Sequences.{turn_last, turn_more}
use Rattle.rt_sql.proofs.Shorter.{sign_shorter, word_shorter, value_takes}
use Rattle.rt_sql.proofs.Sound.{TakesEach}

-- what is spelled, and what is read of it
abbrev pub Complete : {A : Type 0} → Parser A → (A → G.Part) → Type 0
Complete {A} p P = (ts : List Token) (a : A) (after : List Token) → P a ts after → p ts ≡ Some (a, after)

-- ---- what comes next

pub sees_own_sign : (s : Sign) (ts after : List Token) → G.sign s ts after → R.sees_sign s ts ≡ true
unfolding R.sees_sign R.is_sign R.first
sees_own_sign s ts after g = rw g (true_same the_type s s refl)

pub past : (t : Token) (ts after : List Token) → ts ≡ t ∷ after → R.rest ts ≡ after
unfolding R.rest
past t ts after g = rw g refl

pub sign_at : (s : Sign) (t : Token) (ts after : List Token) → ts ≡ t ∷ after → R.sees_sign s ts ≡ R.is_sign s t
unfolding R.sees_sign R.first
sign_at s t ts after g = rw g refl

pub word_at : (w : Text) (t : Token) (ts after : List Token) → ts ≡ t ∷ after → R.sees_word w ts ≡ R.is_word w t
unfolding R.sees_word R.first
word_at w t ts after g = rw g refl

pub literal_at : (t : Token) (ts after : List Token) → ts ≡ t ∷ after → R.sees_literal ts ≡ R.is_literal t
unfolding R.sees_literal R.first
literal_at t ts after g = rw g refl

pub any_word_at : (t : Token) (ts after : List Token) → ts ≡ t ∷ after → R.sees_any_word ts ≡ R.is_any_word t
unfolding R.sees_any_word R.first
any_word_at t ts after g = rw g refl

pub value_at : (t : Token) (ts after : List Token) → ts ≡ t ∷ after → R.sees_value ts ≡ R.begins_value t
unfolding R.sees_value R.first
value_at t ts after g = rw g refl

pub other_sign : (s t : Sign) (ts after : List Token) → sameb the_type s t ≡ false → G.sign s ts after → R.sees_sign t ts ≡ false
unfolding R.is_sign
other_sign s t ts after e g = sign_at t (token.Sign s) ts after g ∙ e

pub no_sign_at_word : (s : Sign) (w : Text) (ts after : List Token) → G.word w ts after → R.sees_sign s ts ≡ false
unfolding R.is_sign
no_sign_at_word s w ts after g = sign_at s (token.Word g.0) ts after g.1

pub no_word_at_sign : (w : Text) (s : Sign) (ts after : List Token) → G.sign s ts after → R.sees_word w ts ≡ false
unfolding R.is_word
no_word_at_sign w s ts after g = word_at w (token.Sign s) ts after g

pub sees_own_word : (w : Text) (ts after : List Token) → G.word w ts after → R.sees_word w ts ≡ true
unfolding R.is_word
sees_own_word w ts after g = word_at w (token.Word g.0) ts after g.1 ∙ g.2

pub past_sign : (s : Sign) (ts after : List Token) → G.sign s ts after → R.rest ts ≡ after
past_sign s ts after g = past (token.Sign s) ts after g

pub past_word : (w : Text) (ts after : List Token) → G.word w ts after → R.rest ts ≡ after
past_word w ts after g = past (token.Word g.0) ts after g.1

same_word-alike : (u v w : Text) → same_word u v ≡ true → same_word u w ≡ same_word v w
same_word-alike u v w e =
    let is_same : str_to_ascii_lowercase u ≡ str_to_ascii_lowercase v = (bytes_eq-Decides (str_to_ascii_lowercase u) (str_to_ascii_lowercase v)).0 e in
    ap (λ x. bytes_eq x (str_to_ascii_lowercase w)) is_same

same_word-other : (u v w : Text) → same_word u v ≡ true → same_word v w ≡ false → same_word u w ≡ false
same_word-other u v w e f = same_word-alike u v w e ∙ f

pub other_word : (v w : Text) (ts after : List Token) → same_word v w ≡ false → G.word v ts after → R.sees_word w ts ≡ false
unfolding R.is_word
other_word v w ts after e g = word_at w (token.Word g.0) ts after g.1 ∙ same_word-other g.0 v w g.2 e

-- the same for a dot's word
pub other_dot : (u v w : Text) → same_word u v ≡ true → same_word v w ≡ false → same_word u w ≡ false
other_dot u v w e f = same_word-other u v w e f

-- a dot line with one name asks for the same in whatever ASCII case its word is written
pub statement_by_same : (v w n : Text) (lines : List (Text × (Text → Stmt))) → same_word w v ≡ true → R.statement_by w n lines ≡ R.statement_by v n lines
unfolding R.statement_by
statement_by_same v w n [] h = refl
statement_by_same v w n (line ∷ lines) h = rw (same_word-alike w v line.0 h, statement_by_same v w n lines h) refl

pub past_name : (n : Text) (ts after : List Token) → G.name n ts after → R.rest ts ≡ after
past_name n ts after (inl g) = past (token.Word n) ts after g.0
past_name n ts after (inr g) = past (token.Quoted g.0) ts after g.1

pub no_sign_at_name : (s : Sign) (n : Text) (ts after : List Token) → G.name n ts after → R.sees_sign s ts ≡ false
unfolding R.is_sign
no_sign_at_name s n ts after (inl g) = sign_at s (token.Word n) ts after g.0
no_sign_at_name s n ts after (inr g) = sign_at s (token.Quoted g.0) ts after g.1

any_has : (p : Text → Bool) (xs ys : List Text) (y : Text) → p y ≡ true → list_any p (xs ++ y ∷ ys) ≡ true
any_has p [] ys y h = rw h refl
any_has p (x ∷ xs) ys y h = test (p x) (λ e. rw e refl) (λ e. rw e (any_has p xs ys y h))

reserved_null : (n : Text) → same_word n (codes "NULL") ≡ true → is_reserved n ≡ true
unfolding is_reserved
reserved_null n h =
    any_has (same_word n)
    (codes "AND" ∷ codes "BETWEEN" ∷ codes "CREATE" ∷ codes "DELETE" ∷ codes "DROP" ∷ codes "EXISTS" ∷ codes "FROM" ∷ codes "INSERT" ∷ codes "INTO" ∷ codes "IS" ∷ codes "NOT" ∷ [])
    (codes "OR" ∷ codes "ORDER" ∷ codes "SELECT" ∷ codes "SET" ∷ codes "TABLE" ∷ codes "UPDATE" ∷ codes "USING" ∷ codes "VALUES" ∷ codes "WHERE" ∷ []) (codes "NULL") h

no_null_name : (n : Text) → is_reserved n ≡ false → same_word n (codes "NULL") ≡ false
no_null_name n h = test (same_word n (codes "NULL")) (λ e. let k = reserved_null n e in absurd (cc)) (λ e. e)

pub no_value_at_name : (n : Text) (ts after : List Token) → G.name n ts after → R.sees_value ts ≡ false
unfolding R.begins_value
no_value_at_name n ts after (inl g) = value_at (token.Word n) ts after g.0 ∙ no_null_name n g.1
no_value_at_name n ts after (inr g) = value_at (token.Quoted g.0) ts after g.1

-- ---- tokens

pub complete_sign : (s : Sign) (ts after : List Token) → G.sign s ts after → R.sign s ts ≡ Some (tt, after)
unfolding R.sign
complete_sign s ts after g = rw (sees_own_sign s ts after g, past_sign s ts after g) refl

pub complete_keyword : (w : Text) (ts after : List Token) → G.word w ts after → R.keyword w ts ≡ Some (tt, after)
unfolding R.keyword
complete_keyword w ts after g = rw (sees_own_word w ts after g, past_word w ts after g) refl

pub complete_name : Complete R.name G.name
unfolding R.name R.name_in R.first R.rest
complete_name ts n after (inl g) = rw (g.0, g.1) refl
complete_name ts n after (inr g) = rw (g.1, g.2) refl

pub complete_text : Complete R.text G.text
unfolding R.text R.text_in R.first R.rest
complete_text ts t after g = rw (g.1, g.2) refl

complete_literal_text : (ts : List Token) (t : Text) (after : List Token) → G.text t ts after → R.literal ts ≡ Some (values.Text t, after)
unfolding R.literal R.literal_in R.first R.rest
complete_literal_text ts t after g = rw (g.1, g.2) refl

complete_literal_blob : (ts : List Token) (t : Text) (after : List Token) → G.blob t ts after → R.literal ts ≡ Some (values.Blob t, after)
unfolding R.literal R.literal_in R.first R.rest
complete_literal_blob ts t after g = rw (g.1, g.2) refl

pub complete_number : (read : Read) (writes : Writes) (each : TakesEach read writes) (b : Bool) → Complete (R.number read b) (G.digits writes b)
unfolding R.number R.number_in R.first R.rest
complete_number read writes each b ts n after g = rw (g.1, each b g.0 n g.2) refl

pub complete_operator : Complete R.operator G.operator
unfolding R.operator R.operator_in R.first R.rest
complete_operator ts Eq after (inl g) = rw g refl
complete_operator ts Eq after (inr g) = rw g refl
complete_operator ts Ne after (inl g) = rw g refl
complete_operator ts Ne after (inr g) = rw g refl
complete_operator ts Lt after g = rw g refl
complete_operator ts Le after g = rw g refl
complete_operator ts Gt after g = rw g refl
complete_operator ts Ge after g = rw g refl

pub no_word_at_operator : (w : Text) (op : Operator) (ts after : List Token) → G.operator op ts after → R.sees_word w ts ≡ false
no_word_at_operator w Eq ts after (inl g) = no_word_at_sign w Equal ts after g
no_word_at_operator w Eq ts after (inr g) = no_word_at_sign w DoubleEqual ts after g
no_word_at_operator w Ne ts after (inl g) = no_word_at_sign w LessGreater ts after g
no_word_at_operator w Ne ts after (inr g) = no_word_at_sign w BangEqual ts after g
no_word_at_operator w Lt ts after g = no_word_at_sign w Less ts after g
no_word_at_operator w Le ts after g = no_word_at_sign w LessOrEqual ts after g
no_word_at_operator w Gt ts after g = no_word_at_sign w Greater ts after g
no_word_at_operator w Ge ts after g = no_word_at_sign w GreaterOrEqual ts after g

no_words : (ts : List Token) → R.sees_any_word ts ≡ false → R.skip_words ts ≡ ts
unfolding R.skip_words R.sees_any_word R.first
no_words [] h = refl
no_words (t ∷ ts) h = rw h refl

pub complete_words : (ws : List Text) (ts after : List Token) → ts ≡ map (λ w. token.Word w) ws ++ after → R.sees_any_word after ≡ false → R.skip_words ts ≡ after
unfolding R.skip_words R.is_any_word R.sees_any_word R.first
complete_words [] [] after g stops = g
complete_words [] (t ∷ ts) after g stops = ap R.skip_words g ∙ no_words after stops
complete_words (w ∷ ws) ts after g stops = rw g (complete_words ws (map (λ w. token.Word w) ws ++ after) after refl stops)

-- ---- values

complete_integer : (read : Read) (writes : Writes) (each : TakesEach read writes) → Complete (R.integer read) (G.integer writes)
unfolding R.integer R.is_sign
complete_integer read writes each ts n after (inl g) =
    rw (sign_at Minus (token.Digits g.0) ts after g.1, sign_at Plus (token.Digits g.0) ts after g.1) (complete_number read writes each false ts n after g)
complete_integer read writes each ts n after (inr (inl g)) =
    rw (other_sign Plus Minus ts g.0 refl g.1, sees_own_sign Plus ts g.0 g.1, past_sign Plus ts g.0 g.1) (complete_number read writes each false g.0 n after g.2)
complete_integer read writes each ts n after (inr (inr g)) =
    rw (sees_own_sign Minus ts g.0 g.1, past_sign Minus ts g.0 g.1) (complete_number read writes each true g.0 n after g.2)

-- no integer begins with a word or a literal, and each begins a value
integer_begins : (writes : Writes) (n : ℤ) (ts after : List Token) → G.integer writes n ts after → ((w : Text) → R.sees_word w ts ≡ false) × (R.sees_literal ts ≡ false) × (R.sees_value ts ≡ true)
unfolding R.is_word R.is_literal R.begins_value
integer_begins writes n ts after (inl g) = (λ w. word_at w (token.Digits g.0) ts after g.1, literal_at (token.Digits g.0) ts after g.1, value_at (token.Digits g.0) ts after g.1)
integer_begins writes n ts after (inr (inl g)) = (λ w. word_at w (token.Sign Plus) ts g.0 g.1, literal_at (token.Sign Plus) ts g.0 g.1, value_at (token.Sign Plus) ts g.0 g.1)
integer_begins writes n ts after (inr (inr g)) = (λ w. word_at w (token.Sign Minus) ts g.0 g.1, literal_at (token.Sign Minus) ts g.0 g.1, value_at (token.Sign Minus) ts g.0 g.1)

pub complete_value : (read : Read) (writes : Writes) (each : TakesEach read writes) → Complete (R.a_value read) (G.value writes)
unfolding R.a_value R.not_null R.is_word R.is_literal
complete_value read writes each ts values.Null after g = rw (sees_own_word (codes "NULL") ts after g, past_word (codes "NULL") ts after g) refl
complete_value read writes each ts (values.Int n) after g =
    let k = integer_begins writes n ts after g in
    rw (k.0 (codes "NULL"), k.1, complete_integer read writes each ts n after g) refl
complete_value read writes each ts (values.Text t) after g =
    rw (word_at (codes "NULL") (token.Text g.0) ts after g.1, literal_at (token.Text g.0) ts after g.1) (complete_literal_text ts t after g)
complete_value read writes each ts (values.Blob t) after g =
    rw (word_at (codes "NULL") (token.Blob g.0) ts after g.1, literal_at (token.Blob g.0) ts after g.1) (complete_literal_blob ts t after g)

pub value_begins : (writes : Writes) (v : Value) (ts after : List Token) → G.value writes v ts after → R.sees_value ts ≡ true
unfolding R.begins_value
value_begins writes values.Null ts after g = value_at (token.Word g.0) ts after g.1 ∙ g.2
value_begins writes (values.Int n) ts after g = (integer_begins writes n ts after g).2
value_begins writes (values.Text t) ts after g = value_at (token.Text g.0) ts after g.1
value_begins writes (values.Blob t) ts after g = value_at (token.Blob g.0) ts after g.1

-- ---- lists

-- a separator is seen, and may follow an item
abbrev pub Separates : (List Token → Bool) → G.Part → (List Token → Type 0) → Type 0
Separates sees separator Fine = (ts mid : List Token) → separator ts mid → (sees ts ≡ true) × (R.rest ts ≡ mid) × Fine ts × (length mid < length ts)

module _ {A : Type 0} (sees : List Token → Bool) (separator : G.Part) (Fine : List Token → Type 0) (seen : Separates sees separator Fine) (item : Parser A) (P : A → G.Part) (takes : TakesTokens item) (complete : (ts : List Token) (a : A) (after : List Token) → P a ts after → Fine after → item ts ≡ Some (a, after)) where
  complete_sequence_from : (xs : List A) (n : ℕ) (found : List A) (ts after : List Token) → length ts ≤ n → G.sequence separator P xs ts after → sees after ≡ false → Fine after → R.sequence_from sees item n found ts ≡ Some (found ++ xs, after)
  complete_sequence_from [] n found ts after enough g stops fine = absurd g
  complete_sequence_from (x ∷ []) zero found ts after enough g stops fine =
      absurd (omega (arith, takes ts x g.0 (complete ts x g.0 g.1 (rw g.2 fine))))
  complete_sequence_from (x ∷ y ∷ ys) zero found ts after enough g stops fine =
      absurd (omega (arith, takes ts x g.0 (complete ts x g.0 g.1 (seen g.0 g.2.0 g.2.1).2)))
  complete_sequence_from (x ∷ []) (suc n) found ts after enough g stops fine =
      rw (← g.2) (turn_last sees item n found ts g.0 x (complete ts x g.0 g.1 (rw g.2 fine)) (rw g.2 stops))
  complete_sequence_from (x ∷ y ∷ ys) (suc n) found ts after enough g stops fine =
      let k = seen g.0 g.2.0 g.2.1 in
      let e = complete ts x g.0 g.1 k.2 in
      turn_more sees item n found ts g.0 x e k.0
      ∙ ap (λ s. R.sequence_from sees item n (found ++ x ∷ []) s) k.1
      ∙ complete_sequence_from (y ∷ ys) n (found ++ x ∷ []) g.2.0 after (omega (arith, takes ts x g.0 e, k.3)) g.2.2 stops fine
      ∙ ap (λ zs. Some (zs, after)) (append_assoc found (x ∷ []) (y ∷ ys))

  pub complete_sequence : (ts : List Token) (xs : List A) (after : List Token) → G.sequence separator P xs ts after → sees after ≡ false → Fine after → R.sequence sees item ts ≡ Some (xs, after)
  complete_sequence ts xs after g stops fine = complete_sequence_from xs (length ts) [] ts after (omega arith) g stops fine

abbrev pub Anything : List Token → Type 0
Anything ts = Unit {0}

pub comma_separates : Separates (R.sees_sign Comma) (G.sign Comma) Anything
comma_separates ts mid g = (sees_own_sign Comma ts mid g, past_sign Comma ts mid g, tt, sign_shorter Comma ts mid g)

pub and_separates : Separates (R.sees_word (codes "AND")) (G.word (codes "AND")) Anything
and_separates ts mid g = (sees_own_word (codes "AND") ts mid g, past_word (codes "AND") ts mid g, tt, word_shorter (codes "AND") ts mid g)

pub complete_commas : {A : Type 0} (item : Parser A) (P : A → G.Part) (takes : TakesTokens item) (complete : Complete item P) (ts : List Token) (xs : List A) (after : List Token) → G.by_commas P xs ts after → R.sees_sign Comma after ≡ false → R.by_commas item ts ≡ Some (xs, after)
complete_commas item P takes complete ts xs after g stops =
    complete_sequence (R.sees_sign Comma) (G.sign Comma) Anything comma_separates item P takes (λ s a t h _. complete s a t h) ts xs after g stops tt

pub complete_list : (read : Read) (writes : Writes) (each : TakesEach read writes) → Complete (R.list read) (G.list writes)
unfolding R.list
complete_list read writes each ts vs after g =
    rw (
      complete_sign LeftParenthesis ts g.0 g.1,
      complete_commas (R.a_value read) (G.value writes) (value_takes read) (complete_value read writes each) g.0 vs g.2.0 g.2.1 (other_sign RightParenthesis Comma g.2.0 after refl g.2.2),
      complete_sign RightParenthesis g.2.0 after g.2.2,
    )
    refl

-- ---- columns

complete_second : (read : Read) (writes : Writes) (each : TakesEach read writes) (ts after : List Token) → G.nothing ts after ⊎ ((mid : List Token) × G.sign Comma ts mid × G.some_digits writes mid after) → R.sees_sign Comma after ≡ false → R.second_size read ts ≡ Some (tt, after)
unfolding R.second_size
complete_second read writes each ts after (inl g) stops = rw (g, stops) refl
complete_second read writes each ts after (inr g) stops =
    rw (sees_own_sign Comma ts g.0 g.1, past_sign Comma ts g.0 g.1, complete_number read writes each false g.0 g.2.0 after g.2.1) refl

complete_size_digits : (read : Read) (writes : Writes) (each : TakesEach read writes) (start after : List Token) (g : G.size writes start after) → R.sees_any_word after ≡ false → R.size_digits read g.0 ≡ Some (tt, after)
unfolding R.size_digits
complete_size_digits read writes each start after g stops =
    rw (
      complete_number read writes each false g.0 g.2.1.0 g.2.0 g.2.1.1,
      complete_second read writes each g.2.0 g.2.2.0 g.2.2.1 (other_sign RightParenthesis Comma g.2.2.0 g.2.2.2.0 refl g.2.2.2.1),
      complete_sign RightParenthesis g.2.2.0 g.2.2.2.0 g.2.2.2.1,
      complete_words g.2.2.2.2.0 g.2.2.2.0 after g.2.2.2.2.1 stops,
    )
    refl

-- a column ends before anything but a word and a parenthesis
abbrev pub EndsColumn : List Token → Type 0
EndsColumn ts = (R.sees_sign LeftParenthesis ts ≡ false) × (R.sees_any_word ts ≡ false)

complete_size : (read : Read) (writes : Writes) (each : TakesEach read writes) (ts after : List Token) → G.nothing ts after ⊎ G.size writes ts after → EndsColumn after → R.size read ts ≡ Some (tt, after)
unfolding R.size
complete_size read writes each ts after (inl g) stops = rw (g, stops.0) refl
complete_size read writes each ts after (inr g) stops =
    rw (sees_own_sign LeftParenthesis ts g.0 g.1, past_sign LeftParenthesis ts g.0 g.1) (complete_size_digits read writes each ts after g stops.1)

no_word_at_size : (writes : Writes) (ts after : List Token) → G.nothing ts after ⊎ G.size writes ts after → EndsColumn after → R.sees_any_word ts ≡ false
unfolding R.is_any_word
no_word_at_size writes ts after (inl g) stops = rw g stops.1
no_word_at_size writes ts after (inr g) stops = any_word_at (token.Sign LeftParenthesis) ts g.0 g.1

marked : (b : Bool) (n : Text) (ts mid after : List Token) → G.flag (G.sign Plus) b ts mid → G.name n mid after → (R.sees_sign Plus ts ≡ b) × ((if R.sees_sign Plus ts then R.rest ts else ts) ≡ mid)
marked true n ts mid after g named = (sees_own_sign Plus ts mid g, rw (sees_own_sign Plus ts mid g) (past_sign Plus ts mid g))
marked false n ts mid after g named = let e = ap (R.sees_sign Plus) g ∙ no_sign_at_name Plus n mid after named in (e, rw e g)

pub complete_column : (read : Read) (writes : Writes) (each : TakesEach read writes) (ts : List Token) (c : ColumnDef) (after : List Token) → G.column writes c ts after → EndsColumn after → R.column read ts ≡ Some (c, after)
unfolding R.column
complete_column read writes each ts c after g stops =
    let k = marked c.auxiliary c.name ts g.0 g.2.0 g.1 g.2.1 in
    rw (
      k.1,
      complete_name g.0 c.name g.2.0 g.2.1,
      complete_words g.2.2.1.0 g.2.0 g.2.2.0 g.2.2.1.1 (no_word_at_size writes g.2.2.0 after g.2.2.2 stops),
      complete_size read writes each g.2.2.0 after g.2.2.2 stops,
      k.0,
    )
    refl

pub comma_ends_column : Separates (R.sees_sign Comma) (G.sign Comma) EndsColumn
unfolding R.is_any_word
comma_ends_column ts mid g =
    (sees_own_sign Comma ts mid g, past_sign Comma ts mid g, (other_sign Comma LeftParenthesis ts mid refl g, any_word_at (token.Sign Comma) ts mid g), sign_shorter Comma ts mid g)

pub parenthesis_ends_column : (ts after : List Token) → G.sign RightParenthesis ts after → EndsColumn ts
unfolding R.is_any_word
parenthesis_ends_column ts after g = (other_sign RightParenthesis LeftParenthesis ts after refl g, any_word_at (token.Sign RightParenthesis) ts after g)
