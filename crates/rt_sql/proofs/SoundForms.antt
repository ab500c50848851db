-- What is read as a statement is spelled.
use Rattle.std.proofs.Common.{◌≡◌, ◌⊎◌, inl, inr, Bool, true, false, ◌&&◌, List, [], ◌∷◌, Some, codes, if◌then◌else◌, refl, ap, ◌∙◌, sym}
use Rattle.std.specs.Option.{is_some}
use Rattle.rt_sql_statement.specs.declared.statement.Rule.{Rule}
use Rattle.rt_sql_statement.specs.declared.statement.Rule.TheVariants.{Replace}
use Rattle.rt_sql_request.specs.declared.request.Stmt.{Stmt}
use Rattle.rt_sql_request.specs.declared.request.Stmt.TheVariants as stmt
use Rattle.rt_sql_statement.specs.declared.statement.Test.{Test}
use Rattle.rt_sql.specs.declared.token.Sign.TheVariants.{LeftParenthesis, RightParenthesis, Semicolon, Plus, Minus, Star, Equal}
use Rattle.rt_sql.specs.declared.token.Token.{Token}
use Rattle.rt_sql.specs.declared.token.Token.TheVariants as token
use Rattle.rt_sql.specs.Token.{Text, same_word}
use Rattle.rt_sql.specs.Number.{Writes}
use Rattle.rt_sql.specs.Grammar as G
use Rattle.rt_sql.specs.Reading.{Parser, Read}
use Rattle.rt_sql.specs.Reading as R
use Rattle.rt_sql.proofs.Basics.{cases, test, none, some_same}
use Rattle.rt_sql.proofs.Sound.{same, TakesOnly, Sound, sound_sign, sound_keyword, sound_name, sound_number, sees_sign_is, sees_word_is, sound_text, sound_operator, sound_sequence, sound_by_commas, sound_value, sound_list, sound_column}

pub and_both : (x y : Bool) → (x && y) ≡ true → (x ≡ true) × (y ≡ true)
and_both true true h = (refl, refl)
and_both true false h = absurd (cc)
and_both false y h = absurd (cc)

-- ---- tables that may be there or not

sound_table : (g : Bool) (ts : List Token) (r : Bool × Text) (after : List Token) → R.table g ts ≡ Some (r, after) → (r.0 ≡ g) × G.name r.1 ts after
unfolding R.table
sound_table g ts r after h0 =
    cases (R.name ts) (λ e. none (rw e at h0)) (λ x1 e1. let h1 = rw e1 at h0 in
    let k = same h1 in
    (ap (λ (x : Bool × Text). x.0) (sym k.0), rw (← k.0, ← k.1) (sound_name ts x1.0 x1.1 e1)))

abbrev IfNotExists : Bool × Text → G.Part
IfNotExists r ts after = (mid : List Token) × G.flag (λ s t. (m : List Token) × G.word (codes "IF") s m × ((n : List Token) × G.word (codes "NOT") m n × G.word (codes "EXISTS") n t)) r.0 ts mid × G.name r.1 mid after

abbrev IfExists : Bool × Text → G.Part
IfExists r ts after = (mid : List Token) × G.flag (λ s t. (m : List Token) × G.word (codes "IF") s m × G.word (codes "EXISTS") m t) r.0 ts mid × G.name r.1 mid after

plain_if_not : (ts : List Token) (r : Bool × Text) (after : List Token) → (r.0 ≡ false) × G.name r.1 ts after → IfNotExists r ts after
plain_if_not ts r after k = (ts, rw (k.0) refl, k.1)

plain_if : (ts : List Token) (r : Bool × Text) (after : List Token) → (r.0 ≡ false) × G.name r.1 ts after → IfExists r ts after
plain_if ts r after k = (ts, rw (k.0) refl, k.1)

sound_if_not_exists : Sound R.if_not_exists IfNotExists
unfolding R.if_not_exists
sound_if_not_exists ts r after h0 =
    test (R.sees_word (codes "IF") ts && R.sees_word (codes "NOT") (R.rest ts))
    (λ e. let h1 = rw e at h0 in
    let both = and_both (R.sees_word (codes "IF") ts) (R.sees_word (codes "NOT") (R.rest ts)) e in
    cases (R.keyword (codes "EXISTS") (R.rest (R.rest ts))) (λ f. none (rw f at h1)) (λ x1 e1. let h2 = rw e1 at h1 in
    let k = sound_table true x1.1 r after h2 in (
      x1.1,
      rw (k.0) (R.rest ts, sees_word_is (codes "IF") ts both.0, (R.rest (R.rest ts), sees_word_is (codes "NOT") (R.rest ts) both.1, sound_keyword (codes "EXISTS") (R.rest (R.rest ts)) x1.0 x1.1 e1)),
      k.1,
    )))
    (λ e. plain_if_not ts r after (sound_table false ts r after (rw e at h0)))

sound_if_exists : Sound R.if_exists IfExists
unfolding R.if_exists
sound_if_exists ts r after h0 =
    test (R.sees_word (codes "IF") ts && R.sees_word (codes "EXISTS") (R.rest ts))
    (λ e. let h1 = rw e at h0 in
    let both = and_both (R.sees_word (codes "IF") ts) (R.sees_word (codes "EXISTS") (R.rest ts)) e in
    let k = sound_table true (R.rest (R.rest ts)) r after h1 in (
      R.rest (R.rest ts),
      rw (k.0) (R.rest ts, sees_word_is (codes "IF") ts both.0, sees_word_is (codes "EXISTS") (R.rest ts) both.1),
      k.1,
    ))
    (λ e. plain_if ts r after (sound_table false ts r after (rw e at h0)))

pub sound_create : (read : Read) (writes : Writes) (only : TakesOnly read writes) (start ts : List Token) (r : Stmt) (after : List Token) → G.word (codes "CREATE") start ts → R.create read ts ≡ Some (r, after) → G.statement writes r start after
unfolding R.create
sound_create read writes only start ts r after begins_at h0 =
    cases (R.keyword (codes "VIRTUAL") ts) (λ e. none (rw e at h0)) (λ x1 e1. let h1 = rw e1 at h0 in
    cases (R.keyword (codes "TABLE") x1.1) (λ e. none (rw e at h1)) (λ x2 e2. let h2 = rw e2 at h1 in
    cases (R.if_not_exists x2.1) (λ e. none (rw e at h2)) (λ x3 e3. let h3 = rw e3 at h2 in
    cases (R.keyword (codes "USING") x3.1) (λ e. none (rw e at h3)) (λ x4 e4. let h4 = rw e4 at h3 in
    cases (R.keyword (codes "RTREE_I32") x4.1) (λ e. none (rw e at h4)) (λ x5 e5. let h5 = rw e5 at h4 in
    cases (R.sign LeftParenthesis x5.1) (λ e. none (rw e at h5)) (λ x6 e6. let h6 = rw e6 at h5 in
    cases (R.by_commas (R.column read) x6.1) (λ e. none (rw e at h6)) (λ x7 e7. let h7 = rw e7 at h6 in
    cases (R.sign RightParenthesis x7.1) (λ e. none (rw e at h7)) (λ x8 e8. let h8 = rw e8 at h7 in
    let k = same h8 in
    rw (← k.0, ← k.1) (ts, begins_at, (x1.1, sound_keyword (codes "VIRTUAL") ts x1.0 x1.1 e1, (x2.1, sound_keyword (codes "TABLE") x1.1 x2.0 x2.1 e2, ((sound_if_not_exists x2.1 x3.0 x3.1 e3).0, (sound_if_not_exists x2.1 x3.0 x3.1 e3).1, (x3.1, (sound_if_not_exists x2.1 x3.0 x3.1 e3).2, (x4.1, sound_keyword (codes "USING") x3.1 x4.0 x4.1 e4, (x5.1, sound_keyword (codes "RTREE_I32") x4.1 x5.0 x5.1 e5, (x6.1, sound_sign LeftParenthesis x5.1 x6.0 x6.1 e6, (x7.1, sound_by_commas (R.column read) (G.column writes) (sound_column read writes only) x6.1 x7.0 x7.1 e7, sound_sign RightParenthesis x7.1 x8.0 x8.1 e8)))))))))))))))))

pub sound_drop_table : (read : Read) (writes : Writes) (only : TakesOnly read writes) (start ts : List Token) (r : Stmt) (after : List Token) → G.word (codes "DROP") start ts → R.drop_table ts ≡ Some (r, after) → G.statement writes r start after
unfolding R.drop_table
sound_drop_table read writes only start ts r after begins_at h0 =
    cases (R.keyword (codes "TABLE") ts) (λ e. none (rw e at h0)) (λ x1 e1. let h1 = rw e1 at h0 in
    cases (R.if_exists x1.1) (λ e. none (rw e at h1)) (λ x2 e2. let h2 = rw e2 at h1 in
    let k = same h2 in
    rw (← k.0, ← k.1) (ts, begins_at, (x1.1, sound_keyword (codes "TABLE") ts x1.0 x1.1 e1, ((sound_if_exists x1.1 x2.0 x2.1 e2).0, (sound_if_exists x1.1 x2.0 x2.1 e2).1, (sound_if_exists x1.1 x2.0 x2.1 e2).2)))))

sound_rule : (start ts : List Token) (r : Rule) (after : List Token) → G.word (codes "INSERT") start ts → R.rule ts ≡ Some (r, after) → G.head r start after
unfolding R.rule R.chosen_rule R.other_rule
sound_rule start ts r after begins_at h0 =
    test (R.sees_word (codes "OR") ts)
    (λ e. let h1 = rw e at h0 in
    let t1 = R.rest ts in
    let is_or = sees_word_is (codes "OR") ts e in
    test (R.sees_word (codes "REPLACE") t1)
    (λ f. let k = same (rw f at h1) in rw (← k.0, ← k.1) (inr (ts, begins_at, (t1, is_or, sees_word_is (codes "REPLACE") t1 f))))
    (λ f. let h2 = rw f at h1 in
    test (R.sees_word (codes "IGNORE") t1)
    (λ g. let k = same (rw g at h2) in rw (← k.0, ← k.1) (ts, begins_at, (t1, is_or, sees_word_is (codes "IGNORE") t1 g)))
    (λ g. let h3 = rw g at h2 in
    cases (R.keyword (codes "ABORT") t1) (λ e. none (rw e at h3)) (λ x1 e1.
    let k = same (rw e1 at h3) in
    rw (← k.0, ← k.1) (inr (ts, begins_at, (t1, is_or, sound_keyword (codes "ABORT") t1 x1.0 x1.1 e1)))))))
    (λ e. let k = same (rw e at h0) in rw (← k.0, ← k.1) (inl begins_at))

sound_named_columns : Sound R.named_columns G.named_columns
unfolding R.named_columns R.name_list
sound_named_columns ts r after h0 =
    test (R.sees_sign LeftParenthesis ts)
    (λ e. let h1 = rw e at h0 in
    let t1 = R.rest ts in
    cases (R.by_commas R.name t1) (λ f. none (rw f at h1)) (λ x1 e1. let h2 = rw e1 at h1 in
    cases (R.sign RightParenthesis x1.1) (λ f. none (rw f at h2)) (λ x2 e2.
    let k = same (rw e2 at h2) in
    rw (← k.0, ← k.1) (t1, sees_sign_is LeftParenthesis ts e, (x1.1, sound_by_commas R.name G.name sound_name t1 x1.0 x1.1 e1, sound_sign RightParenthesis x1.1 x2.0 x2.1 e2)))))
    (λ e. let k = same (rw e at h0) in rw (← k.0, ← k.1) refl)

pub sound_insert : (read : Read) (writes : Writes) (only : TakesOnly read writes) (how : Rule) (start ts : List Token) (r : Stmt) (after : List Token) → G.head how start ts → R.insert read how ts ≡ Some (r, after) → G.statement writes r start after
unfolding R.insert
sound_insert read writes only how start ts r after begins_at h0 =
    cases (R.keyword (codes "INTO") ts) (λ e. none (rw e at h0)) (λ x1 e1. let h1 = rw e1 at h0 in
    cases (R.name x1.1) (λ e. none (rw e at h1)) (λ x2 e2. let h2 = rw e2 at h1 in
    cases (R.named_columns x2.1) (λ e. none (rw e at h2)) (λ x3 e3. let h3 = rw e3 at h2 in
    cases (R.keyword (codes "VALUES") x3.1) (λ e. none (rw e at h3)) (λ x4 e4. let h4 = rw e4 at h3 in
    cases (R.by_commas (R.list read) x4.1) (λ e. none (rw e at h4)) (λ x5 e5. let h5 = rw e5 at h4 in
    let k = same h5 in
    rw (← k.0, ← k.1) (ts, begins_at, (x1.1, sound_keyword (codes "INTO") ts x1.0 x1.1 e1, (x2.1, sound_name x1.1 x2.0 x2.1 e2, (x3.1, sound_named_columns x2.1 x3.0 x3.1 e3, (x4.1, sound_keyword (codes "VALUES") x3.1 x4.0 x4.1 e4, sound_by_commas (R.list read) (G.list writes) (sound_list read writes only) x4.1 x5.0 x5.1 e5))))))))))

sound_null_test : (writes : Writes) (start ts mid : List Token) (column : Text) (r : Test) (after : List Token) → G.name column start ts → G.word (codes "IS") ts mid → R.null_test column mid ≡ Some (r, after) → G.test writes r start after
unfolding R.null_test
sound_null_test writes start ts mid column r after named is h0 =
    test (R.sees_word (codes "NOT") mid)
    (λ e. let h1 = rw e at h0 in
    cases (R.keyword (codes "NULL") (R.rest mid)) (λ f. none (rw f at h1)) (λ x1 e1.
    let k = same (rw e1 at h1) in
    rw (← k.0, ← k.1) (ts, named, (mid, is, (R.rest mid, sees_word_is (codes "NOT") mid e, sound_keyword (codes "NULL") (R.rest mid) x1.0 x1.1 e1)))))
    (λ e. let h1 = rw e at h0 in
    cases (R.keyword (codes "NULL") mid) (λ f. none (rw f at h1)) (λ x1 e1.
    let k = same (rw e1 at h1) in
    rw (← k.0, ← k.1) (ts, named, (mid, is, sound_keyword (codes "NULL") mid x1.0 x1.1 e1))))

sound_comparison : (read : Read) (writes : Writes) (only : TakesOnly read writes) (start ts : List Token) (column : Text) (r : Test) (after : List Token) → G.name column start ts → R.comparison read column ts ≡ Some (r, after) → G.test writes r start after
unfolding R.comparison
sound_comparison read writes only start ts column r after named h0 =
    cases (R.operator ts) (λ e. none (rw e at h0)) (λ x1 e1. let h1 = rw e1 at h0 in
    cases (R.a_value read x1.1) (λ e. none (rw e at h1)) (λ x2 e2.
    let k = same (rw e2 at h1) in
    rw (← k.0, ← k.1) (ts, named, (x1.1, sound_operator ts x1.0 x1.1 e1, sound_value read writes only x1.1 x2.0 x2.1 e2))))

pub sound_test : (read : Read) (writes : Writes) (only : TakesOnly read writes) → Sound (R.a_test read) (G.test writes)
unfolding R.a_test
sound_test read writes only ts r after h0 =
    cases (R.name ts) (λ e. none (rw e at h0)) (λ x1 e1. let h1 = rw e1 at h0 in
    let named = sound_name ts x1.0 x1.1 e1 in
    test (R.sees_word (codes "IS") x1.1)
    (λ e. sound_null_test writes ts x1.1 (R.rest x1.1) x1.0 r after named (sees_word_is (codes "IS") x1.1 e) (rw e at h1))
    (λ e. sound_comparison read writes only ts x1.1 x1.0 r after named (rw e at h1)))

tests_follow : (writes : Writes) (xs : List Test) (ts mid after : List Token) → G.word (codes "WHERE") ts mid → G.sequence (G.word (codes "AND")) (G.test writes) xs mid after → G.condition writes xs ts after
tests_follow writes [] ts mid after w g = absurd g
tests_follow writes (x ∷ xs) ts mid after w g = (mid, w, g)

sound_condition : (read : Read) (writes : Writes) (only : TakesOnly read writes) → Sound (R.condition read) (G.condition writes)
unfolding R.condition
sound_condition read writes only ts r after h0 =
    test (R.sees_word (codes "WHERE") ts)
    (λ e. tests_follow writes r ts (R.rest ts) after (sees_word_is (codes "WHERE") ts e)
    (sound_sequence (R.sees_word (codes "AND")) (G.word (codes "AND")) (sees_word_is (codes "AND")) (R.a_test read) (G.test writes) (sound_test read writes only) (R.rest ts) r after (rw e at h0)))
    (λ e. let k = same (rw e at h0) in rw (← k.0, ← k.1) refl)

sound_from_column : (read : Read) (writes : Writes) (only : TakesOnly read writes) → Sound (R.from_column read) (G.source writes)
unfolding R.from_column R.less_or_same
sound_from_column read writes only ts r after h0 =
    cases (R.name ts) (λ e. none (rw e at h0)) (λ x1 e1. let h1 = rw e1 at h0 in
    let named = sound_name ts x1.0 x1.1 e1 in
    let t1 = R.rest x1.1 in
    test (R.sees_sign Plus x1.1)
    (λ e. let h2 = rw e at h1 in
    cases (R.number read false t1) (λ f. none (rw f at h2)) (λ x2 e2.
    let k = same (rw e2 at h2) in
    rw (← k.0, ← k.1) (x1.1, named, (t1, sees_sign_is Plus x1.1 e, sound_number read writes only false t1 x2.0 x2.1 e2))))
    (λ e. let h2 = rw e at h1 in
    test (R.sees_sign Minus x1.1)
    (λ f. let h3 = rw f at h2 in
    cases (R.number read false t1) (λ g. none (rw g at h3)) (λ x2 e2.
    let k = same (rw e2 at h3) in
    rw (← k.0, ← k.1) (x1.1, named, (t1, sees_sign_is Minus x1.1 f, sound_number read writes only false t1 x2.0 x2.1 e2))))
    (λ f. let k = same (rw f at h2) in rw (← k.0, ← k.1) named)))

sound_source : (read : Read) (writes : Writes) (only : TakesOnly read writes) → Sound (R.a_source read) (G.source writes)
unfolding R.a_source
sound_source read writes only ts r after h0 =
    test (R.sees_value ts)
    (λ e. let h1 = rw e at h0 in
    cases (R.a_value read ts) (λ f. none (rw f at h1)) (λ x1 e1.
    let k = same (rw e1 at h1) in rw (← k.0, ← k.1) (sound_value read writes only ts x1.0 x1.1 e1)))
    (λ e. sound_from_column read writes only ts r after (rw e at h0))

pub sound_set : (read : Read) (writes : Writes) (only : TakesOnly read writes) → Sound (R.set read) (G.set writes)
unfolding R.set
sound_set read writes only ts r after h0 =
    cases (R.name ts) (λ e. none (rw e at h0)) (λ x1 e1. let h1 = rw e1 at h0 in
    cases (R.sign Equal x1.1) (λ e. none (rw e at h1)) (λ x2 e2. let h2 = rw e2 at h1 in
    cases (R.a_source read x2.1) (λ e. none (rw e at h2)) (λ x3 e3. let h3 = rw e3 at h2 in
    let k = same h3 in
    rw (← k.0, ← k.1) (x1.1, sound_name ts x1.0 x1.1 e1, (x2.1, sound_sign Equal x1.1 x2.0 x2.1 e2, sound_source read writes only x2.1 x3.0 x3.1 e3)))))

pub sound_update : (read : Read) (writes : Writes) (only : TakesOnly read writes) (start ts : List Token) (r : Stmt) (after : List Token) → G.word (codes "UPDATE") start ts → R.update read ts ≡ Some (r, after) → G.statement writes r start after
unfolding R.update
sound_update read writes only start ts r after begins_at h0 =
    cases (R.name ts) (λ e. none (rw e at h0)) (λ x1 e1. let h1 = rw e1 at h0 in
    cases (R.keyword (codes "SET") x1.1) (λ e. none (rw e at h1)) (λ x2 e2. let h2 = rw e2 at h1 in
    cases (R.by_commas (R.set read) x2.1) (λ e. none (rw e at h2)) (λ x3 e3. let h3 = rw e3 at h2 in
    cases (R.condition read x3.1) (λ e. none (rw e at h3)) (λ x4 e4. let h4 = rw e4 at h3 in
    let k = same h4 in
    rw (← k.0, ← k.1) (ts, begins_at, (x1.1, sound_name ts x1.0 x1.1 e1, (x2.1, sound_keyword (codes "SET") x1.1 x2.0 x2.1 e2, (x3.1, sound_by_commas (R.set read) (G.set writes) (sound_set read writes only) x2.1 x3.0 x3.1 e3, sound_condition read writes only x3.1 x4.0 x4.1 e4))))))))

pub sound_delete : (read : Read) (writes : Writes) (only : TakesOnly read writes) (start ts : List Token) (r : Stmt) (after : List Token) → G.word (codes "DELETE") start ts → R.delete read ts ≡ Some (r, after) → G.statement writes r start after
unfolding R.delete
sound_delete read writes only start ts r after begins_at h0 =
    cases (R.keyword (codes "FROM") ts) (λ e. none (rw e at h0)) (λ x1 e1. let h1 = rw e1 at h0 in
    cases (R.name x1.1) (λ e. none (rw e at h1)) (λ x2 e2. let h2 = rw e2 at h1 in
    cases (R.condition read x2.1) (λ e. none (rw e at h2)) (λ x3 e3. let h3 = rw e3 at h2 in
    let k = same h3 in
    rw (← k.0, ← k.1) (ts, begins_at, (x1.1, sound_keyword (codes "FROM") ts x1.0 x1.1 e1, (x2.1, sound_name x1.1 x2.0 x2.1 e2, sound_condition read writes only x2.1 x3.0 x3.1 e3))))))

if_any_word : (w : Text) (ts : List Token) → G.nothing ts (if R.sees_word w ts then R.rest ts else ts) ⊎ G.word w ts (if R.sees_word w ts then R.rest ts else ts)
if_any_word w ts = test (R.sees_word w ts) (λ e. rw e (inr (sees_word_is w ts e))) (λ e. rw e (inl refl))

sound_order : Sound R.order G.order
unfolding R.order R.order_by
sound_order ts r after h0 =
    test (R.sees_word (codes "ORDER") ts)
    (λ e. let h1 = rw e at h0 in
    let t1 = R.rest ts in
    cases (R.keyword (codes "BY") t1) (λ f. none (rw f at h1)) (λ x1 e1. let h2 = rw e1 at h1 in
    cases (R.name x1.1) (λ f. none (rw f at h2)) (λ x2 e2.
    let k = same (rw e2 at h2) in
    rw (← k.0, ← k.1) (t1, sees_word_is (codes "ORDER") ts e, (x1.1, sound_keyword (codes "BY") t1 x1.0 x1.1 e1, (x2.1, sound_name x1.1 x2.0 x2.1 e2, if_any_word (codes "ASC") x2.1))))))
    (λ e. let k = same (rw e at h0) in rw (← k.0, ← k.1) refl)

sound_selection : Sound R.selection G.selection
unfolding R.selection
sound_selection ts r after h0 =
    test (R.sees_sign Star ts)
    (λ e. let k = same (rw e at h0) in rw (← k.0, ← k.1) (sees_sign_is Star ts e))
    (λ e. let h1 = rw e at h0 in
    cases (R.by_commas R.name ts) (λ f. none (rw f at h1)) (λ x1 e1.
    let k = same (rw e1 at h1) in rw (← k.0, ← k.1) (sound_by_commas R.name G.name sound_name ts x1.0 x1.1 e1)))

pub sound_select_rows : (read : Read) (writes : Writes) (only : TakesOnly read writes) (start ts : List Token) (r : Stmt) (after : List Token) → G.word (codes "SELECT") start ts → R.select_rows read ts ≡ Some (r, after) → G.statement writes r start after
unfolding R.select_rows
sound_select_rows read writes only start ts r after begins_at h0 =
    cases (R.selection ts) (λ e. none (rw e at h0)) (λ x1 e1. let h1 = rw e1 at h0 in
    cases (R.keyword (codes "FROM") x1.1) (λ e. none (rw e at h1)) (λ x2 e2. let h2 = rw e2 at h1 in
    cases (R.name x2.1) (λ e. none (rw e at h2)) (λ x3 e3. let h3 = rw e3 at h2 in
    cases (R.condition read x3.1) (λ e. none (rw e at h3)) (λ x4 e4. let h4 = rw e4 at h3 in
    cases (R.order x4.1) (λ e. none (rw e at h4)) (λ x5 e5. let h5 = rw e5 at h4 in
    let k = same h5 in
    rw (← k.0, ← k.1) (ts, begins_at, (x1.1, sound_selection ts x1.0 x1.1 e1, (x2.1, sound_keyword (codes "FROM") x1.1 x2.0 x2.1 e2, (x3.1, sound_name x2.1 x3.0 x3.1 e3, (x4.1, sound_condition read writes only x3.1 x4.0 x4.1 e4, sound_order x4.1 x5.0 x5.1 e5))))))))))

pub sound_check : (writes : Writes) (start mid ts : List Token) (r : Stmt) (after : List Token) → G.word (codes "SELECT") start mid → G.word (codes "RTREECHECK") mid ts → R.check ts ≡ Some (r, after) → G.statement writes r start after
unfolding R.check
sound_check writes start mid ts r after begins_at checks_at h0 =
    cases (R.sign LeftParenthesis ts) (λ e. none (rw e at h0)) (λ x1 e1. let h1 = rw e1 at h0 in
    cases (R.text x1.1) (λ e. none (rw e at h1)) (λ x2 e2. let h2 = rw e2 at h1 in
    cases (R.sign RightParenthesis x2.1) (λ e. none (rw e at h2)) (λ x3 e3. let h3 = rw e3 at h2 in
    let k = same h3 in
    rw (← k.0, ← k.1) (mid, begins_at, (ts, checks_at, (x1.1, sound_sign LeftParenthesis ts x1.0 x1.1 e1, (x2.1, sound_text x1.1 x2.0 x2.1 e2, sound_sign RightParenthesis x2.1 x3.0 x3.1 e3)))))))

sound_select : (read : Read) (writes : Writes) (only : TakesOnly read writes) (start ts : List Token) (r : Stmt) (after : List Token) → G.word (codes "SELECT") start ts → R.select read ts ≡ Some (r, after) → G.statement writes r start after
unfolding R.select
sound_select read writes only start ts r after begins_at h0 =
    test (R.sees_word (codes "RTREECHECK") ts && R.sees_sign LeftParenthesis (R.rest ts))
    (λ e. let both = and_both (R.sees_word (codes "RTREECHECK") ts) (R.sees_sign LeftParenthesis (R.rest ts)) e in
    sound_check writes start ts (R.rest ts) r after begins_at (sees_word_is (codes "RTREECHECK") ts both.0) (rw e at h0))
    (λ e. sound_select_rows read writes only start ts r after begins_at (rw e at h0))

sound_definition : (read : Read) (writes : Writes) (only : TakesOnly read writes) → Sound (R.definition read) (G.statement writes)
unfolding R.definition
sound_definition read writes only ts r after h0 =
    test (R.sees_word (codes "CREATE") ts)
    (λ e. sound_create read writes only ts (R.rest ts) r after (sees_word_is (codes "CREATE") ts e) (rw e at h0))
    (λ e. let h1 = rw e at h0 in
    cases (R.keyword (codes "DROP") ts) (λ f. none (rw f at h1)) (λ x1 e1.
    sound_drop_table read writes only ts x1.1 r after (sound_keyword (codes "DROP") ts x1.0 x1.1 e1) (rw e1 at h1)))

sound_change : (read : Read) (writes : Writes) (only : TakesOnly read writes) → Sound (R.change read) (G.statement writes)
unfolding R.change
sound_change read writes only ts r after h0 =
    test (R.sees_word (codes "UPDATE") ts)
    (λ e. sound_update read writes only ts (R.rest ts) r after (sees_word_is (codes "UPDATE") ts e) (rw e at h0))
    (λ e. let h1 = rw e at h0 in
    test (R.sees_word (codes "DELETE") ts)
    (λ f. sound_delete read writes only ts (R.rest ts) r after (sees_word_is (codes "DELETE") ts f) (rw f at h1))
    (λ f. sound_definition read writes only ts r after (rw f at h1)))

sound_statement : (read : Read) (writes : Writes) (only : TakesOnly read writes) → Sound (R.statement read) (G.statement writes)
unfolding R.statement R.insertion R.replacement
sound_statement read writes only ts r after h0 =
    test (R.sees_word (codes "SELECT") ts)
    (λ e. sound_select read writes only ts (R.rest ts) r after (sees_word_is (codes "SELECT") ts e) (rw e at h0))
    (λ e. let h1 = rw e at h0 in
    test (R.sees_word (codes "INSERT") ts)
    (λ f. let h2 = rw f at h1 in
    let t1 = R.rest ts in
    cases (R.rule t1) (λ g. none (rw g at h2)) (λ x1 e1.
    sound_insert read writes only x1.0 ts x1.1 r after (sound_rule ts t1 x1.0 x1.1 (sees_word_is (codes "INSERT") ts f) e1) (rw e1 at h2)))
    (λ f. let h2 = rw f at h1 in
    test (R.sees_word (codes "REPLACE") ts)
    (λ g. sound_insert read writes only Replace ts (R.rest ts) r after (inl (sees_word_is (codes "REPLACE") ts g)) (rw g at h2))
    (λ g. sound_change read writes only ts r after (rw g at h2))))

-- ---- the whole list

no_first : (ts : List Token) → is_some (R.first ts) ≡ false → ts ≡ []
unfolding R.first
no_first [] e = refl
no_first (t ∷ ts) e = absurd (cc)

abbrev Finished : List Token → Stmt → Stmt → List Token → Type 0
Finished ts asked r after = (asked ≡ r) × (ts ≡ []) × (after ≡ [])

sound_finish : (asked : Stmt) (ts : List Token) (r : Stmt) (after : List Token) → R.finish asked ts ≡ Some (r, after) → Finished ts asked r after
unfolding R.finish
sound_finish asked ts r after h0 =
    test (is_some (R.first ts))
    (λ e. none (rw e at h0))
    (λ e. let k = same (rw e at h0) in let is_end = no_first ts e in (k.0, is_end, sym k.1 ∙ is_end))

-- statements end at a `;`
abbrev EndsInStatement : Stmt → Type 0
EndsInStatement r = (ts after : List Token) → G.sign Semicolon ts after → G.end_of r ts after

ends_all : (r : Stmt) → EndsInStatement r
ends_all (stmt.Watch view table cond) ts after g = inr g
ends_all (stmt.Unwatch view) ts after g = inr g
ends_all (stmt.View view) ts after g = inr g
ends_all (stmt.Nodes table) ts after g = inr g
ends_all (stmt.Create t i c) ts after g = g
ends_all (stmt.Drop t i) ts after g = g
ends_all (stmt.Edit t edit) ts after g = g
ends_all (stmt.Select c t d o) ts after g = g
ends_all (stmt.Check t) ts after g = g

sound_whole_statement : (read : Read) (writes : Writes) (only : TakesOnly read writes) (ts : List Token) (r : Stmt) (after : List Token) → R.whole_statement read ts ≡ Some (r, after) → G.Spells writes ts r
unfolding R.whole_statement
sound_whole_statement read writes only ts r after h0 =
    cases (R.statement read ts) (λ e. none (rw e at h0)) (λ x1 e1. let h1 = rw e1 at h0 in
    cases (R.sign Semicolon x1.1) (λ e. none (rw e at h1)) (λ x2 e2. let h2 = rw e2 at h1 in
    let k = sound_finish x1.0 x2.1 r after h2 in
    rw (← k.0) (x1.1, sound_statement read writes only ts x1.0 x1.1 e1, ends_all x1.0 x1.1 [] (rw k.1 at (sound_sign Semicolon x1.1 x2.0 x2.1 e2)))))

pub sound_watch : (read : Read) (writes : Writes) (only : TakesOnly read writes) (start ts : List Token) (r : Stmt) (after : List Token) → G.dot (codes "WATCH") start ts → R.watch read ts ≡ Some (r, after) → (G.statement writes r start after) × ((s t : List Token) → G.ending s t → G.end_of r s t)
unfolding R.watch
sound_watch read writes only start ts r after begins_at h0 =
    cases (R.name ts) (λ e. none (rw e at h0)) (λ x1 e1. let h1 = rw e1 at h0 in
    cases (R.keyword (codes "FROM") x1.1) (λ e. none (rw e at h1)) (λ x2 e2. let h2 = rw e2 at h1 in
    cases (R.name x2.1) (λ e. none (rw e at h2)) (λ x3 e3. let h3 = rw e3 at h2 in
    cases (R.condition read x3.1) (λ e. none (rw e at h3)) (λ x4 e4. let h4 = rw e4 at h3 in
    let k = same h4 in
    rw (← k.0, ← k.1) ((ts, begins_at, (x1.1, sound_name ts x1.0 x1.1 e1, (x2.1, sound_keyword (codes "FROM") x1.1 x2.0 x2.1 e2, (x3.1, sound_name x2.1 x3.0 x3.1 e3, sound_condition read writes only x3.1 x4.0 x4.1 e4)))), λ s t g. g)))))

abbrev Ended : Writes → List Token → Stmt → List Token → Type 0
Ended writes start r after = (G.statement writes r start after) × ((s t : List Token) → G.ending s t → G.end_of r s t)

-- a dot line's word and a name spell what it asks for
abbrev SpellsLine : Writes → Text × (Text → Stmt) → Type 0
SpellsLine writes line = (n : Text) (start mid after : List Token) → G.dot line.0 start mid → G.name n mid after → Ended writes start (line.1 n) after

abbrev SpellLines : Writes → List (Text × (Text → Stmt)) → Type 0
SpellLines writes [] = Unit {0}
SpellLines writes (line ∷ lines) = SpellsLine writes line × SpellLines writes lines

named_lines_spell : (writes : Writes) → SpellLines writes G.named_lines
named_lines_spell writes = (
  λ n start mid after d g. ((mid, d, g), λ s t e. e),
  (
    λ n start mid after d g. ((mid, d, g), λ s t e. e),
    (λ n start mid after d g. ((mid, d, g), λ s t e. e), tt),
  ),
)

sound_line : (writes : Writes) (w n : Text) (lines : List (Text × (Text → Stmt))) (start ts after : List Token) (r : Stmt) → SpellLines writes lines → start ≡ token.Dot w ∷ ts → G.name n ts after → R.statement_by w n lines ≡ Some r → Ended writes start r after
unfolding R.statement_by
sound_line writes w n [] start ts after r spell begins_at named h = none h
sound_line writes w n (line ∷ lines) start ts after r spell begins_at named h =
    test (same_word w line.0)
    (λ e. rw (← some_same (rw e at h)) (spell.0 n start ts after (w, begins_at, e) named))
    (λ e. sound_line writes w n lines start ts after r spell.1 begins_at named (rw e at h))

sound_named_command : (writes : Writes) (w : Text) (start ts : List Token) (r : Stmt) (after : List Token) → start ≡ token.Dot w ∷ ts → R.named_command w ts ≡ Some (r, after) → Ended writes start r after
unfolding R.named_command
sound_named_command writes w start ts r after begins_at h0 =
    cases (R.name ts) (λ e. none (rw e at h0)) (λ x1 e1. let h1 = rw e1 at h0 in
    cases (R.statement_by w x1.0 G.named_lines) (λ e. none (rw e at h1)) (λ asked e2.
    let k = same (rw e2 at h1) in
    rw (← k.0, ← k.1) (sound_line writes w x1.0 G.named_lines start ts x1.1 asked (named_lines_spell writes) begins_at (sound_name ts x1.0 x1.1 e1) e2)))

sound_command : (read : Read) (writes : Writes) (only : TakesOnly read writes) (w : Text) (start ts : List Token) (r : Stmt) (after : List Token) → start ≡ token.Dot w ∷ ts → R.command read w ts ≡ Some (r, after) → Ended writes start r after
unfolding R.command
sound_command read writes only w start ts r after begins_at h0 =
    test (same_word w (codes "WATCH"))
    (λ e. sound_watch read writes only start ts r after (w, begins_at, e) (rw e at h0))
    (λ e. sound_named_command writes w start ts r after begins_at (rw e at h0))

if_semicolon : (ts : List Token) → (if R.sees_sign Semicolon ts then R.rest ts else ts) ≡ [] → G.ending ts []
if_semicolon ts e =
    test (R.sees_sign Semicolon ts)
    (λ f. inr (rw (rw f at e) at (sees_sign_is Semicolon ts f)))
    (λ f. inl (rw f at e))

sound_whole_command : (read : Read) (writes : Writes) (only : TakesOnly read writes) (w : Text) (start ts : List Token) (r : Stmt) (after : List Token) → start ≡ token.Dot w ∷ ts → R.whole_command read w ts ≡ Some (r, after) → G.Spells writes start r
unfolding R.whole_command
sound_whole_command read writes only w start ts r after begins_at h0 =
    cases (R.command read w ts) (λ e. none (rw e at h0)) (λ x1 e1. let h1 = rw e1 at h0 in
    let k = sound_finish x1.0 (if R.sees_sign Semicolon x1.1 then R.rest x1.1 else x1.1) r after h1 in
    let ended = sound_command read writes only w start ts x1.0 x1.1 begins_at e1 in
    rw (← k.0) (x1.1, ended.0, ended.1 x1.1 [] (if_semicolon x1.1 k.1)))

pub sound_whole : (read : Read) (writes : Writes) (only : TakesOnly read writes) (ts : List Token) (r : Stmt) (after : List Token) → R.whole read ts ≡ Some (r, after) → G.Spells writes ts r
unfolding R.whole R.dot_in R.first R.rest
sound_whole read writes only [] r after h0 = sound_whole_statement read writes only [] r after h0
sound_whole read writes only (token.Word x ∷ ts) r after h0 = sound_whole_statement read writes only (token.Word x ∷ ts) r after h0
sound_whole read writes only (token.Quoted x ∷ ts) r after h0 = sound_whole_statement read writes only (token.Quoted x ∷ ts) r after h0
sound_whole read writes only (token.Digits x ∷ ts) r after h0 = sound_whole_statement read writes only (token.Digits x ∷ ts) r after h0
sound_whole read writes only (token.Text x ∷ ts) r after h0 = sound_whole_statement read writes only (token.Text x ∷ ts) r after h0
sound_whole read writes only (token.Blob x ∷ ts) r after h0 = sound_whole_statement read writes only (token.Blob x ∷ ts) r after h0
sound_whole read writes only (token.Sign x ∷ ts) r after h0 = sound_whole_statement read writes only (token.Sign x ∷ ts) r after h0
sound_whole read writes only (token.Dot w ∷ ts) r after h0 = sound_whole_command read writes only w (token.Dot w ∷ ts) ts r after refl h0
sound_whole read writes only (token.Bad ∷ ts) r after h0 = sound_whole_statement read writes only (token.Bad ∷ ts) r after h0
