-- Where each number that is written in one sense is written in another, what is spelled in the one is spelled in the other.
use Rattle.std.proofs.Common.{◌⊎◌, inl, inr, Bool, true, false, List, [], ◌∷◌, codes}
use lib.IntN.{ℤ}
use Rattle.rt_sql_statement.specs.declared.statement.ColumnDef.{ColumnDef}
use Rattle.rt_sql_statement.specs.declared.statement.Source.{Source}
use Rattle.rt_sql_statement.specs.declared.statement.Source.TheVariants as sources
use Rattle.rt_sql_request.specs.declared.request.Stmt.{Stmt}
use Rattle.rt_sql_statement.specs.declared.statement.Edit.TheVariants as edit
use Rattle.rt_sql_request.specs.declared.request.Stmt.TheVariants as stmt
use Rattle.rt_sql_statement.specs.declared.statement.Test.{Test}
use Rattle.rt_sql_statement.specs.declared.statement.Test.TheVariants as tests
use Rattle.rt_sql.specs.declared.token.Sign.TheVariants.{Comma}
use Rattle.rt_sql.specs.declared.token.Token.{Token}
use Rattle.rt_sql_statement.specs.declared.value.Value.{Value}
use Rattle.rt_sql_statement.specs.declared.value.Value.TheVariants as values
use Rattle.rt_sql.specs.Token.{Text}
use Rattle.rt_sql.specs.Number.{Writes}
use Rattle.rt_sql.specs.Grammar as G

abbrev pub Carries : Writes → Writes → Type 0
Carries one other = (b : Bool) (d : Text) (n : ℤ) → one b d n → (m : ℤ) × other b d m

-- a part with some value
abbrev HasSome : {A : Type 0} → (A → G.Part) → List Token → List Token → Type 0
HasSome {A} P ts after = (a : A) × P a ts after

module _ {A : Type 0} (separator : G.Part) (P Q : A → G.Part) (each : (a : A) (ts after : List Token) → P a ts after → HasSome Q ts after) where
  carry_further : (xs : List A) (ts after : List Token) → G.further separator P xs ts after → HasSome (G.further separator Q) ts after
  carry_further [] ts after g = ([], g)
  carry_further (x ∷ xs) ts after g =
      let y = each x g.0 g.2.0 g.2.1 in
      let ys = carry_further xs g.2.0 after g.2.2 in
      (y.0 ∷ ys.0, (g.0, g.1, (g.2.0, y.1, ys.1)))

  carry_sequence : (xs : List A) (ts after : List Token) → G.sequence separator P xs ts after → HasSome (G.sequence separator Q) ts after
  carry_sequence [] ts after g = absurd g
  carry_sequence (x ∷ xs) ts after g =
      let y = each x ts g.0 g.1 in
      let ys = carry_further xs g.0 after g.2 in
      (y.0 ∷ ys.0, (g.0, y.1, ys.1))

module _ (one other : Writes) (carries : Carries one other) where
  carry_digits : (b : Bool) (n : ℤ) (ts after : List Token) → G.digits one b n ts after → HasSome (G.digits other b) ts after
  carry_digits b n ts after g = let m = carries b g.0 n g.2 in (m.0, (g.0, g.1, m.1))

  carry_value : (v : Value) (ts after : List Token) → G.value one v ts after → HasSome (G.value other) ts after
  carry_value values.Null ts after g = (values.Null, g)
  carry_value (values.Int n) ts after (inl g) = let m = carry_digits false n ts after g in (values.Int m.0, inl m.1)
  carry_value (values.Int n) ts after (inr (inl g)) = let m = carry_digits false n g.0 after g.2 in (values.Int m.0, inr (inl (g.0, g.1, m.1)))
  carry_value (values.Int n) ts after (inr (inr g)) = let m = carry_digits true n g.0 after g.2 in (values.Int m.0, inr (inr (g.0, g.1, m.1)))
  carry_value (values.Text t) ts after g = (values.Text t, g)
  carry_value (values.Blob b) ts after g = (values.Blob b, g)

  carry_list : (vs : List Value) (ts after : List Token) → G.list one vs ts after → HasSome (G.list other) ts after
  carry_list vs ts after g =
      let ws = carry_sequence (G.sign Comma) (G.value one) (G.value other) carry_value vs g.0 g.2.0 g.2.1 in
      (ws.0, (g.0, g.1, (g.2.0, ws.1, g.2.2)))

  carry_some_digits : (ts after : List Token) → G.some_digits one ts after → G.some_digits other ts after
  carry_some_digits ts after g = let m = carry_digits false g.0 ts after g.1 in (m.0, m.1)

  carry_second : (ts after : List Token) → G.nothing ts after ⊎ ((mid : List Token) × G.sign Comma ts mid × G.some_digits one mid after) → G.nothing ts after ⊎ ((mid : List Token) × G.sign Comma ts mid × G.some_digits other mid after)
  carry_second ts after (inl g) = inl g
  carry_second ts after (inr g) = inr (g.0, g.1, carry_some_digits g.0 after g.2)

  carry_size : (ts after : List Token) → G.nothing ts after ⊎ G.size one ts after → G.nothing ts after ⊎ G.size other ts after
  carry_size ts after (inl g) = inl g
  carry_size ts after (inr g) =
      inr (g.0, g.1, (g.2.0, carry_some_digits g.0 g.2.0 g.2.1, (g.2.2.0, carry_second g.2.0 g.2.2.0 g.2.2.1, g.2.2.2)))

  carry_column : (c : ColumnDef) (ts after : List Token) → G.column one c ts after → HasSome (G.column other) ts after
  carry_column c ts after g = (c, (g.0, g.1, (g.2.0, g.2.1, (g.2.2.0, g.2.2.1, carry_size g.2.2.0 after g.2.2.2))))

  carry_test : (t : Test) (ts after : List Token) → G.test one t ts after → HasSome (G.test other) ts after
  carry_test (tests.Compare c) ts after g =
      let v = carry_value c.value g.2.0 after g.2.2 in
      (tests.Compare (record { column = c.column; op = c.op; value = v.0 }), (g.0, g.1, (g.2.0, g.2.1, v.1)))
  carry_test (tests.IsNull n) ts after g = (tests.IsNull n, g)
  carry_test (tests.IsNotNull n) ts after g = (tests.IsNotNull n, g)

  tests_follow : (xs : List Test) (ts mid after : List Token) → G.word (codes "WHERE") ts mid → G.sequence (G.word (codes "AND")) (G.test other) xs mid after → G.condition other xs ts after
  tests_follow [] ts mid after w g = absurd g
  tests_follow (x ∷ xs) ts mid after w g = (mid, w, g)

  carry_condition : (xs : List Test) (ts after : List Token) → G.condition one xs ts after → HasSome (G.condition other) ts after
  carry_condition [] ts after g = ([], g)
  carry_condition (x ∷ xs) ts after g =
      let ys = carry_sequence (G.word (codes "AND")) (G.test one) (G.test other) carry_test (x ∷ xs) g.0 after g.2 in
      (ys.0, tests_follow ys.0 ts g.0 after g.1 ys.1)

  carry_source : (s : Source) (ts after : List Token) → G.source one s ts after → HasSome (G.source other) ts after
  carry_source (sources.Literal v) ts after g = let w = carry_value v ts after g in (sources.Literal w.0, w.1)
  carry_source (sources.Column n) ts after g = (sources.Column n, g)
  carry_source (sources.Plus n k) ts after g = let m = carry_digits false k g.2.0 after g.2.2 in (sources.Plus n m.0, (g.0, g.1, (g.2.0, g.2.1, m.1)))
  carry_source (sources.Minus n k) ts after g = let m = carry_digits false k g.2.0 after g.2.2 in (sources.Minus n m.0, (g.0, g.1, (g.2.0, g.2.1, m.1)))

  carry_set : (s : Text × Source) (ts after : List Token) → G.set one s ts after → HasSome (G.set other) ts after
  carry_set s ts after g =
      let m = carry_source s.1 g.2.0 after g.2.2 in
      ((s.0, m.0), (g.0, g.1, (g.2.0, g.2.1, m.1)))

  pub carry : (ts : List Token) (s : Stmt) → G.Spells one ts s → (t : Stmt) × G.Spells other ts t
  carry ts (stmt.Create table if_absent columns) g =
      let xs = carry_sequence (G.sign Comma) (G.column one) (G.column other) carry_column columns (g.1.2.2.2.2.2.2.2.0) (g.1.2.2.2.2.2.2.2.2.0) (g.1.2.2.2.2.2.2.2.2.1) in
      (stmt.Create table if_absent xs.0, (g.0, (g.1.0, g.1.1, (g.1.2.0, g.1.2.1, (g.1.2.2.0, g.1.2.2.1, (g.1.2.2.2.0, g.1.2.2.2.1, (g.1.2.2.2.2.0, g.1.2.2.2.2.1, (g.1.2.2.2.2.2.0, g.1.2.2.2.2.2.1, (g.1.2.2.2.2.2.2.0, g.1.2.2.2.2.2.2.1, (g.1.2.2.2.2.2.2.2.0, g.1.2.2.2.2.2.2.2.1, (g.1.2.2.2.2.2.2.2.2.0, xs.1, g.1.2.2.2.2.2.2.2.2.2))))))))), g.2))
  carry ts (stmt.Drop table if_there) g = (stmt.Drop table if_there, g)
  carry ts (stmt.Edit table (edit.Insert how columns rows)) g =
      let xs = carry_sequence (G.sign Comma) (G.list one) (G.list other) carry_list rows (g.1.2.2.2.2.0) (g.0) (g.1.2.2.2.2.2) in
      (stmt.Edit table (edit.Insert how columns xs.0), (g.0, (g.1.0, g.1.1, (g.1.2.0, g.1.2.1, (g.1.2.2.0, g.1.2.2.1, (g.1.2.2.2.0, g.1.2.2.2.1, (g.1.2.2.2.2.0, g.1.2.2.2.2.1, xs.1))))), g.2))
  carry ts (stmt.Edit table (edit.Update sets cond)) g =
      let xs = carry_sequence (G.sign Comma) (G.set one) (G.set other) carry_set sets (g.1.2.2.0) (g.1.2.2.2.0) (g.1.2.2.2.1) in
      let c = carry_condition cond (g.1.2.2.2.0) (g.0) (g.1.2.2.2.2) in
      (stmt.Edit table (edit.Update xs.0 c.0), (g.0, (g.1.0, g.1.1, (g.1.2.0, g.1.2.1, (g.1.2.2.0, g.1.2.2.1, (g.1.2.2.2.0, xs.1, c.1)))), g.2))
  carry ts (stmt.Edit table (edit.Delete cond)) g =
      let c = carry_condition cond (g.1.2.2.0) (g.0) (g.1.2.2.2) in
      (stmt.Edit table (edit.Delete c.0), (g.0, (g.1.0, g.1.1, (g.1.2.0, g.1.2.1, (g.1.2.2.0, g.1.2.2.1, c.1))), g.2))
  carry ts (stmt.Select columns table cond by) g =
      let c = carry_condition cond (g.1.2.2.2.0) (g.1.2.2.2.2.0) (g.1.2.2.2.2.1) in
      (stmt.Select columns table c.0 by, (g.0, (g.1.0, g.1.1, (g.1.2.0, g.1.2.1, (g.1.2.2.0, g.1.2.2.1, (g.1.2.2.2.0, g.1.2.2.2.1, (g.1.2.2.2.2.0, c.1, g.1.2.2.2.2.2))))), g.2))
  carry ts (stmt.Check table) g = (stmt.Check table, g)
  carry ts (stmt.Watch view table cond) g =
      let c = carry_condition cond (g.1.2.2.2.0) (g.0) (g.1.2.2.2.2) in
      (stmt.Watch view table c.0, (g.0, (g.1.0, g.1.1, (g.1.2.0, g.1.2.1, (g.1.2.2.0, g.1.2.2.1, (g.1.2.2.2.0, g.1.2.2.2.1, c.1)))), g.2))
  carry ts (stmt.Unwatch n) g = (stmt.Unwatch n, g)
  carry ts (stmt.View n) g = (stmt.View n, g)
  carry ts (stmt.Nodes n) g = (stmt.Nodes n, g)
