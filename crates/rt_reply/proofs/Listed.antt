-- Rows of an answer: each is what is shown of an element of a vector.
use Rattle.std.proofs.Common.{◌≡◌, ℕ, ◌<◌, List, [], map, length, get_or, arith, sym, ap, subst, ◌∙◌}
use Rattle.std.specs.Prelude.{Vec, vec_len}
use Rattle.std.specs.Global.{Global}
use Rattle.std.proofs.lemmas.List.{length-map, get_or-map}
use Rattle.rt_sql_statement.specs.declared.value.Value.{Value}
use Rattle.rt_sql_statement.specs.declared.value.Value.TheVariants.{Null}
use Rattle.rt_table_row.specs.RowLists.{Lists}

module _ {X : Type 0} (f : X → List Value) where
  pub as-many : (xs : Vec X Global) (rows : Lists) (n : ℕ) → rows ≡ map f xs.items → n ≡ vec_len xs → n ≡ length rows
  as-many xs rows n is long = omega (arith, xs.ok.0, length-map xs.items f, ap (λ (rs : Lists). length rs) is)

  pub within-vec : (xs : Vec X Global) (rows : Lists) (at : ℕ) → rows ≡ map f xs.items → at < length rows → at < vec_len xs
  within-vec xs rows at is within = omega (arith, xs.ok.0, length-map xs.items f, ap (λ (rs : Lists). length rs) is)

  -- the value at a place of the element at a place
  pub value-read : (xs : List X) (rows : Lists) (at place : ℕ) (x : X) (value : Value) → rows ≡ map f xs → at < length rows → x ≡ get_or xs at x
      → value ≡ get_or (f x) place Null → value ≡ get_or (get_or rows at []) place Null
  value-read xs rows at place x value is within here shown =
      let inside : at < length xs = subst (λ (n : ℕ). at < n) (ap (λ (rs : Lists). length rs) is ∙ length-map xs f) within in
      shown ∙ ap (λ (values : List Value). get_or values place Null) (ap f here ∙ sym (get_or-map f xs at x [] inside) ∙ ap (λ (rs : Lists). get_or rs at []) (sym is))
