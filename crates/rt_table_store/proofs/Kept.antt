-- What stays true of a store's auxiliary values and of its ranked ids, where a row came or left.
use Rattle.std.proofs.Common.{◌≡◌, ◌≢◌, ℕ, ◌+◌, ℤ, Bool, true, false, ◌||◌, List, length, Option, Some, None, IsSome, refl, sym, ap, subst, ◌∙◌, arith}
use Rattle.std.specs.Prelude.{is_some}
use Rattle.std.specs.Ordering.{int_eq}
use Rattle.indexmap.specs.IndexMap.{IndexMap, get}
use Rattle.rt_box.specs.declared.interval.Interval.{Interval}
use Rattle.rt_check.specs.Shadow.{ShadowLists}
use Rattle.rt_sql_statement.specs.declared.value.Value.{Value}
use Rattle.rt_tree.specs.Lists.{IsInShape, box_of, GainsRow, LosesRow}
use Rattle.rt_table_store.proofs.Order.{eq_from}
use Rattle.rt_table_store.proofs.Moved.{differs}
use Rattle.rt_table_store.proofs.Counted.{entries-counted}

some_is : {X : Type 0} (o : Option X) → IsSome o → is_some o ≡ true
some_is None some = some
some_is (Some x) some = refl

pub not-both : {X : Type 0} (P : Type 0) (o : Option X) → o ≡ None → IsSome o → P
not-both P None none some = absurd (let stop : ⊥ = cc in stop)
not-both P (Some x) none some = absurd (let stop : ⊥ = cc in stop)

module _ {D : ℕ} (s t : ShadowLists D) (id : ℤ) (boxes : (other : ℤ) → other ≢ id → box_of t other ≡ box_of s other) where
  -- auxiliary values are stored of rows alone
  pub auxiliary-kept : {S : Type 0} (auxiliary more : IndexMap ℤ (List Value) S) → ((other : ℤ) → other ≢ id → get int_eq more other ≡ get int_eq auxiliary other) →
      (IsSome (get int_eq more id) → IsSome (box_of t id)) → ((other : ℤ) → IsSome (get int_eq auxiliary other) → IsSome (box_of s other)) →
      (other : ℤ) → IsSome (get int_eq more other) → IsSome (box_of t other)
  auxiliary-kept auxiliary more values here old other some = by (int_eq other id) refl
    where
      by : (b : Bool) → int_eq other id ≡ b → IsSome (box_of t other)
      by true is =
          let same : other ≡ id = eq_from other id is in
          subst (λ (z : ℤ). IsSome (box_of t z)) (sym same) (here (subst (λ (z : ℤ). IsSome (get int_eq more z)) same some))
      by false is =
          let ne = differs other id is in
          subst IsSome (sym (boxes other ne)) (old other (subst IsSome (values other ne) some))

  -- a row came
  pub there-inserted : IsSome (box_of t id) → (other : ℤ) → (int_eq other id || is_some (box_of s other)) ≡ is_some (box_of t other)
  there-inserted here other = by (int_eq other id) refl
    where
      by : (b : Bool) → int_eq other id ≡ b → (b || is_some (box_of s other)) ≡ is_some (box_of t other)
      by true is = sym (some_is (box_of t other) (subst (λ (z : ℤ). IsSome (box_of t z)) (sym (eq_from other id is)) here))
      by false is = ap is_some (sym (boxes other (differs other id is)))

  -- a row left
  pub there-removed : box_of t id ≡ None → (other : ℤ) → is_some (box_of t other) ≡ true → is_some (box_of s other) ≡ true
  there-removed gone other some = by (int_eq other id) refl
    where
      by : (b : Bool) → int_eq other id ≡ b → is_some (box_of s other) ≡ true
      by true is =
          let none : true ≡ false = sym some ∙ ap is_some (ap (box_of t) (eq_from other id is) ∙ gone) in
          let stop : ⊥ = cc in
          absurd stop
      by false is = ap is_some (sym (boxes other (differs other id is))) ∙ some

  -- a row took the place of the one that was there
  pub there-replaced : IsSome (box_of s id) → IsSome (box_of t id) → (other : ℤ) → is_some (box_of s other) ≡ is_some (box_of t other)
  there-replaced was here other = by (int_eq other id) refl
    where
      by : (b : Bool) → int_eq other id ≡ b → is_some (box_of s other) ≡ is_some (box_of t other)
      by true is =
          some_is (box_of s other) (subst (λ (z : ℤ). IsSome (box_of s z)) (sym (eq_from other id is)) was)
          ∙ sym (some_is (box_of t other) (subst (λ (z : ℤ). IsSome (box_of t z)) (sym (eq_from other id is)) here))
      by false is = ap is_some (sym (boxes other (differs other id is)))

module _ {D : ℕ} (s t : ShadowLists D) (old : IsInShape s) (new : IsInShape t) {S : Type 0} (auxiliary : IndexMap ℤ (List Value) S) (id : ℤ) (rect : List Interval) where
  pub longer : GainsRow s t id rect → length t.rows ≡ length s.rows + 1
  longer gains = omega (arith, gains.rows (λ r. true), entries-counted s old auxiliary, entries-counted t new auxiliary)

  pub one-fewer : LosesRow s t id rect → length t.rows + 1 ≡ length s.rows
  one-fewer loses = omega (arith, loses.rows (λ r. true), entries-counted s old auxiliary, entries-counted t new auxiliary)
