-- The largest id of rows by rising id.
use Rattle.std.proofs.Common.{◌≡◌, ◌-◌, ℤ, Bool, true, false, cond, List, [], ◌∷◌, length, Option, Some, None, IsSome, inl, inr, refl, sym, ap, subst, ◌∙◌, arith}
use Rattle.std.specs.Prelude.{◌<◌, ◌<ℤ◌, ◌≤ℤ◌, is_some, slice_get}
use Rattle.std.specs.List.{AllByRecursion}
use Rattle.std.specs.Option.{option_map}
use Rattle.std.specs.Ordering.{int_eq}
use Rattle.std.proofs.lemmas.Int.{ints}
use Rattle.indexmap.specs.IndexMap.{IndexMap}
use Rattle.rt_check.specs.Shadow.{ShadowLists}
use Rattle.rt_sql_statement.specs.declared.value.Value.{Value}
use Rattle.rt_table_row.specs.Rows.{TableRow, row_at, largest_id}
use Rattle.rt_tree.specs.Lists.{IsInShape, box_of}
use Rattle.rt_table_store.specs.GreatestIds.{IsTop, Ranks}
use Rattle.rt_table_store.specs.StoreInside.{rows_in}
use Rattle.rt_table_store.proofs.Ranking.{ranks-same}
use Rattle.rt_table_store.proofs.Order.{three_ways, eq_same, eq_above, eq_from}
use Rattle.rt_table_store.proofs.Sorted.{at_key, Rises}
use Rattle.rt_table_store.proofs.Joined.{boxed, row-at, rows-rise}

not-above : (a b : ℤ) → a <ℤ b → a ≤ℤ b
not-above a b h = grind (arith, ints)

itself : (a : ℤ) → a ≤ℤ a
itself a = grind (arith, ints)

both-ways : (a b : ℤ) → a ≤ℤ b → b ≤ℤ a → a ≡ b
both-ways a b h k = elim (three_ways a b) as (λ w. a ≡ b) [
  | inl below ↦ absurd (let none : ⊥ = omega (arith, ints, below, k) in none)
  | inr (inl same) ↦ same
  | inr (inr above) ↦ absurd (let none : ⊥ = omega (arith, ints, above, h) in none)
]

module _ {X : Type 0} (key : X → ℤ) where
  abbrev last : X → List X → X
  last x [] = x
  last x (y ∷ ys) = last y ys

  last-is : (x : X) (xs : List X) → slice_get (x ∷ xs) (length xs) ≡ Some (last x xs)
  last-is x [] = refl
  last-is x (y ∷ ys) = last-is y ys

  below-last : (q : ℤ) (x : X) (xs : List X) → AllByRecursion (λ y. q <ℤ key y) (x ∷ xs) → q <ℤ key (last x xs)
  below-last q x [] all = all.0
  below-last q x (y ∷ ys) all = below-last q y ys all.1

  at-last : (x : X) (xs : List X) → Rises key (x ∷ xs) → at_key key (x ∷ xs) (key (last x xs)) ≡ Some (last x xs)
  at-last x [] rise = ap (λ (b : Bool). cond b (Some x) None) (eq_same (key x))
  at-last x (y ∷ ys) rise =
      ap (λ (b : Bool). cond b (Some x) (at_key key (y ∷ ys) (key (last y ys)))) (eq_above (key (last y ys)) (key x) (below-last (key x) y ys rise.0)) ∙ at-last y ys rise.1

  first-below : (x : X) (xs : List X) → Rises key (x ∷ xs) → key x ≤ℤ key (last x xs)
  first-below x [] rise = itself (key x)
  first-below x (y ∷ ys) rise = not-above (key x) (key (last y ys)) (below-last (key x) y ys rise.0)

  up-to-last : (x : X) (xs : List X) → Rises key (x ∷ xs) → (q : ℤ) → IsSome (at_key key (x ∷ xs) q) → q ≤ℤ key (last x xs)
  up-to-last x [] rise q some = by (int_eq q (key x)) refl some
    where
      by : (b : Bool) → int_eq q (key x) ≡ b → IsSome (cond b (Some x) None) → q ≤ℤ key x
      by true is found = subst (λ (z : ℤ). z ≤ℤ key x) (sym (eq_from q (key x) is)) (itself (key x))
      by false is found = absurd (let none : ⊥ = cc in none)
  up-to-last x (y ∷ ys) rise q some = by (up-to-last y ys rise.1 q) (int_eq q (key x)) refl some
    where
      by : (IsSome (at_key key (y ∷ ys) q) → q ≤ℤ key (last y ys)) → (b : Bool) → int_eq q (key x) ≡ b → IsSome (cond b (Some x) (at_key key (y ∷ ys) q)) → q ≤ℤ key (last y ys)
      by later true is found = subst (λ (z : ℤ). z ≤ℤ key (last y ys)) (sym (eq_from q (key x) is)) (first-below x (y ∷ ys) rise)
      by later false is found = later found

some-from : {X : Type 0} (o : Option X) → is_some o ≡ true → IsSome o
some-from None e = absurd (let none : ⊥ = cc in none)
some-from (Some x) e = refl

module _ (rows : List TableRow) (rise : Rises (λ (r : TableRow). r.id) rows) (ids : List ℤ) where
  -- the ids are the greatest of the rows'
  pub top-is : Ranks (λ id. is_some (row_at rows id)) ids → (o : Option ℤ) → IsTop ids o → o ≡ largest_id rows
  top-is ranks o is = by rows rise ranks o is
    where
      by : (rs : List TableRow) → Rises (λ (r : TableRow). r.id) rs → Ranks (λ id. is_some (row_at rs id)) ids → (p : Option ℤ) → IsTop ids p → p ≡ largest_id rs
      by [] rr ranked None empty = refl
      by (r ∷ rs) rr ranked None empty =
          let there : is_some (row_at (r ∷ rs) r.id) ≡ true = ap (λ (b : Bool). is_some (cond b (Some r) (row_at rs r.id))) (eq_same r.id) in
          let some : 0 < length ids = ranked.some r.id there in
          let none : length ids ≡ 0 = ap length empty in
          absurd (omega (arith, some, none))
      by [] rr ranked (Some t) is_top = let there : false ≡ true = ranked.top t is_top in absurd (let none : ⊥ = cc in none)
      by (r ∷ rs) rr ranked (Some t) is_top =
          let l = last (λ (x : TableRow). x.id) r rs in
          let there : is_some (row_at (r ∷ rs) l.id) ≡ true = ap is_some (at-last (λ (x : TableRow). x.id) r rs rr) in
          let low : t ≤ℤ l.id = up-to-last (λ (x : TableRow). x.id) r rs rr t (some-from (row_at (r ∷ rs) t) (ranked.top t is_top)) in
          let same : t ≡ l.id = both-ways t l.id low (is_top.1 l.id (ranked.upward l.id t there is_top.0 low)) in
          let place : length (r ∷ rs) - 1 ≡ length rs = omega arith in
          let at : slice_get (r ∷ rs) (length (r ∷ rs) - 1) ≡ Some l = ap (slice_get (r ∷ rs)) place ∙ last-is (λ (x : TableRow). x.id) r rs in
          ap Some same ∙ sym (ap (option_map (λ (x : TableRow). x.id)) at)

is_some-map : {X Y : Type 0} (f : X → Y) (o : Option X) → is_some o ≡ is_some (option_map f o)
is_some-map f None = refl
is_some-map f (Some x) = refl

module _ {D : _} (s : ShadowLists D) (shape : IsInShape s) {S : Type 0} (auxiliary : IndexMap ℤ (List Value) S) (ids : List ℤ) where
  pub largest-is : Ranks (λ id. is_some (box_of s id)) ids → (o : Option ℤ) → IsTop ids o → o ≡ largest_id (rows_in s auxiliary)
  largest-is ranks o is = top-is (rows_in s auxiliary) (rows-rise s shape auxiliary) ids
      (ranks-same _ ids _ (λ id. is_some-map (boxed s shape auxiliary id) (box_of s id) ∙ ap is_some (sym (row-at s shape auxiliary id))) ranks) o is
