-- The ids of an ordered map or set rise.
use Rattle.std.proofs.Common.{◌≡◌, ℤ, Bool, true, false, cond, ◌||◌, List, [], ◌∷◌, Option, Some, refl, sym}
use Rattle.std.specs.Prelude.{AllPairs, ◌<ℤ◌, is_some}
use Rattle.std.specs.List.{AllByRecursion, list_any}
use Rattle.std.specs.List.Sorted.{IsStrictlySortedBy}
use Rattle.std.specs.Ordering.{int_eq, int_cmp}
use Rattle.std.specs.declared.cmp.Ordering.TheVariants.{Less}
use Rattle.std.specs.BTreeMap.{BTreeMap, keys, get}
use Rattle.std.specs.Map.{keys_of, lookup}
use Rattle.std.proofs.lemmas.Cmp.{int_ranked}
use Rattle.rt_table_store.proofs.Sorted.{Rises, rising}

all_less : (x : ℤ) (ks : List ℤ) → AllByRecursion (λ y. int_cmp x y ≡ Less) ks → AllByRecursion (λ y. x <ℤ y) ks
all_less x [] less = tt
all_less x (k ∷ ks) less = (int_ranked x k Less (sym less.0), all_less x ks less.1)

rises_sorted : (ks : List ℤ) → IsStrictlySortedBy int_cmp ks → Rises (λ z. z) ks
unfolding IsStrictlySortedBy
rises_sorted [] sorted = tt
rises_sorted (k ∷ ks) sorted = (all_less k ks sorted.0, rises_sorted ks sorted.1)

pub rising_sorted : (ks : List ℤ) → IsStrictlySortedBy int_cmp ks → AllPairs ◌<ℤ◌ ks
rising_sorted ks sorted = rising (λ z. z) ks (rises_sorted ks sorted)

some_first : {V : Type 0} (b later : Bool) (v : V) (o : Option V) → later ≡ is_some o → (b || later) ≡ is_some (cond b (Some v) o)
some_first true later v o same = refl
some_first false later v o same = same

any_key : {V : Type 0} (entries : List (ℤ × V)) (q : ℤ) → list_any (int_eq q) (keys_of entries) ≡ is_some (lookup (int_eq q) entries)
any_key [] q = refl
any_key (e ∷ entries) q = some_first (int_eq q e.0) _ e.1 _ (any_key entries q)

pub any_listed : {V : Type 0} (fates : BTreeMap ℤ V) (q : ℤ) → list_any (int_eq q) (keys fates) ≡ is_some (get int_cmp fates q)
any_listed fates q = any_key fates.entries q
