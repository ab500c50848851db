-- Changes of the map of leaves.
use Rattle.std.specs.Prelude.{◌≡◌, ◌≢◌, ℕ, ℤ, Some}
use Rattle.std.specs.Ordering.{int_eq}
use Rattle.indexmap.specs.IndexMap.{IndexMap, get, keys, spare, index_map_len}

module _ {S : Type 0} where
  -- the map has the ids that it had, in their order, and as much room
  pub record KeepsIds (old new : IndexMap ℤ ℕ S) : Type 0 where
    pub ids : keys new ≡ keys old
    pub len : index_map_len new ≡ index_map_len old
    pub room : spare new ≡ spare old

  -- the row lies in that leaf now, and each other row in the leaf that it lay in
  pub record Moves (old new : IndexMap ℤ ℕ S) (id : ℤ) (leaf : ℕ) : Type 0 where
    pub keeps : KeepsIds old new
    pub here : get int_eq new id ≡ Some leaf
    pub others : (other : ℤ) → other ≢ id → get int_eq new other ≡ get int_eq old other
