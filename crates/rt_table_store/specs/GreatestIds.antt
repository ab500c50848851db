-- Of many ids the greatest. Source: own.
use Rattle.std.specs.Prelude.{◌≡◌, ◌≢◌, ℕ, ◌<◌, ℤ, ◌≤ℤ◌, ◌||◌, Bool, true, List, [], length, Option, Some, None, is_some}
use Rattle.std.specs.List.{list_any}
use Rattle.std.specs.Ordering.{int_eq}
use Rattle.rt_check.specs.Shadow.{ShadowLists}
use Rattle.rt_tree.specs.Lists.{box_of}

-- none if there is no id
abbrev pub IsTop : List ℤ → Option ℤ → Type 0
IsTop ids None = ids ≡ []
IsTop ids (Some id) = (list_any (int_eq id) ids ≡ true) × ((other : ℤ) → list_any (int_eq other) ids ≡ true → other ≤ℤ id)

-- with an id each greater one that is there is among the ids
abbrev pub IsUpward : (ℤ → Bool) → List ℤ → Type 0
IsUpward there ids = (id other : ℤ) → there id ≡ true → list_any (int_eq other) ids ≡ true → other ≤ℤ id → list_any (int_eq id) ids ≡ true

-- The greatest of the ids that are there, and some at least. Others, which are there no more, are below the largest.
pub record Ranks (there : ℤ → Bool) (ids : List ℤ) : Type 0 where
  pub upward : IsUpward there ids
  pub top : (id : ℤ) → IsTop ids (Some id) → there id ≡ true
  pub some : (id : ℤ) → there id ≡ true → 0 < length ids

-- one of the ids isn't above the id
abbrev pub HasUpTo : List ℤ → ℤ → Type 0
HasUpTo ids id = (other : ℤ) × (list_any (int_eq other) ids ≡ true) × (other ≤ℤ id)

-- the ids have one more
abbrev pub AddsId : ℤ → List ℤ → List ℤ → Type 0
AddsId id old new = (other : ℤ) → list_any (int_eq other) new ≡ (int_eq other id || list_any (int_eq other) old)

-- after an id came the greatest ids are known, if they were before
abbrev pub RanksAfterId : ℤ → List ℤ → List ℤ → Type 0
RanksAfterId id old new = (there : ℤ → Bool) → Ranks there old → Ranks (λ other. int_eq other id || there other) new

-- the same of more ids
abbrev pub RanksAfterIds : List ℤ → List ℤ → List ℤ → Type 0
RanksAfterIds more old new = (there : ℤ → Bool) → Ranks there old → Ranks (λ id. list_any (int_eq id) more || there id) new

module _ {D : ℕ} where
  -- the tree has the id
  abbrev pub is_in : ShadowLists D → ℤ → Bool
  is_in tree id = is_some (box_of tree id)

  -- after ids left the greatest of the tree's are known, if the greatest of those before were
  abbrev pub RanksAfterLeaving : ShadowLists D → List ℤ → List ℤ → Type 0
  RanksAfterLeaving tree old new =
      (there : ℤ → Bool) → Ranks there old → ((id : ℤ) → is_in tree id ≡ true → there id ≡ true) → Ranks (is_in tree) new

  -- the same if this id left alone
  abbrev pub RanksAfterLeft : ShadowLists D → ℤ → List ℤ → List ℤ → Type 0
  RanksAfterLeft tree id old new =
      (there : ℤ → Bool) → Ranks there old → ((other : ℤ) → is_in tree other ≡ true → there other ≡ true)
      → ((other : ℤ) → other ≢ id → there other ≡ true → is_in tree other ≡ true) → Ranks (is_in tree) new
