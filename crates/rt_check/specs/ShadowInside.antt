-- How a `Shadow` keeps its lists. No public clause cites this module.
use Rattle.std.specs.Prelude.{◌≡◌, ℕ, ◌≤◌, map}
use Rattle.std.specs.List.{IsDistinct}
use Rattle.std.specs.Ordering.{int_eq}
use Rattle.rt_check.specs.Shadow.{ShadowLists}
use Rattle.rt_check.specs.declared.shadow.Shadow.TheInside.{Inside}

module _ {D : ℕ} where
  abbrev pub lists_of : Inside D → ShadowLists D
  lists_of s = record { capacity = s.capacity; root = s.root; nodes = s.nodes.items; rows = s.rows.items }

  -- the sets hold the numbers and the ids, in the order of the lists
  pub record IsWhole (s : Inside D) : Type 0 where
    pub some : 1 ≤ D
    pub few : D ≤ 3
    pub numbers : s.numbers.keys ≡ map (λ n. n.number) s.nodes.items
    pub ids : s.ids.keys ≡ map (λ r. r.id) s.rows.items
    pub numbers_differ : IsDistinct int_eq s.numbers.keys
    pub ids_differ : IsDistinct int_eq s.ids.keys
