-- How many nodes of a table's tree a search goes into (own).
use Rattle.std.specs.Prelude.{◌≡◌, ℕ, ◌<◌, ℤ, List, length, count_by}
use Rattle.std.specs.Ordering.{int_eq}
use Rattle.rt_box.specs.declared.interval.Interval.{Interval}
use Rattle.rt_check.specs.Shadow.{ShadowLists}
use Rattle.rt_tree.specs.Search.{IsReachedIn}

module _ {D : ℕ} where
  -- the window reaches `visited` nodes: each of them is counted once, and no other
  pub record Visits (tree : ShadowLists D) (window : List Interval) (visited : ℕ) : Type 0 where
    pub numbers : List ℤ
    pub once : (number : ℤ) → IsReachedIn tree window number → count_by (int_eq number) numbers ≡ 1
    pub only : (number : ℤ) → 0 < count_by (int_eq number) numbers → IsReachedIn tree window number
    pub counted : visited ≡ length numbers
