-- Searches by windows (Guttman 1984, section 3.1).
use Rattle.std.specs.Prelude.{◌≡◌, ℕ, suc, ◌+◌, ◌<◌, ◌≤◌, Bool, ℤ, List, ◌++◌, length, Some, All, Contains, count_by, Vec, vec_capacity}
use Rattle.std.specs.declared.alloc.Global.{Global}
use Rattle.std.specs.Ordering.{int_eq}
use Rattle.rt_box.specs.declared.interval.Interval.{Interval}
use Rattle.rt_box.specs.Window.{Admits, MayHold}
use Rattle.rt_check.specs.declared.node.RawCell.{RawCell}
use Rattle.rt_check.specs.Shadow.{ShadowLists}
use Rattle.rt_tree_walk.specs.declared.searching.Reached.{Reached}
use Rattle.rt_tree_walk.specs.declared.searching.Row.{Row}
use Rattle.rt_tree_walk.specs.Search.{AsksAdmitted}
use Rattle.rt_tree_outside.specs.InOrder.{cells_of_number}
use Rattle.rt_tree.specs.Lists.{level_of_number, box_in, rows_of}

module _ {D : ℕ} where
  -- the root is reached, and of a reached node above the leaves each child in whose cell the window may hold a box
  pub data IsReachedIn (s : ShadowLists D) (window : List Interval) : ℤ → Type 0 where
    root : IsReachedIn s window s.root
    child : {number : ℤ} (l : ℕ) (c : RawCell D) → IsReachedIn s window number → level_of_number s number ≡ Some (suc l) →
        Contains (cells_of_number s.nodes number) c → MayHold D window (box_in c) → IsReachedIn s window c.number

  -- the rows that the window admits, each as often as it is in the tree, and the number of the nodes reached: each of
  -- them is listed once, and no other
  pub record FindsIn (s : ShadowLists D) (window : List Interval) (rows : List (Row D)) (visited : ℕ) : Type 0 where
    pub admitted : All (λ r. Admits window r.rect) rows
    pub each : (test : Row D → Bool) → AsksAdmitted window test → count_by test rows ≡ count_by test (rows_of s)
    pub numbers : List ℤ
    pub once : (number : ℤ) → IsReachedIn s window number → count_by (int_eq number) numbers ≡ 1
    pub only : (number : ℤ) → 0 < count_by (int_eq number) numbers → IsReachedIn s window number
    pub counted : visited ≡ length numbers

  -- the number of the rows that the window admits: they are listed as a search finds them, and the list is as long
  pub record CountsIn (s : ShadowLists D) (window : List Interval) (count : ℕ) : Type 0 where
    pub rows : List (Row D)
    pub admitted : All (λ r. Admits window r.rect) rows
    pub each : (test : Row D → Bool) → AsksAdmitted window test → count_by test rows ≡ count_by test (rows_of s)
    pub counted : count ≡ length rows

  -- the rows that a list held are a prefix, and after them stand those that the search found
  pub record FindsInAfter (s : ShadowLists D) (window : List Interval) (old new : List (Row D)) (visited : ℕ) : Type 0 where
    pub more : List (Row D)
    pub is : new ≡ old ++ more
    pub finds : FindsIn s window more visited

  -- the lists have room for the rows that the window admits, and for all nodes
  pub record HasRoomToFindIn (s : ShadowLists D) (window : List Interval) (rows : Vec (Row D) Global) (reached : Vec Reached Global) : Type 0 where
    pub count : ℕ
    pub counts : CountsIn s window count
    pub rows_fit : length rows.items + count ≤ vec_capacity rows
    pub nodes_fit : length s.nodes ≤ vec_capacity reached
