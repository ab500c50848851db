-- What a removal comes to (own).
use Rattle.std.specs.Prelude.{◌≡◌, ◌≢◌, ◌↔◌, ℕ, suc, ◌+◌, ◌≤◌, Bool, ℤ, List, [], length, remove, reverse, slice_get, if◌then◌else◌, None, Some, IsSome, vec_capacity}
use Rattle.std.specs.Ordering.{int_eq}
use Rattle.indexmap.specs.IndexMap.{IndexMap, get as leaf_of, spare, index_map_len}
use Rattle.rt_box.specs.declared.interval.Interval.{Interval}
use Rattle.rt_box.specs.Capacity.{least_fill}
use Rattle.rt_tree_node.specs.declared.arena.Arena.{Arena}
use Rattle.rt_tree_node.specs.declared.cell.Cell.{Cell}
use Rattle.rt_tree_node.specs.Places.{cells_at, level_at, parent_at, count_rows}
use Rattle.rt_tree_place.specs.Path.{KeepsShape}
use Rattle.rt_tree_node.specs.Whole.{IsWhole, IsBranched}
use Rattle.rt_tree_remove.specs.Above.{way_up}
use Rattle.rt_tree_remove.specs.Steps.{Takes, Condenses, SettlesInTurn, GivesWay}

module _ {S : Type 0} where
  -- the map has the ids that it had, except this one, and as much room
  pub record LosesId (old new : IndexMap ℤ ℕ S) (id : ℤ) : Type 0 where
    pub gone : leaf_of int_eq new id ≡ None
    pub others : (other : ℤ) → other ≢ id → IsSome (leaf_of int_eq new other) ↔ IsSome (leaf_of int_eq old other)
    pub len : index_map_len new + 1 ≡ index_map_len old
    pub room : spare old ≤ spare new

module _ {D : ℕ} where
  -- the cell left its leaf; of all else only the boxes of the cells above it changed
  pub record LeavesLeaf (old new : Arena D) (leaf at : ℕ) (cell : Cell D) : Type 0 where
    pub was : slice_get (cells_at old.nodes leaf) at ≡ Some cell
    pub root : new.root ≡ old.root
    pub height : new.level ≡ old.level
    pub level : level_at new.nodes leaf ≡ level_at old.nodes leaf
    pub parent : parent_at new.nodes leaf ≡ parent_at old.nodes leaf
    pub cells : cells_at new.nodes leaf ≡ remove (cells_at old.nodes leaf) at
    pub others : (k : ℕ) → k ≢ leaf → KeepsShape old.nodes new.nodes (way_up old.nodes old.level leaf) k
    pub homes : (other : ℤ) → other ≢ cell.number → leaf_of int_eq new.leaves other ≡ leaf_of int_eq old.leaves other

  -- The steps: the row leaves its leaf, underfull nodes are eliminated from there up, their cells are inserted again, those
  -- of the lowest level first, and a root with one child gives way.
  pub record RemovesInSteps (old new : Arena D) (id : ℤ) (rect : List Interval) : Type 0 where
    pub leaf : ℕ
    pub at : ℕ
    pub taken : Arena D
    pub takes : Takes old taken id leaf at rect
    pub condensed : Arena D
    pub condenses : Condenses taken condensed leaf
    pub turned : Arena D
    pub turned_is : turned ≡ record condensed { pending = turned.pending }
    pub reversed : turned.pending.items ≡ reverse condensed.pending.items
    pub placed : Arena D
    pub places : SettlesInTurn turned placed
    pub none_left : placed.pending.items ≡ []
    pub gives_way : GivesWay placed new

  -- the row with the id and the box is out of the tree, and each other row in it; if its leaf was the root or had cells to
  -- spare, no other row moved
  pub record Removes (old new : Arena D) (id : ℤ) (rect : List Interval) : Type 0 where
    pub whole : IsWhole new
    pub branched : IsBranched new
    pub none_waits : new.pending.items ≡ []
    pub rows : (test : Cell D → Bool) →
        count_rows test new.nodes new.pending.items + (if test record { number = id; rect = rect } then 1 else 0)
        ≡ count_rows test old.nodes old.pending.items
    pub ids : LosesId old.leaves new.leaves id
    pub capacity : new.capacity ≡ old.capacity
    pub room : new.nodes.capacity ≡ old.nodes.capacity
    pub pending_room : vec_capacity new.pending ≡ vec_capacity old.pending
    pub steps : RemovesInSteps old new id rect
    pub exact : (leaf : ℕ) → leaf_of int_eq old.leaves id ≡ Some leaf →
        (leaf ≢ old.root → suc (least_fill old.capacity) ≤ length (cells_at old.nodes leaf)) →
        (at : ℕ) × LeavesLeaf old new leaf at record { number = id; rect = rect }
