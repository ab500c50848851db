-- What the placing of pending cells comes to.
use Rattle.std.specs.Prelude.{◌≡◌, ℕ, Bool, take, vec_capacity}
use Rattle.rt_tree_node.specs.declared.arena.Arena.{Arena}
use Rattle.rt_tree_node.specs.declared.cell.Cell.{Cell}
use Rattle.rt_tree_node.specs.Places.{count_rows}
use Rattle.rt_tree_node.specs.Whole.{IsWhole, IsBranched}
use Rattle.rt_tree_node.specs.Homes.{KeepsIds}

module _ {D : ℕ} where
  -- the pending cells except the first `base` are in the tree now, which has the rows that were there or pending
  pub record Settles (old new : Arena D) (base : ℕ) : Type 0 where
    pub whole : IsWhole new
    pub pending : new.pending.items ≡ take base old.pending.items
    pub rows : (test : Cell D → Bool) →
        count_rows test new.nodes new.pending.items ≡ count_rows test old.nodes old.pending.items
    pub ids : KeepsIds old.leaves new.leaves
    pub capacity : new.capacity ≡ old.capacity
    pub room : new.nodes.capacity ≡ old.nodes.capacity
    pub pending_room : vec_capacity new.pending ≡ vec_capacity old.pending
    pub branched : IsBranched old → IsBranched new
