-- What an insertion and a removal make of a tree: what the rules make of the nested tree that its nodes show (Beckmann,
-- Kriegel, Schneider, Seeger 1990, section 4; Guttman 1984, section 3.3; the counts own).
use Rattle.std.specs.Prelude.{◌≡◌, ℕ, ◌+◌, ℤ, List, Some, length}
use Rattle.rt_box.specs.declared.interval.Interval.{Interval}
use Rattle.rt_check.specs.Shadow.{ShadowLists}
use Rattle.rt_tree_node.specs.declared.arena.Work.{Work}
use Rattle.rt_tree_rules.specs.Nested.{Tree}
use Rattle.rt_tree_rules.specs.Placing.{Work as Effort, IsInsertion as InsertsByRules}
use Rattle.rt_tree_rules.specs.Removing.{IsRemoval as RemovesByRules}
use Rattle.rt_tree_rules.specs.Shadow.{Shows}
use Rattle.rt_tree.specs.Lists.{root_level, box_of}

module _ {D : ℕ} where
  -- as many cells were inserted, and as many nodes relieved of cells, as by the rules; each split added a node, and so did
  -- each level
  pub record IsWorkOf (old new : ShadowLists D) (effort : Effort) (work : Work) : Type 0 where
    pub placements : work.placements ≡ effort.placements
    pub reinsertions : work.reinsertions ≡ effort.reinsertions
    pub nodes : length new.nodes + root_level old ≡ length old.nodes + work.splits + root_level new

  -- the row comes by the rules, with that work
  pub record IsInsertion (old new : ShadowLists D) (id : ℤ) (rect : List Interval) (work : Work) : Type 0 where
    pub before : Tree
    pub after : Tree
    pub shows_before : Shows old before
    pub shows_after : Shows new after
    pub effort : Effort
    pub insertion : InsertsByRules D old.capacity before record { id = id; rect = rect } after effort
    pub work_is : IsWorkOf old new effort work
    pub capacity : new.capacity ≡ old.capacity

  -- the row, which had that box, goes by the rules
  pub record IsRemoval (old new : ShadowLists D) (id : ℤ) (rect : List Interval) : Type 0 where
    pub was : box_of old id ≡ Some rect
    pub before : Tree
    pub after : Tree
    pub shows_before : Shows old before
    pub shows_after : Shows new after
    pub removal : RemovesByRules D old.capacity before id after
    pub capacity : new.capacity ≡ old.capacity
