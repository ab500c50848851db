-- What an insertion comes to, and what it takes (Beckmann, Kriegel, Schneider, Seeger 1990, section 4.3; the counts
-- own).
use Rattle.std.specs.Prelude.{◌≡◌, ◌≢◌, ◌↔◌, ◌⊎◌, ℕ, suc, ◌+◌, ◌*◌, ◌≤◌, ◌<◌, Bool, ℤ, List, [], length, if◌then◌else◌, IsSome, vec_capacity}
use Rattle.std.specs.Ordering.{int_eq}
use Rattle.indexmap.specs.IndexMap.{IndexMap, get as leaf_of, spare, index_map_len}
use Rattle.slab.specs.Slab.{slab_len}
use Rattle.rt_box.specs.declared.interval.Interval.{Interval}
use Rattle.rt_box.specs.Capacity.{reinsertion_share}
use Rattle.rt_tree_node.specs.declared.arena.Arena.{Arena}
use Rattle.rt_tree_node.specs.declared.arena.Work.{Work}
use Rattle.rt_tree_node.specs.declared.cell.Cell.{Cell}
use Rattle.rt_tree_node.specs.Places.{cells_at, count_rows}
use Rattle.rt_tree_node.specs.Whole.{IsWhole, IsBranched}
use Rattle.rt_tree_place.specs.Path.{LeadsTo}
use Rattle.rt_tree_place.specs.Placement.{JoinsLeaf, HalvesRoot}
use Rattle.rt_tree_place.specs.NewRow.{AwaitsLeaf}
use Rattle.rt_tree_place.specs.Turns.{PlacesInTurn}

module _ {S : Type 0} where
  -- the map has this id beside those that it had
  pub record GainsId (old new : IndexMap ℤ ℕ S) (id : ℤ) : Type 0 where
    pub here : IsSome (leaf_of int_eq new id)
    pub others : (other : ℤ) → other ≢ id → IsSome (leaf_of int_eq new other) ↔ IsSome (leaf_of int_eq old other)
    pub len : index_map_len new ≡ suc (index_map_len old)
    pub room : spare old ≤ suc (spare new)

module _ {D : ℕ} where
  -- The row is in the tree, and so is each that was. Its leaf is the one that best children lead its box to: if the leaf
  -- isn't full, no other row moves, and a full root is halved. In these two cases and in no other nothing is inserted
  -- again. The row is pending at first, and all pending cells are placed in turn.
  pub record Inserts (old new : Arena D) (id : ℤ) (rect : List Interval) (work : Work) : Type 0 where
    pub whole : IsWhole new
    pub branched : IsBranched new
    pub none_waits : new.pending.items ≡ []
    pub rows : (test : Cell D → Bool) →
        count_rows test new.nodes new.pending.items
        ≡ count_rows test old.nodes old.pending.items + (if test record { number = id; rect = rect } then 1 else 0)
    pub ids : GainsId old.leaves new.leaves id
    pub capacity : new.capacity ≡ old.capacity
    pub room : new.nodes.capacity ≡ old.nodes.capacity
    pub pending_room : vec_capacity new.pending ≡ vec_capacity old.pending
    pub awaiting : Arena D
    pub awaits : AwaitsLeaf old awaiting record { number = id; rect = rect }
    pub marks : ℕ
    pub turns : PlacesInTurn awaiting 0 new marks work
    pub leaf : ℕ
    pub path : List ℕ
    pub leads : LeadsTo old.nodes 0 old.level old.root rect leaf path
    pub joins : length (cells_at old.nodes leaf) < old.capacity →
        JoinsLeaf old new leaf path record { number = id; rect = rect }
    pub halves : old.level ≡ 0 → old.capacity ≤ length (cells_at old.nodes leaf) →
        HalvesRoot old new record { number = id; rect = rect }
    pub placements : work.placements ≡ 1 + reinsertion_share old.capacity * work.reinsertions
    pub few : work.reinsertions ≤ new.level
    pub nodes : slab_len new.nodes + old.level ≡ slab_len old.nodes + work.splits + new.level
    pub none : work.reinsertions ≡ 0 ↔ ((length (cells_at old.nodes leaf) < old.capacity) ⊎ (old.level ≡ 0))
    pub plain : work.reinsertions ≡ 0 → new.level ≡ old.level + work.splits
