-- What the placing of one pending cell comes to (Beckmann, Kriegel, Schneider, Seeger 1990, section 4.3: Insert and
-- OverflowTreatment; the list of pending cells is own).
use Rattle.std.specs.Prelude.{◌≡◌, ◌≢◌, ◌⊎◌, ℕ, suc, ◌+◌, ◌≤◌, ◌<◌, Bool, ℤ, List, [], ◌∷◌, ◌++◌, Some, length, vec_capacity}
use Rattle.std.specs.Ordering.{int_eq}
use Rattle.indexmap.specs.IndexMap.{get as leaf_of}
use Rattle.slab.specs.Slab.{slab_len}
use Rattle.rt_tree_node.specs.declared.arena.Arena.{Arena}
use Rattle.rt_tree_node.specs.declared.arena.Work.{Work}
use Rattle.rt_tree_node.specs.declared.cell.Cell.{Cell}
use Rattle.rt_tree_node.specs.declared.cell.Pending.{Pending}
use Rattle.rt_tree_node.specs.Places.{key_of, cells_at, level_at, parent_at, count_rows}
use Rattle.rt_tree_node.specs.Whole.{IsWhole, IsBranched}
use Rattle.rt_tree_node.specs.Homes.{KeepsIds}
use Rattle.rt_tree_place.specs.Path.{LeadsTo, KeepsShape}
use Rattle.rt_tree_place.specs.Rules.{Parts}
use Rattle.rt_tree_place.specs.Rise.{InsertsAgain, InsertsNone, Ascends, Enters, Grows}

module _ {D : ℕ} where
  -- the row is the leaf's last cell; of all else only the boxes of the cells above it changed
  pub record JoinsLeaf (old new : Arena D) (leaf : ℕ) (path : List ℕ) (cell : Cell D) : Type 0 where
    pub root : new.root ≡ old.root
    pub height : new.level ≡ old.level
    pub level : level_at new.nodes leaf ≡ level_at old.nodes leaf
    pub parent : parent_at new.nodes leaf ≡ parent_at old.nodes leaf
    pub cells : cells_at new.nodes leaf ≡ cells_at old.nodes leaf ++ cell ∷ []
    pub others : (k : ℕ) → k ≢ leaf → KeepsShape old.nodes new.nodes path k
    pub home : leaf_of int_eq new.leaves cell.number ≡ Some leaf
    pub homes : (other : ℤ) → other ≢ cell.number → leaf_of int_eq new.leaves other ≡ leaf_of int_eq old.leaves other

  -- a root that is a full leaf: the two groups of its cells and the row are the two leaves of a new root, in this
  -- order
  pub record HalvesRoot (old new : Arena D) (cell : Cell D) : Type 0 where
    pub first : Cell D
    pub second : Cell D
    pub parts : Parts old.capacity (cells_at old.nodes old.root ++ cell ∷ [])
        (cells_at new.nodes (key_of first)) (cells_at new.nodes (key_of second))
    pub height : new.level ≡ 1
    pub top : cells_at new.nodes new.root ≡ first ∷ second ∷ []

  -- a row goes to the leaf that best children lead its box to, which takes it if it isn't full; a full root is halved; of
  -- another full leaf, if no level is marked, cells are inserted again
  pub record TakesRow (old new : Arena D) (cell : Cell D) (marks : ℕ) (work work1 : Work) : Type 0 where
    pub leaf : ℕ
    pub path : List ℕ
    pub leads : LeadsTo old.nodes 0 old.level old.root cell.rect leaf path
    pub joins : length (cells_at old.nodes leaf) < old.capacity →
        JoinsLeaf old new leaf path cell × (work1.splits ≡ work.splits) × (work1.reinsertions ≡ work.reinsertions)
    pub halves : old.level ≡ 0 → old.capacity ≤ length (cells_at old.nodes leaf) →
        HalvesRoot old new cell × (work1.splits ≡ suc work.splits) × (work1.reinsertions ≡ work.reinsertions)
    pub again : 1 ≤ old.level → old.capacity ≤ length (cells_at old.nodes leaf) → marks ≡ 0 →
        work1.reinsertions ≡ suc work.reinsertions

  -- Insert, of one cell: it enters the node that best children lead its box to, steps lead up from there, and an
  -- overfull root is split
  pub record InsertsCell (old new : Arena D) (entry : Pending D) (marks marks1 : ℕ) : Type 0 where
    pub key : ℕ
    pub entered : Arena D
    pub enters : Enters old entered entry key
    pub risen : Arena D
    pub ascends : Ascends entered risen key marks marks1
    pub work : Work
    pub work1 : Work
    pub grows : Grows risen new work work1

  -- the last of the pending cells was inserted, step by step, and the tree is whole; at most one node gave up cells
  pub record PlacesLast (old new : Arena D) (marks marks1 : ℕ) (work work1 : Work) : Type 0 where
    pub left : List (Pending D)
    pub entry : Pending D
    pub was : old.pending.items ≡ left ++ entry ∷ []
    pub without : Arena D
    pub without_is : without ≡ record old { pending = without.pending }
    pub left_waits : without.pending.items ≡ left
    pub inserts : InsertsCell without new entry marks marks1
    pub whole : IsWhole new
    pub rows : (test : Cell D → Bool) →
        count_rows test new.nodes new.pending.items ≡ count_rows test old.nodes old.pending.items
    pub ids : KeepsIds old.leaves new.leaves
    pub capacity : new.capacity ≡ old.capacity
    pub room : new.nodes.capacity ≡ old.nodes.capacity
    pub pending_room : vec_capacity new.pending ≡ vec_capacity old.pending
    pub branched : IsBranched old → IsBranched new
    pub height : (new.level ≡ old.level) ⊎ (new.level ≡ suc old.level)
    pub waits : InsertsAgain old new left marks marks1 work work1 ⊎ InsertsNone new left marks marks1 work work1
    pub placements : work1.placements ≡ suc work.placements
    pub splits : work.splits ≤ work1.splits
    pub len : slab_len new.nodes + work.splits + old.level ≡ slab_len old.nodes + work1.splits + new.level
    pub row : entry.level ≡ 0 → TakesRow old new entry.cell marks work work1
