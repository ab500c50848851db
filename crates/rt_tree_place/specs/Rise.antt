-- The parts of a placement: a cell comes into a node, steps lead up from there, and an overfull root is split.
use Rattle.std.specs.Prelude.{◌≡◌, ◌≢◌, ◌⊎◌, ℕ, suc, ◌+◌, ◌-◌, ◌≤◌, ◌<◌, Bool, pos, List, [], ◌∷◌, ◌++◌, Some, length, Contains}
use Rattle.slab.specs.Slab.{Slab, slab_len}
use Rattle.rt_box.specs.Capacity.{reinsertion_share}
use Rattle.rt_tree_node.specs.declared.arena.Arena.{Arena}
use Rattle.rt_tree_node.specs.declared.arena.Work.{Work}
use Rattle.rt_tree_node.specs.declared.cell.Cell.{Cell}
use Rattle.rt_tree_node.specs.declared.cell.Pending.{Pending}
use Rattle.rt_tree_node.specs.Node.{NodeCells}
use Rattle.rt_tree_node.specs.Places.{key_of, cells_at, level_at, parent_at, count_rows, pending_at}
use Rattle.rt_tree_place.specs.Path.{LeadsTo, KeepsShape}
use Rattle.rt_tree_node.specs.Changes.{Changes}
use Rattle.rt_tree_node.specs.Open.{IsOpen}
use Rattle.rt_tree_node.specs.Whole.{IsWhole}
use Rattle.rt_tree_node.specs.Homes.{KeepsIds, Moves}
use Rattle.rt_tree_place.specs.Rules.{Parts}
use Rattle.rt_tree_place.specs.Steps.{IsRising, Rests, KeepsRows, Lifts}

module _ {D : ℕ} where
  -- with each node its parent is among the nodes of the path
  abbrev pub IsUpward : Slab (NodeCells D) → List ℕ → Type 0
  IsUpward a path = (k p : ℕ) → Contains path k → parent_at a k ≡ Some p → Contains path p

  -- only the boxes of cells that name nodes of the path changed, and the node at the key is one of the path
  pub record KeepsAllBut (old new : Arena D) (path : List ℕ) (key : ℕ) (work work1 : Work) : Type 0 where
    pub shape : (k : ℕ) → KeepsShape old.nodes new.nodes path k
    pub leaves : new.leaves ≡ old.leaves
    pub on : Contains path key
    pub fits : length (cells_at new.nodes key) ≤ new.capacity
    pub splits : work1.splits ≡ work.splits
    pub reinsertions : work1.reinsertions ≡ work.reinsertions

  -- no step was made yet
  pub record StartsAt (old new : Arena D) (from key marks marks1 : ℕ) (work work1 : Work) : Type 0 where
    pub same : new ≡ old
    pub key_is : key ≡ from
    pub marks_is : marks1 ≡ marks
    pub work_is : work1 ≡ work

  -- a step was made, and more, maybe: at the first the node gave up cells if it was overfull and no level marked
  pub record HasStepped (old : Arena D) (from level marks : ℕ) (work work1 : Work) : Type 0 where
    pub higher : 1 ≤ level
    pub again : old.capacity < length (cells_at old.nodes from) → marks ≡ 0 → work1.reinsertions ≡ suc work.reinsertions

  -- steps up from a node, one after the other, have come to another one; levels below the marks are marked
  pub data ClimbsTo (old : Arena D) (from marks : ℕ) : Arena D → ℕ → ℕ → Type 0 where
    none : ClimbsTo old from marks old from marks
    step : {t u : Arena D} {key parent marks1 marks2 : ℕ} {work1 work2 : Work} → ClimbsTo old from marks t key marks1 →
        Lifts t u key parent marks1 marks2 work1 work2 → ClimbsTo old from marks u parent marks2

  -- the steps up end at the root, or when nothing is left to be done
  pub record Ascends (old new : Arena D) (from marks marks1 : ℕ) : Type 0 where
    pub last : ℕ
    pub steps : ClimbsTo old from marks new last marks1
    pub ends : (last ≡ new.root) ⊎ ((parent : ℕ) × (parent_at new.nodes last ≡ Some parent) × Rests new last parent)

  -- Levels below `marks` are marked. A node of a level that wasn't gave up cells, which are pending beside those that
  -- are left, and the level is marked now.
  pub record InsertsAgain (old new : Arena D) (left : List (Pending D)) (marks marks1 : ℕ) (work work1 : Work) : Type 0 where
    pub level : ℕ
    pub unmarked : marks ≤ level
    pub marked : marks1 ≡ suc level
    pub inner : level < new.level
    pub far : List (Cell D)
    pub share : length far ≡ reinsertion_share old.capacity
    pub pending : new.pending.items ≡ left ++ pending_at level far
    pub counted : work1.reinsertions ≡ suc work.reinsertions

  -- no node gave up cells
  pub record InsertsNone (new : Arena D) (left : List (Pending D)) (marks marks1 : ℕ) (work work1 : Work) : Type 0 where
    pub marked : marks1 ≡ marks
    pub pending : new.pending.items ≡ left
    pub counted : work1.reinsertions ≡ work.reinsertions

  -- steps up have come to the node at the key; one node at most gave up cells, and from there on none is overfull
  pub record HasRisen (old new : Arena D) (from key marks marks1 : ℕ) (work work1 : Work) : Type 0 where
    pub rising : IsRising new key
    pub keeps : KeepsRows old new
    pub waits : (InsertsAgain old new old.pending.items marks marks1 work work1 × (length (cells_at new.nodes key) ≤ new.capacity))
        ⊎ InsertsNone new old.pending.items marks marks1 work work1
    pub placements : work1.placements ≡ work.placements
    pub splits : work.splits ≤ work1.splits
    pub few : work1.splits ≤ work.splits + rising.level
    pub len : slab_len new.nodes + work.splits ≡ slab_len old.nodes + work1.splits
    pub exact : length (cells_at old.nodes from) ≤ old.capacity → (path : List ℕ) → IsUpward old.nodes path → Contains path from →
        KeepsAllBut old new path key work work1
    pub first : StartsAt old new from key marks marks1 work work1 ⊎ HasStepped old from rising.level marks work work1

  -- a new root, one level higher, has one cell, which names the old one
  pub record Raises (old new : Arena D) : Type 0 where
    pub rising : IsRising new old.root
    pub up : parent_at new.nodes old.root ≡ Some new.root
    pub cell : Cell D
    pub alone : cells_at new.nodes new.root ≡ cell ∷ []
    pub names : cell.number ≡ pos old.root
    pub cells : cells_at new.nodes old.root ≡ cells_at old.nodes old.root
    pub others : (x l : ℕ) → level_at old.nodes x ≡ Some l → x ≢ old.root → (level_at new.nodes x ≡ Some l) × (cells_at new.nodes x ≡ cells_at old.nodes x)
    pub rows : (test : Cell D → Bool) → count_rows test new.nodes new.pending.items ≡ count_rows test old.nodes old.pending.items
    pub level : new.level ≡ suc old.level
    pub pending : new.pending ≡ old.pending
    pub leaves : new.leaves ≡ old.leaves
    pub capacity : new.capacity ≡ old.capacity
    pub len : slab_len new.nodes ≡ slab_len old.nodes + 1
    pub room : new.nodes.capacity ≡ old.nodes.capacity

  -- the root isn't overfull, and all is as it was
  pub record StaysRoot (old new : Arena D) (work work1 : Work) : Type 0 where
    pub fits : length (cells_at old.nodes old.root) ≤ old.capacity
    pub same : new ≡ old
    pub work_same : work1 ≡ work

  -- the overfull root was split, and the nodes of the two groups are the children of a new root, in this order; the
  -- cells of other nodes are the same
  pub record SplitsRoot (old new : Arena D) (work work1 : Work) : Type 0 where
    pub full : old.capacity < length (cells_at old.nodes old.root)
    pub first : Cell D
    pub second : Cell D
    pub parts : Parts old.capacity (cells_at old.nodes old.root) (cells_at new.nodes (key_of first)) (cells_at new.nodes (key_of second))
    pub height : new.level ≡ suc old.level
    pub top : cells_at new.nodes new.root ≡ first ∷ second ∷ []
    pub others : (x l : ℕ) → level_at old.nodes x ≡ Some l → x ≢ old.root → cells_at new.nodes x ≡ cells_at old.nodes x
    pub len : slab_len new.nodes ≡ slab_len old.nodes + 2
    pub splits : work1.splits ≡ suc work.splits

  -- no node is out of shape any more: the root, which alone might be, was split if it was overfull
  pub record Grows (old new : Arena D) (work work1 : Work) : Type 0 where
    pub whole : IsWhole new
    pub rows : (test : Cell D → Bool) → count_rows test new.nodes new.pending.items ≡ count_rows test old.nodes old.pending.items
    pub ids : KeepsIds old.leaves new.leaves
    pub capacity : new.capacity ≡ old.capacity
    pub room : new.nodes.capacity ≡ old.nodes.capacity
    pub pending : new.pending ≡ old.pending
    pub placements : work1.placements ≡ work.placements
    pub reinsertions : work1.reinsertions ≡ work.reinsertions
    pub split : StaysRoot old new work work1 ⊎ SplitsRoot old new work work1

  -- a tree that is sound, with a cell on its way besides the pending ones
  abbrev pub IsPending : Arena D → Pending D → Type 0
  IsPending t entry = IsOpen (λ x. ⊥) t (t.pending.items ++ entry ∷ [])

  -- the cell is the last of the node of its level that best children lead its box to, from the root down
  pub record Enters (old new : Arena D) (entry : Pending D) (key : ℕ) : Type 0 where
    pub rising : IsRising new key
    pub level : level_at old.nodes key ≡ Some entry.level
    pub path : List ℕ
    pub leads : LeadsTo old.nodes entry.level (old.level - entry.level) old.root entry.cell.rect key path
    pub rows : (test : Cell D → Bool) →
        count_rows test new.nodes new.pending.items ≡ count_rows test old.nodes (old.pending.items ++ entry ∷ [])
    pub ids : KeepsIds old.leaves new.leaves
    pub levels : (x : ℕ) → level_at new.nodes x ≡ level_at old.nodes x
    pub cells : cells_at new.nodes key ≡ cells_at old.nodes key ++ entry.cell ∷ []
    pub others : (x : ℕ) → x ≢ key → cells_at new.nodes x ≡ cells_at old.nodes x
    pub pending : new.pending ≡ old.pending
    pub root : new.root ≡ old.root
    pub height : new.level ≡ old.level
    pub capacity : new.capacity ≡ old.capacity
    pub len : slab_len new.nodes ≡ slab_len old.nodes
    pub room : new.nodes.capacity ≡ old.nodes.capacity
    pub row : entry.level ≡ 0 → Moves old.leaves new.leaves entry.cell.number key
        × Changes (λ n. record n { cells = n.cells ++ entry.cell ∷ [] }) old.nodes new.nodes key
