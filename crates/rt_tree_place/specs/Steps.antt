-- What the parts of a placement do.
use Rattle.std.specs.Prelude.{◌≡◌, ◌≢◌, ◌⊎◌, ℕ, suc, ◌+◌, ◌≤◌, Bool, List, [], ◌∷◌, ◌++◌, Some, None, length, slice_get, slice_set, slice_index_or, All, Contains, vec_len, vec_capacity, IsSome, ℤ, pos, ◌<◌}
use Rattle.rt_box.specs.Rect.{IsBox, Holds}
use Rattle.rt_box.specs.Capacity.{least_fill, reinsertion_share}
use Rattle.slab.specs.Slab.{Slab, get, slab_len, ContainsKey, Updates}
use Rattle.rt_tree_choice.specs.declared.split.Cut.{Cut}
use Rattle.rt_tree_choice.specs.Split.{IsBestCut, first_group, second_group}
use Rattle.indexmap.specs.IndexMap.{IndexMap, get as leaf_of}
use Rattle.std.specs.Ordering.{int_eq}
use Rattle.rt_box.specs.declared.interval.Interval.{Interval}
use Rattle.rt_tree_subtree.specs.Subtree.{IsBestChild}
use Rattle.rt_tree_node.specs.declared.arena.Arena.{Arena}
use Rattle.rt_tree_node.specs.declared.arena.Work.{Work}
use Rattle.rt_tree_node.specs.declared.cell.Cell.{Cell}
use Rattle.rt_tree_node.specs.declared.cell.Pending.{Pending}
use Rattle.rt_tree_node.specs.Node.{NodeCells}
use Rattle.rt_tree_node.specs.Places.{key_of, picked, times_named, pending_nodes, rects, numbers, no_cell, hull_at, cells_at, level_at, parent_at, count_rows, pending_at}
use Rattle.rt_tree_node.specs.Sound.{NamesChild, IsLinked}
use Rattle.rt_tree_node.specs.Changes.{Puts, Changes}
use Rattle.rt_tree_node.specs.Homes.{Moves, KeepsIds}
use Rattle.rt_tree_node.specs.Open.{IsOpen}
use Rattle.rt_tree_node.specs.Whole.{IsSound}
use Rattle.rt_tree_place.specs.Path.{KeepsShape}
use Rattle.rt_tree_place.specs.Rules.{ReInserts, Parts}
use Rattle.rt_tree_place.specs.Way.{LeadsUp}

module _ {D : ℕ} where
  -- the way down from the root: each inner node has a cell, and each of its cells names a child
  pub record IsPassable (a : Slab (NodeCells D)) (root level : ℕ) : Type 0 where
    pub root_level : level_at a root ≡ Some level
    pub some : (key l : ℕ) → level_at a key ≡ Some (suc l) → 1 ≤ length (cells_at a key)
    pub children : (key l : ℕ) → level_at a key ≡ Some (suc l) → All (NamesChild a l key) (cells_at a key)

  -- the node that the best cell for the box names
  abbrev pub IsBestAt : Slab (NodeCells D) → ℕ → Bool → List Interval → ℕ → Type 0
  IsBestAt a key above_leaves rect child =
      (at : ℕ) × (c : Cell D) × IsBestChild above_leaves (rects (cells_at a key)) rect at
      × (slice_get (cells_at a key) at ≡ Some c) × (key_of c ≡ child)

  -- the cell is the node's last now; a row's entry leads there, a child's parent is that node
  pub record Attaches (old new : Arena D) (key : ℕ) (w : Pending D) : Type 0 where
    pub rest : new ≡ record old { nodes = new.nodes; leaves = new.leaves }
    pub row : w.level ≡ 0 → Moves old.leaves new.leaves w.cell.number key
        × Changes (λ n. record n { cells = n.cells ++ w.cell ∷ [] }) old.nodes new.nodes key
    pub child : 1 ≤ w.level → (new.leaves ≡ old.leaves)
        × (mid : Slab (NodeCells D)) × Changes (λ n. record n { parent = Some key }) old.nodes mid (key_of w.cell)
        × Changes (λ n. record n { cells = n.cells ++ w.cell ∷ [] }) mid new.nodes key

  -- there is room among the pending cells for those that the node gives up if it is overfull
  abbrev pub HasRoomToGiveUp : Arena D → ℕ → Type 0
  HasRoomToGiveUp t key = t.capacity < length (cells_at t.nodes key) → vec_len t.pending + 15 ≤ vec_capacity t.pending

  -- the cells name nodes, and those of the node name others than itself
  abbrev pub ArePresent : Slab (NodeCells D) → List (Cell D) → Type 0
  ArePresent a cells = All (λ c. ContainsKey a (key_of c)) cells

  abbrev pub NameOthers : Slab (NodeCells D) → ℕ → Type 0
  NameOthers a key = All (λ c. ContainsKey a (key_of c) × (key_of c ≢ key)) (cells_at a key)

  -- the overfull node keeps the near ones of its cells, and the far ones are pending
  pub record GivesUp (old new : Arena D) (key : ℕ) (n : NodeCells D) : Type 0 where
    pub near : List (Cell D)
    pub far : List (Cell D)
    pub chosen : ReInserts old.capacity n.cells near far
    pub nodes : Puts old.nodes new.nodes key (record n { cells = near })
    pub pending : new.pending.items ≡ old.pending.items ++ pending_at n.level far
    pub pending_room : vec_capacity new.pending ≡ vec_capacity old.pending
    pub rest : new ≡ record old { nodes = new.nodes; pending = new.pending }

  -- the cell at the position names the node at the key
  abbrev pub IsNamedAt : List (Cell D) → ℕ → ℕ → Type 0
  IsNamedAt cells at key = (at < length cells) × ((slice_index_or cells at no_cell).number ≡ pos key)

  -- the parent's cell that names the node has the least box around the node's cells already
  pub record HasLeastBox (a : Slab (NodeCells D)) (key parent : ℕ) : Type 0 where
    pub at : ℕ
    pub within : at < length (cells_at a parent)
    pub names : (d : Cell D) → key_of (slice_index_or (cells_at a parent) at d) ≡ key
    pub rect : (d : Cell D) → (slice_index_or (cells_at a parent) at d).rect ≡ hull_at a key

  -- the parent's cell that names the node has this box
  abbrev pub IsBoxAbove : Slab (NodeCells D) → ℕ → ℕ → List Interval → Type 0
  IsBoxAbove a key parent rect =
      (at : ℕ) × IsNamedAt (cells_at a parent) at key × (rect ≡ (slice_index_or (cells_at a parent) at no_cell).rect)

  -- the parent's cell that names the node holds the box
  abbrev pub IsHeldAbove : Slab (NodeCells D) → ℕ → ℕ → List Interval → Type 0
  IsHeldAbove a key parent rect =
      (at : ℕ) × IsNamedAt (cells_at a parent) at key × Holds (slice_index_or (cells_at a parent) at no_cell).rect rect

  -- if the parent's cell that names the node holds the box, it has the least box around the node's cells
  abbrev pub HasLeastWhereHeld : Slab (NodeCells D) → ℕ → List Interval → Type 0
  HasLeastWhereHeld a key rect = (parent at : ℕ) → parent_at a key ≡ Some parent → IsNamedAt (cells_at a parent) at key →
      Holds (slice_index_or (cells_at a parent) at no_cell).rect rect → HasLeastBox a key parent

  -- the parent's cell that names the node has the least box around the node's cells
  pub record Refits (old new : Slab (NodeCells D)) (key parent : ℕ) (n : NodeCells D) : Type 0 where
    pub at : ℕ
    pub cell : Cell D
    pub within : at < length n.cells
    pub number_is : cell.number ≡ pos key
    pub same_number : cell.number ≡ (slice_index_or n.cells at cell).number
    pub rect_is : cell.rect ≡ hull_at old key
    pub is_box : IsBox D cell.rect
    pub nodes : Puts old new parent (record n { cells = slice_set n.cells at cell })

  -- the nodes that the cells name have that parent now; levels and cells are the same everywhere, and every other
  -- node is the same. If these nodes were pending, all hang together as before
  pub record Adopts (old new : Slab (NodeCells D)) (key : ℕ) (cs : List (Cell D)) : Type 0 where
    pub parents : All (λ c. parent_at new (key_of c) ≡ Some key) cs
    pub levels : (x : ℕ) → level_at new x ≡ level_at old x
    pub cells : (x : ℕ) → cells_at new x ≡ cells_at old x
    pub others : (x : ℕ) → All (λ c. key_of c ≢ x) cs → get new x ≡ get old x
    pub linked : (root level : ℕ) (ws : List (Pending D)) → IsLinked old root level ws →
        All (λ c. 0 < times_named (key_of c) (pending_nodes ws)) cs → IsLinked new root level ws
    pub len : slab_len new ≡ slab_len old
    pub room : new.capacity ≡ old.capacity

module _ {D : ℕ} {S : Type 0} where
  -- the map has the ids of the cells
  abbrev pub AreKnown : IndexMap ℤ ℕ S → List (Cell D) → Type 0
  AreKnown leaves cells = All (λ c. IsSome (leaf_of int_eq leaves c.number)) cells

  -- the rows of the cells lie in that leaf now, and each other row in the leaf that it lay in
  pub record Rehouses (old new : IndexMap ℤ ℕ S) (leaf : ℕ) (cs : List (Cell D)) : Type 0 where
    pub keeps : KeepsIds old new
    pub here : All (λ c. leaf_of int_eq new c.number ≡ Some leaf) cs
    pub known : (id : ℤ) → IsSome (leaf_of int_eq old id) → IsSome (leaf_of int_eq new id)
    pub others : (id : ℤ) → All (λ c. id ≢ c.number) cs → leaf_of int_eq new id ≡ leaf_of int_eq old id

module _ {D : ℕ} where
  -- what the cells name stands in another node now: a row's entry leads there, a child's parent is that node
  pub record TakesOver (old new : Arena D) (key level : ℕ) (cs : List (Cell D)) : Type 0 where
    pub rest : new ≡ record old { nodes = new.nodes; leaves = new.leaves }
    pub rows : level ≡ 0 → Rehouses old.leaves new.leaves key cs × (new.nodes ≡ old.nodes)
    pub children : 1 ≤ level → Adopts old.nodes new.nodes key cs × (new.leaves ≡ old.leaves)

  -- the node keeps the first group of its cells, and the second one stands in a new node
  pub record Splits (old new : Arena D) (key : ℕ) (n : NodeCells D) (sibling : ℕ) : Type 0 where
    pub cut : Cut
    pub best : IsBestCut D (rects n.cells) old.capacity cut
    pub kept : Slab (NodeCells D)
    pub made : Slab (NodeCells D)
    pub moved : Arena D
    pub keeps : Puts old.nodes kept key (record n { cells = picked n.cells (first_group (rects n.cells) cut) })
    pub vacant : get kept sibling ≡ None
    pub makes : Updates kept made sibling (Some record { level = n.level; parent = n.parent; cells = [] })
    pub made_len : slab_len made ≡ slab_len kept + 1
    pub made_room : made.capacity ≡ kept.capacity
    pub key_fits : sibling < made.capacity
    pub takes : TakesOver (record old { nodes = made }) moved sibling n.level (picked n.cells (second_group (rects n.cells) cut))
    pub gives : Changes (λ m. record m { cells = m.cells ++ picked n.cells (second_group (rects n.cells) cut) }) moved.nodes new.nodes sibling
    pub rest : new ≡ record moved { nodes = new.nodes }

  -- a node and its parent, which alone may be out of shape
  pub record IsPair (t : Arena D) (key parent : ℕ) : Type 0 where
    pub opened : IsOpen (λ x. (x ≡ key) ⊎ (x ≡ parent)) t t.pending.items
    pub level : ℕ
    pub key_level : level_at t.nodes key ≡ Some level
    pub parent_level : level_at t.nodes parent ≡ Some (suc level)
    pub up : parent_at t.nodes key ≡ Some parent
    pub few : length (cells_at t.nodes parent) ≤ t.capacity

  -- the node has neither too many cells nor too few, and only the node and its parent may be out of shape; the rows, and
  -- what lies above or beside, are as before
  pub record Trims (old new : Arena D) (key parent : ℕ) : Type 0 where
    pub opened : IsOpen (λ x. (x ≡ key) ⊎ (x ≡ parent)) new new.pending.items
    pub rows : (test : Cell D → Bool) →
        count_rows test new.nodes new.pending.items ≡ count_rows test old.nodes old.pending.items
    pub least : least_fill old.capacity ≤ length (cells_at new.nodes key)
    pub most : length (cells_at new.nodes key) ≤ old.capacity
    pub levels : (x l : ℕ) → level_at old.nodes x ≡ Some l → level_at new.nodes x ≡ Some l
    pub parents : (x l i : ℕ) → level_at old.nodes x ≡ Some l → level_at old.nodes key ≡ Some i → i ≤ l →
        parent_at new.nodes x ≡ parent_at old.nodes x
    pub cells : (x l : ℕ) → level_at old.nodes x ≡ Some l → x ≢ key → x ≢ parent → cells_at new.nodes x ≡ cells_at old.nodes x
    pub ids : KeepsIds old.leaves new.leaves
    pub root : new.root ≡ old.root
    pub level : new.level ≡ old.level
    pub capacity : new.capacity ≡ old.capacity
    pub room : new.nodes.capacity ≡ old.nodes.capacity

  -- the node was split, and the new node's cell is the last of the parent's
  pub record Divides (old new : Arena D) (key parent : ℕ) : Type 0 where
    pub trims : Trims old new key parent
    pub grown : length (cells_at new.nodes parent) ≡ suc (length (cells_at old.nodes parent))
    pub pending : new.pending ≡ old.pending
    pub len : slab_len new.nodes ≡ slab_len old.nodes + 1
    pub cell : Cell D
    pub appended : cells_at new.nodes parent ≡ cells_at old.nodes parent ++ cell ∷ []
    pub apart : key_of cell ≢ parent
    pub parts : Parts old.capacity (cells_at old.nodes key) (cells_at new.nodes key) (cells_at new.nodes (key_of cell))

  -- the node has no longer too many cells; the parent has at most one cell more
  pub record Relieves (old new : Arena D) (key parent : ℕ) : Type 0 where
    pub trims : Trims old new key parent
    pub kept : length (cells_at old.nodes parent) ≤ length (cells_at new.nodes parent)
    pub grown : length (cells_at new.nodes parent) ≤ suc (length (cells_at old.nodes parent))
    pub pending_room : vec_capacity new.pending ≡ vec_capacity old.pending
    pub names : (z : ℕ) → times_named z (cells_at old.nodes parent) ≤ times_named z (cells_at new.nodes parent)
    pub still : length (cells_at old.nodes key) ≤ old.capacity → new ≡ old

  -- the node isn't overfull, and no node and no cell came or went
  pub record LetsBe (old new : Arena D) (key parent marks marks1 : ℕ) (work work1 : Work) : Type 0 where
    pub fits : length (cells_at old.nodes key) ≤ old.capacity
    pub pending : new.pending ≡ old.pending
    pub leaves : new.leaves ≡ old.leaves
    pub len : slab_len new.nodes ≡ slab_len old.nodes
    pub above : length (cells_at new.nodes parent) ≡ length (cells_at old.nodes parent)
    pub marks_same : marks1 ≡ marks
    pub placements : work1.placements ≡ work.placements
    pub splits : work1.splits ≡ work.splits
    pub reinsertions : work1.reinsertions ≡ work.reinsertions

  -- the overfull node was split, since its level is marked; the new node's cell is the last of the parent's
  pub record SplitsMarked (old new : Arena D) (key parent marks marks1 : ℕ) (work work1 : Work) : Type 0 where
    pub full : old.capacity < length (cells_at old.nodes key)
    pub level : ℕ
    pub here : level_at old.nodes key ≡ Some level
    pub marked : level < marks
    pub cell : Cell D
    pub parts : Parts old.capacity (cells_at old.nodes key) (cells_at new.nodes key) (cells_at new.nodes (key_of cell))
    pub apart : key_of cell ≢ parent
    pub appended : numbers (cells_at new.nodes parent) ≡ numbers (cells_at old.nodes parent) ++ cell.number ∷ []
    pub pending : new.pending ≡ old.pending
    pub len : slab_len new.nodes ≡ slab_len old.nodes + 1
    pub above : length (cells_at new.nodes parent) ≡ suc (length (cells_at old.nodes parent))
    pub marks_same : marks1 ≡ marks
    pub placements : work1.placements ≡ work.placements
    pub splits : work1.splits ≡ suc work.splits
    pub reinsertions : work1.reinsertions ≡ work.reinsertions

  -- the overfull node gave up its far cells, since its level wasn't marked, and now it is
  pub record GivesUnmarked (old new : Arena D) (key parent marks marks1 : ℕ) (work work1 : Work) : Type 0 where
    pub full : old.capacity < length (cells_at old.nodes key)
    pub level : ℕ
    pub here : level_at old.nodes key ≡ Some level
    pub unmarked : marks ≤ level
    pub marked : marks1 ≡ suc level
    pub far : List (Cell D)
    pub chosen : ReInserts old.capacity (cells_at old.nodes key) (cells_at new.nodes key) far
    pub share : length far ≡ reinsertion_share old.capacity
    pub pending : new.pending.items ≡ old.pending.items ++ pending_at level far
    pub beside : numbers (cells_at new.nodes parent) ≡ numbers (cells_at old.nodes parent)
    pub len : slab_len new.nodes ≡ slab_len old.nodes
    pub above : length (cells_at new.nodes parent) ≡ length (cells_at old.nodes parent)
    pub placements : work1.placements ≡ work.placements
    pub splits : work1.splits ≡ work.splits
    pub reinsertions : work1.reinsertions ≡ suc work.reinsertions

  -- OverflowTreatment below the root: what became of a node that might be overfull; levels below `marks` are marked
  abbrev pub Treats : Arena D → Arena D → ℕ → ℕ → ℕ → ℕ → Work → Work → Type 0
  Treats old new key parent marks marks1 work work1 =
      LetsBe old new key parent marks marks1 work work1 ⊎ SplitsMarked old new key parent marks marks1 work work1
      ⊎ GivesUnmarked old new key parent marks marks1 work work1

  -- sound, except that the node at the key may have one cell too many, and that the cell above it may have another box
  -- than the least one; parents lead up from it to the root
  pub record IsRising (t : Arena D) (key : ℕ) : Type 0 where
    pub sound : IsSound t (Some key)
    pub level : ℕ
    pub here : level_at t.nodes key ≡ Some level
    pub steps : ℕ
    pub way : LeadsUp t.nodes t.root steps key
    pub some : 1 ≤ length (cells_at t.nodes key)
    pub filled : key ≢ t.root → least_fill t.capacity ≤ length (cells_at t.nodes key)
    pub most : length (cells_at t.nodes key) ≤ t.capacity + 1

  -- nothing is left to be done on the way up: the node isn't overfull, and the cell above it has the least box
  pub record Rests (t : Arena D) (key parent : ℕ) : Type 0 where
    pub fits : length (cells_at t.nodes key) ≤ t.capacity
    pub box : HasLeastBox t.nodes key parent

  -- the rows stay, in the tree or pending, and the root, which has no fewer cells than before
  pub record KeepsRows (old new : Arena D) : Type 0 where
    pub rows : (test : Cell D → Bool) → count_rows test new.nodes new.pending.items ≡ count_rows test old.nodes old.pending.items
    pub ids : KeepsIds old.leaves new.leaves
    pub root : new.root ≡ old.root
    pub level : new.level ≡ old.level
    pub capacity : new.capacity ≡ old.capacity
    pub room : new.nodes.capacity ≡ old.nodes.capacity
    pub pending_room : vec_capacity new.pending ≡ vec_capacity old.pending
    pub top : length (cells_at old.nodes old.root) ≤ length (cells_at new.nodes new.root)

  -- a step up: the parent alone may be out of shape now. The cell that names the node has the least box, and the cells
  -- of other nodes are the same; if the node wasn't overfull, only that box changed
  pub record Lifts (old new : Arena D) (key parent marks marks1 : ℕ) (work work1 : Work) : Type 0 where
    pub next : IsRising new parent
    pub parent_is : parent_at old.nodes key ≡ Some parent
    pub up : (l : ℕ) → level_at old.nodes key ≡ Some l → level_at new.nodes parent ≡ Some (suc l)
    pub keeps : KeepsRows old new
    pub treats : Treats old new key parent marks marks1 work work1
    pub others : (x l : ℕ) → level_at old.nodes x ≡ Some l → x ≢ key → x ≢ parent → cells_at new.nodes x ≡ cells_at old.nodes x
    pub shape : length (cells_at old.nodes key) ≤ old.capacity → (path : List ℕ) → Contains path key → (k : ℕ) →
        KeepsShape old.nodes new.nodes path k
