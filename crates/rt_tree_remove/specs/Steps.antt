-- The steps of a removal, and the trees between them: a cell leaves its leaf, underfull nodes are eliminated from there up
-- and their cells are then pending, the cells are inserted again, and a root with one child gives way (Guttman 1984, section
-- 3.3, with the Insert of Beckmann, Kriegel, Schneider, Seeger 1990, section 4; the order of pending cells is own).
use Rattle.std.specs.Prelude.{◌≡◌, ◌≢◌, ◌⊎◌, ℕ, suc, ◌+◌, ◌-◌, ◌*◌, ◌<◌, ◌≤◌, Bool, ℤ, List, [], ◌∷◌, ◌++◌, length, take, remove, slice_get, slice_index_or, if◌then◌else◌, None, Some, All, Contains, vec_len, vec_capacity, ◌<ℤ◌}
use Rattle.std.specs.List.{AllZip}
use Rattle.std.specs.Ordering.{int_eq}
use Rattle.slab.specs.Slab.{Slab, get}
use Rattle.indexmap.specs.IndexMap.{IndexMap, get as leaf_of, spare, index_map_len}
use Rattle.rt_box.specs.declared.interval.Interval.{Interval}
use Rattle.rt_box.specs.Capacity.{least_fill}
use Rattle.rt_tree_node.specs.declared.arena.Arena.{Arena}
use Rattle.rt_tree_node.specs.declared.arena.Work.{Work}
use Rattle.rt_tree_node.specs.declared.cell.Cell.{Cell}
use Rattle.rt_tree_node.specs.Node.{NodeCells}
use Rattle.rt_tree_node.specs.Places.{key_of, no_cell, cells_at, level_at, parent_at, count_rows, pending_at}
use Rattle.rt_tree_node.specs.Whole.{IsSound, IsWhole, IsBranched}
use Rattle.rt_tree_node.specs.Changes.{Changes}
use Rattle.rt_tree_node.specs.Homes.{KeepsIds}
use Rattle.rt_tree_place.specs.Path.{KeepsShape}
use Rattle.rt_tree_place.specs.Steps.{HasLeastBox}
use Rattle.rt_tree_place.specs.Turns.{PlacesInTurn}
use Rattle.rt_tree_remove.specs.declared.location.Location.{Location}
use Rattle.rt_tree_remove.specs.Above.{way_up}

-- the box touches no side of the other one, in which it lies
abbrev pub LiesInside : List Interval → List Interval → Type 0
LiesInside outer inner = AllZip (λ o i. (o.lo <ℤ i.lo) × (i.hi <ℤ o.hi)) outer inner

module _ {S : Type 0} where
  -- the map lost the id, and leads each other id to the leaf that it led to
  pub record Forgets (old new : IndexMap ℤ ℕ S) (id : ℤ) : Type 0 where
    pub gone : leaf_of int_eq new id ≡ None
    pub others : (other : ℤ) → other ≢ id → leaf_of int_eq new other ≡ leaf_of int_eq old other
    pub len : index_map_len new + 1 ≡ index_map_len old
    pub room : spare old ≤ spare new

  -- the same of the id that stands at the index
  abbrev pub ForgetsAt : IndexMap ℤ ℕ S → IndexMap ℤ ℕ S → ℕ → Type 0
  ForgetsAt old new index = (id : ℤ) (leaf : ℕ) → slice_get old.entries index ≡ Some (id, leaf) → Forgets old new id

module _ {D : ℕ} where
  -- the position of a cell that names the node at the key
  pub record IsNamedAt (cells : List (Cell D)) (key at : ℕ) : Type 0 where
    pub within : at < length cells
    pub names : (d : Cell D) → key_of (slice_index_or cells at d) ≡ key

  -- the box lies inside that of the parent's cell that names the node
  pub record LiesInsideNode (a : Slab (NodeCells D)) (key : ℕ) (rect : List Interval) : Type 0 where
    pub parent : ℕ
    pub at : ℕ
    pub up : parent_at a key ≡ Some parent
    pub named : IsNamedAt (cells_at a parent) key at
    pub inside : LiesInside (slice_index_or (cells_at a parent) at no_cell).rect rect

  -- if the box lies inside that of the parent's cell that names the node, that one is the least around the node's cells
  abbrev pub HasLeastWhereInside : Slab (NodeCells D) → ℕ → List Interval → Type 0
  HasLeastWhereInside a key rect = (inside : LiesInsideNode a key rect) → HasLeastBox a key inside.parent

  -- the node left the slab, and its cell left the parent
  pub record Dissolves (old new : Slab (NodeCells D)) (key parent at : ℕ) : Type 0 where
    pub place : IsNamedAt (cells_at old parent) key at
    pub gone : get new key ≡ None
    pub levels : (k : ℕ) → k ≢ key → level_at new k ≡ level_at old k
    pub parents : (k : ℕ) → k ≢ key → parent_at new k ≡ parent_at old k
    pub cells : (k : ℕ) → k ≢ key → k ≢ parent → cells_at new k ≡ cells_at old k
    pub shorter : cells_at new parent ≡ remove (cells_at old parent) at
    pub room : new.capacity ≡ old.capacity

  -- sound, except that the node at the key lost a cell and may have one too few, and that the cell above it may have
  -- another box; what is pending belongs below it
  pub record IsSoundBut (t : Arena D) (key : ℕ) : Type 0 where
    pub axes : D ≤ 3
    pub sound : IsSound t (Some key)
    pub level : ℕ
    pub here : level_at t.nodes key ≡ Some level
    pub below : All (λ w. w.level < level) t.pending.items
    pub few : length t.pending.items ≤ (least_fill t.capacity - 1) * level
    pub nearly : key ≢ t.root → least_fill t.capacity ≤ suc (length (cells_at t.nodes key))
    pub most : length (cells_at t.nodes key) ≤ t.capacity
    pub branched : key ≢ t.root → 2 ≤ length (cells_at t.nodes t.root)

  -- the same with some map of leaves, which needn't be the tree's own
  abbrev pub IsSoundButForMap : Arena D → ℕ → Type 0
  IsSoundButForMap t key = (other : Arena D) × IsSoundBut record t { leaves = other.leaves } key

  -- the rows stay, in the tree or pending, and the root, the map of leaves and the room
  pub record KeepsHomes (old new : Arena D) : Type 0 where
    pub rows : (test : Cell D → Bool) →
        count_rows test new.nodes new.pending.items ≡ count_rows test old.nodes old.pending.items
    pub leaves : new.leaves ≡ old.leaves
    pub root : new.root ≡ old.root
    pub level : new.level ≡ old.level
    pub capacity : new.capacity ≡ old.capacity
    pub room : new.nodes.capacity ≡ old.nodes.capacity
    pub pending_room : vec_capacity new.pending ≡ vec_capacity old.pending

  -- CondenseTree, a node that is filled (Guttman 1984, section 3.3): it stays, and of all cells only the box of the one that
  -- names it changed
  pub record Adjusts (old new : Arena D) (key parent : ℕ) : Type 0 where
    pub filled : least_fill old.capacity ≤ length (cells_at old.nodes key)
    pub pending : new.pending.items ≡ old.pending.items
    pub shape : (path : List ℕ) → Contains path key → (k : ℕ) → KeepsShape old.nodes new.nodes path k
    pub full : parent ≢ new.root → least_fill new.capacity ≤ length (cells_at new.nodes parent)

  -- CondenseTree, an underfull node (Guttman 1984, section 3.3): it is eliminated, and its cells are pending for nodes of its
  -- level, in the order that they had, after those that were pending already
  pub record Eliminates (old new : Arena D) (key parent : ℕ) : Type 0 where
    pub underfull : length (cells_at old.nodes key) < least_fill old.capacity
    pub level : ℕ
    pub here : level_at old.nodes key ≡ Some level
    pub at : ℕ
    pub dissolves : Dissolves old.nodes new.nodes key parent at
    pub orphans : new.pending.items ≡ old.pending.items ++ pending_at level (cells_at old.nodes key)

  -- a step up: the node is in order or gone, and its parent may now be out of shape
  pub record Climbs (old new : Arena D) (key parent : ℕ) : Type 0 where
    pub next : IsSoundBut new parent
    pub parent_is : parent_at old.nodes key ≡ Some parent
    pub up : (l : ℕ) → level_at old.nodes key ≡ Some l → level_at new.nodes parent ≡ Some (suc l)
    pub keeps : KeepsHomes old new
    pub condenses : Adjusts old new key parent ⊎ Eliminates old new key parent

  -- nothing is left to be done on the way up: the node has enough cells, and the cell above it has the least box
  pub record IsCondensed (t : Arena D) (key parent : ℕ) : Type 0 where
    pub filled : least_fill t.capacity ≤ length (cells_at t.nodes key)
    pub box : HasLeastBox t.nodes key parent

  -- the same, with the node's own parent
  abbrev pub EndsCondensed : Arena D → ℕ → Type 0
  EndsCondensed t key = (parent : ℕ) × (parent_at t.nodes key ≡ Some parent) × IsCondensed t key parent

  -- steps up from the leaf have come to the node at the key and taken nothing out: of all cells only the boxes of
  -- those that name nodes of the way up changed
  pub record Spares (old new : Arena D) (leaf key : ℕ) : Type 0 where
    pub pending : new.pending.items ≡ old.pending.items
    pub shape : (k : ℕ) → KeepsShape old.nodes new.nodes (way_up old.nodes old.level leaf) k
    pub full : key ≢ new.root → least_fill new.capacity ≤ length (cells_at new.nodes key)
    pub levels : ℕ
    pub level : ℕ
    pub here : level_at new.nodes key ≡ Some level
    pub height : levels + level ≡ old.level
    pub above : (k : ℕ) → Contains (way_up old.nodes levels key) k → Contains (way_up old.nodes old.level leaf) k

  -- the leaf is the root or has enough cells
  abbrev pub IsRoomy : Arena D → ℕ → Type 0
  IsRoomy t leaf = leaf ≢ t.root → least_fill t.capacity ≤ length (cells_at t.nodes leaf)

  -- steps up from the leaf, one after the other, have come to the node at the key
  pub data CondensesTo (old : Arena D) (leaf : ℕ) : Arena D → ℕ → Type 0 where
    none : CondensesTo old leaf old leaf
    step : {t u : Arena D} {key parent : ℕ} → CondensesTo old leaf t key → Climbs t u key parent → CondensesTo old leaf u parent

  -- the steps up from the leaf so far
  pub record IsClimbing (old t : Arena D) (leaf key : ℕ) : Type 0 where
    pub but : IsSoundBut t key
    pub keeps : KeepsHomes old t
    pub steps : CondensesTo old leaf t key
    pub exact : IsRoomy old leaf → Spares old t leaf key

  -- CondenseTree: no node is underfull any more, and the cells of those that were are pending. The steps up from the leaf end
  -- at the root, or when nothing is left to be done
  pub record Condenses (old new : Arena D) (leaf : ℕ) : Type 0 where
    pub whole : IsWhole new
    pub keeps : KeepsHomes old new
    pub few : length new.pending.items ≤ (least_fill new.capacity - 1) * new.level
    pub last : ℕ
    pub steps : CondensesTo old leaf new last
    pub ends : (last ≡ new.root) ⊎ EndsCondensed new last
    pub pending : IsRoomy old leaf → new.pending.items ≡ old.pending.items
    pub shape : IsRoomy old leaf → (k : ℕ) → KeepsShape old.nodes new.nodes (way_up old.nodes old.level leaf) k

  -- the steps up from the leaf so far, with each map of leaves that the old tree is sound with; only nodes changed
  pub record IsFitting (old t : Arena D) (leaf key : ℕ) : Type 0 where
    pub rest : t ≡ record old { nodes = t.nodes }
    pub climbing : (other : Arena D) → IsSoundBut record old { leaves = other.leaves } leaf →
        IsClimbing record old { leaves = other.leaves } record t { leaves = other.leaves } leaf key

  -- only nodes changed, and with each map of leaves that the old tree is sound with, the boxes above the leaf are fitted
  pub record FitsAbove (old new : Arena D) (leaf : ℕ) : Type 0 where
    pub rest : new ≡ record old { nodes = new.nodes }
    pub condenses : (other : Arena D) → IsSoundBut record old { leaves = other.leaves } leaf →
        Condenses record old { leaves = other.leaves } record new { leaves = other.leaves } leaf

  -- the root left the slab, and its child has no parent; all other nodes are the same
  pub record LosesRoot (old new : Slab (NodeCells D)) (root child : ℕ) : Type 0 where
    pub gone : get new root ≡ None
    pub levels : (k : ℕ) → k ≢ root → level_at new k ≡ level_at old k
    pub parents : (k : ℕ) → k ≢ root → k ≢ child → parent_at new k ≡ parent_at old k
    pub top : parent_at new child ≡ None
    pub cells : (k : ℕ) → k ≢ root → cells_at new k ≡ cells_at old k

  -- the tree is shortened (Guttman 1984, section 3.3, the last step of Delete): the only child of the root is the root, a
  -- level lower
  pub record ShortensTree (old new : Arena D) : Type 0 where
    pub level : old.level ≡ suc new.level
    pub cell : Cell D
    pub only : cells_at old.nodes old.root ≡ cell ∷ []
    pub root : new.root ≡ key_of cell
    pub nodes : LosesRoot old.nodes new.nodes old.root new.root

  -- an inner root with one child gave way to it, and another root stayed; what is pending is the same
  pub record GivesWay (old new : Arena D) : Type 0 where
    pub whole : IsWhole new
    pub branched : IsBranched new
    pub pending : new.pending ≡ old.pending
    pub rows : (test : Cell D → Bool) →
        count_rows test new.nodes new.pending.items ≡ count_rows test old.nodes old.pending.items
    pub leaves : new.leaves ≡ old.leaves
    pub capacity : new.capacity ≡ old.capacity
    pub room : new.nodes.capacity ≡ old.nodes.capacity
    pub way : (IsBranched old × (new ≡ old)) ⊎ ShortensTree old new

  -- the location of the row with the id: the map has the id at the index and leads it to the leaf, and there the cell at
  -- the position has it and the box
  pub record IsLocationOf (t : Arena D) (id : ℤ) (location : Location D) : Type 0 where
    pub entry : slice_get t.leaves.entries location.index ≡ Some (id, location.leaf)
    pub home : leaf_of int_eq t.leaves id ≡ Some location.leaf
    pub cell : slice_get (cells_at t.nodes location.leaf) location.at ≡ Some record { number = id; rect = location.rect }

  -- no other row moves if this one is removed: its leaf has a cell to spare
  abbrev pub MovesAlone : Arena D → Location D → Type 0
  MovesAlone t location = least_fill t.capacity < length (cells_at t.nodes location.leaf)

  -- the row with the id left its leaf, and its id the map of leaves
  pub record Takes (old new : Arena D) (id : ℤ) (leaf at : ℕ) (rect : List Interval) : Type 0 where
    pub but : IsSoundBut new leaf
    pub home : leaf_of int_eq old.leaves id ≡ Some leaf
    pub bottom : level_at new.nodes leaf ≡ Some 0
    pub cell : slice_get (cells_at old.nodes leaf) at ≡ Some record { number = id; rect = rect }
    pub change : Changes (λ n. record n { cells = remove n.cells at }) old.nodes new.nodes leaf
    pub forgets : Forgets old.leaves new.leaves id
    pub rows : (test : Cell D → Bool) →
        count_rows test new.nodes new.pending.items + (if test record { number = id; rect = rect } then 1 else 0)
        ≡ count_rows test old.nodes old.pending.items
    pub pending : new.pending ≡ old.pending
    pub root : new.root ≡ old.root
    pub level : new.level ≡ old.level
    pub capacity : new.capacity ≡ old.capacity

  -- pending cells placed one after the other, each by itself, the last first: no level is marked before
  pub data SettlesInTurn (old : Arena D) : Arena D → Type 0 where
    none : SettlesInTurn old old
    next : {t u : Arena D} {base marks : ℕ} {work : Work} → SettlesInTurn old t → suc base ≡ length t.pending.items →
        PlacesInTurn t base u marks work → u.pending.items ≡ take base t.pending.items → SettlesInTurn old u

  -- some of the pending cells were placed, the last first
  pub record Places (old new : Arena D) : Type 0 where
    pub whole : IsWhole new
    pub rows : (test : Cell D → Bool) →
        count_rows test new.nodes new.pending.items ≡ count_rows test old.nodes old.pending.items
    pub ids : KeepsIds old.leaves new.leaves
    pub capacity : new.capacity ≡ old.capacity
    pub room : new.nodes.capacity ≡ old.nodes.capacity
    pub pending_room : vec_capacity new.pending ≡ vec_capacity old.pending
    pub fewer : vec_len new.pending ≤ vec_len old.pending
    pub branched : IsBranched old → IsBranched new
    pub still : vec_len old.pending ≡ 0 → new ≡ old
    pub turns : SettlesInTurn old new
