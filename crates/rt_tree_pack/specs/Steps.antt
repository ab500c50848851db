-- The steps of packing. The root is there from the start, without cells, and alone out of shape. The cells that the nodes of a
-- level are made of are pending meanwhile, and so are those that name the nodes that were made.
use Rattle.std.specs.Prelude.{◌≡◌, ◌≢◌, ◌⊎◌, ℕ, suc, ◌+◌, ◌*◌, ◌/◌, ◌^◌, ◌≤◌, ◌<◌, Bool, true, false, ℤ, List, [], ◌∷◌, ◌++◌, None, Some, All, IsSome, length, count_by}
use Rattle.std.specs.Ordering.{int_eq}
use Rattle.indexmap.specs.IndexMap.{IndexMap, get as leaf_of}
use Rattle.slab.specs.Slab.{get, slab_len, ContainsKey}
use Rattle.rt_box.specs.Capacity.{IsCapacity, least_fill}
use Rattle.rt_tree_node.specs.declared.arena.Arena.{Arena}
use Rattle.rt_tree_node.specs.declared.cell.Cell.{Cell}
use Rattle.rt_tree_node.specs.declared.cell.Pending.{Pending}
use Rattle.rt_tree_node.specs.Node.{NodeCells}
use Rattle.rt_tree_node.specs.Places.{key_of, cells_at, level_at, count_rows, pending_at}
use Rattle.rt_tree_node.specs.Changes.{Puts}
use Rattle.rt_tree_node.specs.Homes.{KeepsIds}
use Rattle.rt_tree_node.specs.Open.{IsOpen}
use Rattle.rt_tree_place.specs.NewRow.{Learns}

-- a run of the cells that are left: as many as a node holds, but so few that those left after it can fill another
pub record IsRun (capacity left run : ℕ) : Type 0 where
  pub least : least_fill capacity ≤ run
  pub most : run ≤ capacity
  pub within : run ≤ left
  pub last : left ≤ capacity → run ≡ left
  pub enough : capacity < left → run + least_fill capacity ≤ left
  pub full : capacity + least_fill capacity ≤ left → run ≡ capacity

-- the root
abbrev pub is_top : ℕ → ℕ → Type 0
is_top root x = x ≡ root

-- the root, and a node that gets its cells
abbrev pub is_top_or : ℕ → ℕ → ℕ → Type 0
is_top_or root key x = (x ≡ root) ⊎ (x ≡ key)

module _ {S : Type 0} where
  -- a new id has an entry now, and no other has; an id that isn't new had one
  abbrev pub Enters : IndexMap ℤ ℕ S → IndexMap ℤ ℕ S → ℤ → ℕ → Bool → Type 0
  Enters old new id leaf true = (leaf_of int_eq old id ≡ None) × Learns old new id leaf
  Enters old new id leaf false = IsSome (leaf_of int_eq old id)

module _ {D : ℕ} where
  -- what the cells name is there: rows have entries, and children are nodes other than the one at the key
  pub record MayFill (t : Arena D) (key level : ℕ) (cs : List (Cell D)) : Type 0 where
    pub rows : level ≡ 0 → All (λ c. IsSome (leaf_of int_eq t.leaves c.number)) cs
    pub children : 1 ≤ level → All (λ c. ContainsKey t.nodes (key_of c) × (key_of c ≢ key)) cs

  -- the cells were pending and stand in the node at the key, after those that it had
  pub record Fills (old new : Arena D) (key level : ℕ) (cs : List (Cell D)) : Type 0 where
    pub rest : new ≡ record old { nodes = new.nodes; leaves = new.leaves }
    pub here : (n : NodeCells D) → get old.nodes key ≡ Some n → get new.nodes key ≡ Some (record n { cells = n.cells ++ cs })
    pub others : (x : ℕ) → x ≢ key → (1 ≤ level → All (λ c. key_of c ≢ x) cs) → get new.nodes x ≡ get old.nodes x
    pub kept : (x : ℕ) → x ≢ key → cells_at new.nodes x ≡ cells_at old.nodes x
    pub levels : (x : ℕ) → level_at new.nodes x ≡ level_at old.nodes x
    pub ids : KeepsIds old.leaves new.leaves
    pub len : slab_len new.nodes ≡ slab_len old.nodes
    pub room : new.nodes.capacity ≡ old.nodes.capacity
    pub opened : (n : NodeCells D) (ys : List (Pending D)) → get old.nodes key ≡ Some n → n.level ≡ level →
        IsOpen (is_top_or old.root key) old (pending_at level cs ++ ys) → IsOpen (is_top_or old.root key) new ys
    pub rows : (n : NodeCells D) (ys : List (Pending D)) → get old.nodes key ≡ Some n → n.level ≡ level →
        IsOpen (is_top_or old.root key) old (pending_at level cs ++ ys) → (test : Cell D → Bool) →
        count_rows test new.nodes ys ≡ count_rows test old.nodes (pending_at level cs ++ ys)

  -- the cells may be those of a node of that level
  pub record MayPack (t : Arena D) (level : ℕ) (cs : List (Cell D)) : Type 0 where
    pub cap : IsCapacity t.capacity
    pub least : least_fill t.capacity ≤ length cs
    pub most : length cs ≤ t.capacity
    pub below : level < t.level
    pub rows : level ≡ 0 → All (λ c. IsSome (leaf_of int_eq t.leaves c.number)) cs
    pub children : 1 ≤ level → All (λ c. ContainsKey t.nodes (key_of c)) cs

  -- a cell is pending above that level
  abbrev pub above : ℕ → List (Cell D) → List (Pending D)
  above level cs = pending_at (suc level) cs

  -- the cells were pending and stand in a new node of that level, which a pending cell names
  pub record PacksNode (old new : Arena D) (level : ℕ) (cs : List (Cell D)) (cell : Cell D) : Type 0 where
    pub rest : new ≡ record old { nodes = new.nodes; leaves = new.leaves }
    pub ids : KeepsIds old.leaves new.leaves
    pub len : slab_len new.nodes ≡ slab_len old.nodes + 1
    pub room : new.nodes.capacity ≡ old.nodes.capacity
    pub fresh : get old.nodes (key_of cell) ≡ None
    pub made : cells_at new.nodes (key_of cell) ≡ cs
    pub kept : (x : ℕ) → x ≢ key_of cell → cells_at new.nodes x ≡ cells_at old.nodes x
    pub opened : (ys : List (Pending D)) → IsOpen (is_top old.root) old (pending_at level cs ++ ys) →
        IsOpen (is_top old.root) new (ys ++ above level (cell ∷ []))
    pub rows : (ys : List (Pending D)) → IsOpen (is_top old.root) old (pending_at level cs ++ ys) → (test : Cell D → Bool) →
        count_rows test new.nodes (ys ++ above level (cell ∷ [])) ≡ count_rows test old.nodes (pending_at level cs ++ ys)
    pub top : (ys : List (Pending D)) → IsOpen (is_top old.root) old (pending_at level cs ++ ys) →
        get new.nodes old.root ≡ get old.nodes old.root

  -- the cells are pending for a level below the root's, which has no cells, and nothing else is pending
  pub record IsBelowRoot (t : Arena D) (level : ℕ) (cells : List (Cell D)) : Type 0 where
    pub opened : IsOpen (is_top t.root) t (pending_at level cells)
    pub empty : cells_at t.nodes t.root ≡ []
    pub below : level < t.level

  -- of the cells of a level, those from `start` on are pending, and those that name the nodes made of the others
  pub record PacksUpTo (old new : Arena D) (level : ℕ) (cells : List (Cell D)) (left next : List (Cell D)) : Type 0 where
    pub frame : new ≡ record old { nodes = new.nodes; leaves = new.leaves }
    pub ids : KeepsIds old.leaves new.leaves
    pub room : new.nodes.capacity ≡ old.nodes.capacity
    pub opened : IsOpen (is_top old.root) new (pending_at level left ++ above level next)
    pub empty : cells_at new.nodes old.root ≡ []
    pub rows : (test : Cell D → Bool) →
        count_rows test new.nodes (pending_at level left ++ above level next) ≡ count_rows test old.nodes (pending_at level cells)
    pub len : slab_len new.nodes ≡ slab_len old.nodes + length next
    pub filled : 1 ≤ length left → least_fill old.capacity ≤ length left
    pub many : length cells ≤ length next * old.capacity + length left
    pub full : old.capacity < length left → length next * old.capacity + length left ≤ length cells
    pub more : 1 ≤ length left → length next * old.capacity + 1 ≤ length cells
    pub few : length next * old.capacity + 1 ≤ length cells + old.capacity

  -- the root, which has no cells, is a level higher
  pub record LiftsRoot (old new : Arena D) : Type 0 where
    pub rest : new ≡ record old { nodes = new.nodes; level = new.level }
    pub level : new.level ≡ suc old.level
    pub puts : Puts old.nodes new.nodes old.root record { level = suc old.level; parent = None; cells = [] }

  -- the levels below the root's are packed; the cells that name the nodes of the last of them are pending, or the rows if
  -- the root is a leaf
  pub record PacksBelow (old new : Arena D) (rows cells : List (Cell D)) : Type 0 where
    pub frame : new ≡ record old { nodes = new.nodes; leaves = new.leaves; level = new.level }
    pub ids : KeepsIds old.leaves new.leaves
    pub room : new.nodes.capacity ≡ old.nodes.capacity
    pub opened : IsOpen (is_top new.root) new (pending_at new.level cells)
    pub empty : cells_at new.nodes new.root ≡ []
    pub rows_are : (test : Cell D → Bool) → count_rows test new.nodes (pending_at new.level cells) ≡ count_by test rows
    pub branched : 1 ≤ new.level → 2 ≤ length cells
    pub height : 2 ^ new.level * length cells ≤ length rows
    pub few : (new.capacity / 2) * slab_len new.nodes ≤ length rows + new.capacity / 2
    pub left : new.capacity < length cells → (new.capacity / 2) * slab_len new.nodes + length cells ≤ length rows + new.capacity / 2

  -- there is room for the nodes of those cells
  abbrev pub HasRoomToPack : Arena D → List (Cell D) → Type 0
  HasRoomToPack t cells = slab_len t.nodes * t.capacity + length cells ≤ t.nodes.capacity * t.capacity
