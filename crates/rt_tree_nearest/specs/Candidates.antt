-- What a search keeps, and what it has still to see. No public clause cites this module.
use Rattle.std.specs.Prelude.{◌≡◌, ℕ, ◌^◌, ◌<◌, ◌≤◌, ◌⊎◌, Bool, true, false, suc, List, [], ◌∷◌, ◌++◌, map, filter, take, length, All, Contains, count_by, nat_le}
use Rattle.std.specs.declared.cmp.Ordering.{Ordering}
use Rattle.std.specs.declared.cmp.Reverse.{Reverse}
use Rattle.std.specs.Ordering.{ordering_then, nat_cmp, int_cmp, is_gt}
use Rattle.std.specs.List.Sorted.{IsPermutation, IsSorted}
use Rattle.std.specs.BinaryHeap.{IsHeap, KeepsHeap, heap_items}
use Rattle.std.specs.declared.alloc.Global.{Global}
use Rattle.std.specs.declared.collections.BinaryHeap.{BinaryHeap}
use Rattle.rt_box.specs.declared.interval.Interval.{Interval}
use Rattle.rt_box.specs.Bits.{Tells}
use Rattle.rt_box.specs.Rect.{IsBox}
use Rattle.rt_box.specs.Window.{Admits}
use Rattle.rt_tree_choice.specs.Sorting.{sort_by}
use Rattle.rt_tree_node.specs.declared.arena.Arena.{Arena}
use Rattle.rt_tree_node.specs.declared.cell.Cell.{Cell}
use Rattle.rt_tree_node.specs.Node.{NodeCells}
use Rattle.rt_tree_node.specs.Places.{key_of, cells_at}
use Rattle.rt_tree_walk.specs.declared.searching.Row.{Row}
use Rattle.rt_tree_nearest.specs.declared.candidate.Candidate.{Candidate}
use Rattle.rt_tree_nearest.specs.declared.candidate.Branch.{Branch}
use Rattle.rt_tree_nearest.specs.declared.keep.Kept.{Kept}
use Rattle.rt_tree_nearest.specs.declared.keep.Kept.TheVariants.{Few, Full}
use Rattle.rt_tree_nearest.specs.declared.narrow.Near.{Near}
use Rattle.rt_tree_nearest.specs.declared.query.Query.{Query}
use Rattle.rt_tree_walk.specs.Rows.{rows_in}
use Rattle.rt_tree_nearest.specs.Nearest.{box_distance, by_nearness_to}

-- a distance beyond a limit: some number of 128 bits lies between
abbrev pub IsBeyond : ℕ → ℕ → Type 0
IsBeyond limit distance = (n : ℕ) × (n < 2 ^ 128) × (limit < n) × (n ≤ distance)

-- ---- nodes
-- the order of the heap of nodes, whose greatest comes first
abbrev pub compare_branches : Reverse Branch → Reverse Branch → Ordering
compare_branches x y = nat_cmp y.0.distance x.0.distance

-- a window that admits each box within the limit
abbrev pub AdmitsNear : ℕ → List Interval → ℕ → List Interval → Type 0
AdmitsNear axes target limit window = (b : List Interval) → IsBox axes b → box_distance b target ≤ limit → Admits window b

module _ {D : ℕ} where
  -- a cell above the leaves
  abbrev pub branch_of : List Interval → Cell D → Branch
  branch_of target c = record { distance = box_distance c.rect target; key = key_of c }

  abbrev pub queued : List Interval → Cell D → Reverse Branch
  queued target c = record { 0 = branch_of target c }

  -- the cells that aren't farther than `most`
  abbrev pub is_near : List Interval → ℕ → Cell D → Bool
  is_near target most c = nat_le (box_distance c.rect target) most

  -- these cells come into the heap; distances have 128 bits
  pub record Queues (target : List Interval) (most : ℕ) (cells : List (Cell D)) (old new : List (Reverse Branch)) : Type 0 where
    pub moved : IsPermutation (old ++ map (queued target) (filter (is_near target most) cells)) new
    pub fits : All (λ c. box_distance c.rect target < 2 ^ 128) cells
    pub order : KeepsHeap compare_branches old new

  -- ---- a query's window: it admits each box within the limit
  pub record IsAimed (q : Query D) : Type 0 where
    pub box : IsBox D q.target
    pub window : AdmitsNear D q.target q.limit q.window

  -- the bits tell which cells the window admits
  pub record PicksNear (q : Query D) (cells : List (Cell D)) (bits : ℕ) : Type 0 where
    pub few : length cells ≤ 64
    pub below : bits < 2 ^ length cells
    pub told : Tells (Admits q.window) (map (λ c. c.rect) cells) bits
    pub boxes : All (IsBox D) (map (λ c. c.rect) cells)

  -- ---- rows
  -- a cell of a leaf
  abbrev pub candidate_of : List Interval → Cell D → Candidate D
  candidate_of target c = record { distance = box_distance c.rect target; id = c.number; rect = c.rect }

  -- the rows of a leaf
  abbrev pub candidates_of : Query D → NodeCells D → List (Candidate D)
  candidates_of q n = map (candidate_of q.target) n.cells

  abbrev pub own_row : Candidate D → Row D
  own_row c = record { id = c.id; rect = c.rect }

  abbrev pub compare : Candidate D → Candidate D → Ordering
  compare x y = ordering_then (nat_cmp x.distance y.distance) (int_cmp x.id y.id)

  -- the rows kept: no more than are asked for, and none too far
  pub record IsKept (q : Query D) (kept : List (Candidate D)) : Type 0 where
    pub few : length kept ≤ q.k
    pub within : All (λ c. c.distance ≤ q.limit) kept

  -- what is farther than `most` is beyond the limit, or farther than as many rows as are asked for
  pub record IsReach (q : Query D) (kept : List (Candidate D)) (most : ℕ) : Type 0 where
    pub within : most ≤ q.limit
    pub far : (n : ℕ) → most < n → (q.limit < n) ⊎ ((length kept ≡ q.k) × All (λ c. c.distance < n) kept)

  -- not in the answer: beyond the limit, or after as many rows as are asked for
  abbrev pub IsOut : Query D → List (Candidate D) → Candidate D → Type 0
  IsOut q kept c = IsBeyond q.limit c.distance ⊎ ((length kept ≡ q.k) × All (λ a. is_gt (compare a c) ≡ false) kept)

  -- some rows are seen: each is kept or left out, and what was out stays out
  pub record Keeps (q : Query D) (seen old new : List (Candidate D)) : Type 0 where
    pub left : List (Candidate D)
    pub same : IsPermutation (old ++ seen) (new ++ left)
    pub out : All (IsOut q new) left
    pub stays : (c : Candidate D) → IsOut q old c → IsOut q new c
    pub kept : IsKept q new

  -- ---- a node
  -- the rows of a leaf are seen; of another node's children those come into the heap that aren't too far
  pub record Explores (q : Query D) (n : NodeCells D) (kept kept1 : List (Candidate D)) (heap heap1 : List (Reverse Branch)) : Type 0 where
    pub rows : n.level ≡ 0 → Keeps q (map (candidate_of q.target) n.cells) kept kept1 × (heap1 ≡ heap)
    pub nodes : (l : ℕ) → n.level ≡ suc l → (kept1 ≡ kept) × ((most : ℕ) × IsReach q kept most × Queues q.target most n.cells heap heap1)

  -- ---- a nearer limit
  -- a cell of the node names the node at the key
  abbrev pub NamesKey : NodeCells D → ℕ → Type 0
  NamesKey n key = (c : Cell D) × Contains n.cells c × (key ≡ key_of c)

  -- the limit is no farther than the query's, and the tree has as many rows within it as are asked for
  pub record IsNearLimit (t : Arena D) (q : Query D) (limit : ℕ) : Type 0 where
    pub within : limit ≤ q.limit
    pub enough : q.k ≤ count_by (λ r. nat_le (box_distance r.rect q.target) limit) (rows_in t)

  -- the query itself, or it with such a limit
  abbrev pub IsNarrowed : Arena D → Query D → Query D → Type 0
  IsNarrowed t q nearer = (nearer ≡ q) ⊎ ((limit : ℕ) × IsNearLimit t q limit × IsAimed nearer × (nearer ≡ record { target = q.target; k = q.k; limit = limit; window = nearer.window }))

  -- ---- the answer
  -- the rows of some candidates, in order
  pub record IsOrdered (kept : List (Candidate D)) (rows : List (Row D)) : Type 0 where
    pub sorted : List (Candidate D)
    pub same : IsPermutation kept sorted
    pub order : IsSorted compare sorted
    pub own : rows ≡ map own_row sorted

  -- whatever test tells the rows within the limit: of those that pass it, the first k in order
  abbrev pub IsAnswer : Arena D → Query D → List (Row D) → Type 0
  IsAnswer t q rows =
      (near : Row D → Bool) → ((r : Row D) → IsBeyond q.limit (box_distance r.rect q.target) → near r ≡ false) →
      ((r : Row D) → box_distance r.rect q.target ≤ q.limit → near r ≡ true) →
      rows ≡ take q.k (filter near (sort_by (by_nearness_to q.target) (rows_in t)))

  -- ---- the same of lists and heaps
  abbrev pub items_in : Kept D → List (Candidate D)
  items_in (Few rows) = rows.items
  items_in (Full heap) = heap_items heap

  -- a list has room for more; a heap has as many as are asked for, and its order
  abbrev pub HasShape : Query D → Kept D → Type 0
  HasShape q (Few rows) = length rows.items < q.k
  HasShape q (Full heap) = (length (heap_items heap) ≡ q.k) × IsHeap compare (heap_items heap)

  pub record IsKeptIn (q : Query D) (kept : Kept D) : Type 0 where
    pub rows : IsKept q (items_in kept)
    pub shape : HasShape q kept

  pub record KeepsFrom (q : Query D) (seen : List (Candidate D)) (old new : Kept D) : Type 0 where
    pub keeps : Keeps q seen (items_in old) (items_in new)
    pub shape : HasShape q new

  -- what is kept after the rows of the near leaf, if those were kept before
  pub record IsKeptAfter (t : Arena D) (q : Query D) (before : List (Candidate D)) (near : Near D) : Type 0 where
    pub keeps : Keeps q (map (candidate_of q.target) (cells_at t.nodes near.leaf)) before (items_in near.kept)
    pub shape : HasShape q near.kept

  -- a row is seen, and a heap stays full
  pub record ReplacesFrom (q : Query D) (c : Candidate D) (old new : BinaryHeap (Candidate D) Global) : Type 0 where
    pub keeps : Keeps q (c ∷ []) (heap_items old) (heap_items new)
    pub full : length (heap_items new) ≡ q.k
    pub ordered : IsHeap compare (heap_items new)

  -- what the near leaf knows is what is kept after the node's rows, if it is that node
  abbrev pub KnowsAt : Query D → ℕ → NodeCells D → Kept D → Near D → Type 0
  KnowsAt q key n kept near = near.leaf ≡ key → KeepsFrom q (candidates_of q n) kept near.kept

  abbrev pub QueuesFrom : List Interval → ℕ → List (Cell D) → BinaryHeap (Reverse Branch) Global → BinaryHeap (Reverse Branch) Global → Type 0
  QueuesFrom target most cells old new = Queues target most cells (heap_items old) (heap_items new)

  pub record ExploresFrom (q : Query D) (n : NodeCells D) (kept kept1 : Kept D) (branches branches1 : BinaryHeap (Reverse Branch) Global) : Type 0 where
    pub seen : Explores q n (items_in kept) (items_in kept1) (heap_items branches) (heap_items branches1)
    pub shape : HasShape q kept1
