-- What a search takes from one node.
use Rattle.std.specs.Prelude.{◌≡◌, ◌⊎◌, ℕ, ◌/◌, ◌%◌, ◌==◌, ◌≤◌, ◌<◌, Bool, true, if◌then◌else◌, Contains, List, [], ◌∷◌, ◌++◌, length, map, All, count_by, Some}
use Rattle.std.specs.Prelude.{Vec, vec_capacity}
use Rattle.std.specs.declared.alloc.Global.{Global}
use Rattle.slab.specs.Slab.{Slab}
use Rattle.rt_box.specs.declared.interval.Interval.{Interval}
use Rattle.rt_box.specs.Window.{Admits, AdmitsWithin, IsReach, IsCore}
use Rattle.rt_tree_node.specs.declared.arena.Arena.{Arena}
use Rattle.rt_tree_node.specs.declared.cell.Cell.{Cell}
use Rattle.rt_tree_node.specs.Node.{NodeCells}
use Rattle.rt_tree_node.specs.Places.{key_of, times_named, cells_at, leaf_cells_at, inner_cells_at, level_at, hull_at}
use Rattle.rt_tree_node.specs.Below.{rows_below}
use Rattle.rt_tree_walk.specs.declared.searching.Query.{Query}
use Rattle.rt_tree_walk.specs.declared.searching.Reached.{Reached}
use Rattle.rt_tree_walk.specs.declared.searching.Row.{Row}
use Rattle.rt_tree_walk.specs.Search.{times, row_of, LeadsInto, AsksAdmitted}

-- the keys of the nodes reached
abbrev pub keys_of : List Reached → List ℕ
keys_of reached = map (λ d. d.key) reached

-- the keys of the nodes that came last
abbrev pub AppendsKeys : List ℕ → Vec Reached Global → Vec Reached Global → Type 0
AppendsKeys keys old new = keys_of new.items ≡ keys_of old.items ++ keys

module _ {D : ℕ} where
  -- a query has its window's reach and core
  pub record IsQuery (query : Query D) : Type 0 where
    pub reach : IsReach D query.window query.reach
    pub core : IsCore D query.window query.core

  -- the window admits each box that lies in the node's, and so the boxes of its cells
  pub record LiesInside (a : Slab (NodeCells D)) (window : List Interval) (key : ℕ) : Type 0 where
    pub boxes : AdmitsWithin D window (hull_at a key)
    pub cells : All (λ c. Admits window c.rect) (cells_at a key)

  -- a marked node lies inside the window
  abbrev pub MarkHolds : Slab (NodeCells D) → List Interval → Reached → Type 0
  MarkHolds a window d = d.is_inside ≡ true → LiesInside a window d.key

  -- one of the cells names the key, and the window admits each box in the cell's
  abbrev pub NamesInside : List Interval → List (Cell D) → ℕ → Type 0
  NamesInside window cells key = (c : Cell D) × Contains cells c × (key_of c ≡ key) × AdmitsWithin D window c.rect

  -- nodes came last; a marked one is named by a cell inside the window
  pub record Marks (window : List Interval) (cells : List (Cell D)) (old new : List Reached) : Type 0 where
    pub more : List Reached
    pub is : new ≡ old ++ more
    pub inside : All (λ d. d.is_inside ≡ true → NamesInside window cells d.key) more

  -- the rows of those cells that the window admits came last
  pub record TakesRows (window : List Interval) (cells : List (Cell D)) (old new : List (Row D)) : Type 0 where
    pub more : List (Row D)
    pub is : new ≡ old ++ more
    pub admitted : All (λ r. Admits window r.rect) more
    pub each : (test : Row D → Bool) → AsksAdmitted window test → count_by test more ≡ count_by (λ c. test (row_of c)) cells

  -- the cells whose bits are set; the lowest bit is the first cell's
  abbrev pub picked : List (Cell D) → ℕ → List (Cell D)
  picked [] bits = []
  picked (c ∷ cs) bits = if bits % 2 == 1 then c ∷ picked cs (bits / 2) else picked cs (bits / 2)

  -- the keys of the picked cells
  abbrev pub picked_keys : List (Cell D) → ℕ → List ℕ
  picked_keys cells bits = map key_of (picked cells bits)

  -- the keys came last of those cells in which the window may hold a box
  pub record TakesChildren (window : List Interval) (cells : List (Cell D)) (old new : List ℕ) : Type 0 where
    pub more : List ℕ
    pub is : new ≡ old ++ more
    pub each : (key : ℕ) → times key more ≤ times_named key cells
    pub named : (key : ℕ) → 0 < times key more → LeadsInto window cells key
    pub all : (key : ℕ) → LeadsInto window cells key → 0 < times key more

  -- both, at a leaf and at another node
  pub record Visits (a : Slab (NodeCells D)) (window : List Interval) (key : ℕ)
      (rows rows1 : List (Row D)) (keys keys1 : List ℕ) : Type 0 where
    pub rows_are : TakesRows window (leaf_cells_at a key) rows rows1
    pub children_are : TakesChildren window (inner_cells_at a key) keys keys1

  -- as many as the rows of those cells that the window admits
  pub record CountsRows (window : List Interval) (cells : List (Cell D)) (count : ℕ) : Type 0 where
    pub rows : List (Row D)
    pub takes : TakesRows window cells [] rows
    pub counted : count ≡ length rows

  -- both: a leaf's rows are counted, and another node's children come
  pub record VisitsCounting (a : Slab (NodeCells D)) (window : List Interval) (key count : ℕ) (keys keys1 : List ℕ) : Type 0 where
    pub rows_are : CountsRows window (leaf_cells_at a key) count
    pub children_are : TakesChildren window (inner_cells_at a key) keys keys1

  -- the rows below a node that lies inside are counted at once, and no children come
  pub record CountsBelow (a : Slab (NodeCells D)) (window : List Interval) (key count : ℕ) (keys keys1 : List ℕ) : Type 0 where
    pub inside : LiesInside a window key
    pub level : ℕ
    pub level_is : level_at a key ≡ Some level
    pub counted : count ≡ length (rows_below a level key)
    pub same : keys1 ≡ keys

  -- the same of the lists that a search keeps: it takes children, and goes into the next node
  abbrev pub ReachesChildren : Query D → List (Cell D) → Vec Reached Global → Vec Reached Global → Type 0
  ReachesChildren query cells old new = TakesChildren query.window cells (keys_of old.items) (keys_of new.items)

  abbrev pub MarksChildren : Arena D → Query D → Reached → Vec Reached Global → Vec Reached Global → Type 0
  MarksChildren t query next old new = Marks query.window (inner_cells_at t.nodes next.key) old.items new.items

  abbrev pub GoesInto : Arena D → Query D → Reached → Vec (Row D) Global → Vec (Row D) Global → Vec Reached Global → Vec Reached Global → Type 0
  GoesInto t query next rows rows1 old new =
      Visits t.nodes query.window next.key rows.items rows1.items (keys_of old.items) (keys_of new.items)

  abbrev pub GoesIntoCounting : Arena D → Query D → Reached → ℕ → Vec Reached Global → Vec Reached Global → Type 0
  GoesIntoCounting t query next count old new =
      VisitsCounting t.nodes query.window next.key count (keys_of old.items) (keys_of new.items)
      ⊎ CountsBelow t.nodes query.window next.key count (keys_of old.items) (keys_of new.items)

  -- ---- what doesn't fit
  -- a list has no room for the rows of those cells that the window admits
  pub record LacksRows (window : List Interval) (cells : List (Cell D)) (rows : Vec (Row D) Global) : Type 0 where
    pub rows1 : List (Row D)
    pub takes : TakesRows window cells rows.items rows1
    pub full : vec_capacity rows < length rows1

  -- a list has no room for the children that the query reaches
  pub record LacksNodes (query : Query D) (cells : List (Cell D)) (reached : Vec Reached Global) : Type 0 where
    pub keys1 : List ℕ
    pub takes : TakesChildren query.window cells (keys_of reached.items) keys1
    pub full : vec_capacity reached < length keys1

  -- one of the lists has no room for what they would hold after the visit
  pub record LacksRoom (t : Arena D) (query : Query D) (next : Reached) (rows : Vec (Row D) Global) (reached : Vec Reached Global) : Type 0 where
    pub rows1 : List (Row D)
    pub keys1 : List ℕ
    pub went : Visits t.nodes query.window next.key rows.items rows1 (keys_of reached.items) keys1
    pub full : (vec_capacity rows < length rows1) ⊎ (vec_capacity reached < length keys1)
