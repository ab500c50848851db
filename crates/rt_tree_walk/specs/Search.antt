-- Searches by windows (Guttman 1984, section 3.1: a search descends into each child whose rectangle may hold what it looks for).
use Rattle.std.specs.Prelude.{◌≡◌, ℕ, suc, ◌+◌, ◌<◌, ◌≤◌, Bool, true, List, ◌++◌, length, Some, All, count_by, nat_eq, Contains, Vec, vec_capacity}
use Rattle.std.specs.declared.alloc.Global.{Global}
use Rattle.slab.specs.Slab.{slab_len}
use Rattle.rt_box.specs.declared.interval.Interval.{Interval}
use Rattle.rt_box.specs.Window.{Admits, MayHold}
use Rattle.rt_tree_node.specs.declared.arena.Arena.{Arena}
use Rattle.rt_tree_node.specs.declared.cell.Cell.{Cell}
use Rattle.rt_tree_node.specs.Places.{key_of, cells_at, level_at, count_rows}
use Rattle.rt_tree_walk.specs.declared.searching.Reached.{Reached}
use Rattle.rt_tree_walk.specs.declared.searching.Row.{Row}

-- how often the key is listed
abbrev pub times : ℕ → List ℕ → ℕ
times key keys = count_by (λ k. nat_eq k key) keys

module _ {D : ℕ} where
  -- the row of a leaf's cell
  abbrev pub row_of : Cell D → Row D
  row_of c = record { id = c.number; rect = c.rect }

  -- one of the cells names the key, and the window may hold a box in it
  abbrev pub LeadsInto : List Interval → List (Cell D) → ℕ → Type 0
  LeadsInto window cells key = (c : Cell D) × Contains cells c × (key_of c ≡ key) × MayHold D window c.rect

  -- the root is reached, and of an inner node that is reached each child in whose cell the window may hold a box
  pub data IsReached (t : Arena D) (window : List Interval) : ℕ → Type 0 where
    root : IsReached t window t.root
    child : {key k : ℕ} (l : ℕ) → IsReached t window key → level_at t.nodes key ≡ Some (suc l) →
        LeadsInto window (cells_at t.nodes key) k → IsReached t window k

  -- a test that only rows pass that the window admits
  abbrev pub AsksAdmitted : List Interval → (Row D → Bool) → Type 0
  AsksAdmitted window test = (r : Row D) → test r ≡ true → Admits window r.rect

  -- the rows that the window admits, each as often as it is in the tree, and the number of the nodes reached: each
  -- of them is listed once, and no other
  pub record Finds (t : Arena D) (window : List Interval) (rows : List (Row D)) (visited : ℕ) : Type 0 where
    pub admitted : All (λ r. Admits window r.rect) rows
    pub each : (test : Row D → Bool) → AsksAdmitted window test →
        count_by test rows ≡ count_rows (λ c. test (row_of c)) t.nodes t.pending.items
    pub nodes : List ℕ
    pub once : (key : ℕ) → IsReached t window key → times key nodes ≡ 1
    pub only : (key : ℕ) → 0 < times key nodes → IsReached t window key
    pub counted : visited ≡ length nodes

  -- the number of the rows that the window admits: they are listed as a search finds them, and the list is as long
  pub record Counts (t : Arena D) (window : List Interval) (count : ℕ) : Type 0 where
    pub rows : List (Row D)
    pub admitted : All (λ r. Admits window r.rect) rows
    pub each : (test : Row D → Bool) → AsksAdmitted window test →
        count_by test rows ≡ count_rows (λ c. test (row_of c)) t.nodes t.pending.items
    pub counted : count ≡ length rows

  -- the rows that a list held are a prefix, and after them stand those that the search found
  pub record FindsAfter (t : Arena D) (window : List Interval) (old new : List (Row D)) (visited : ℕ) : Type 0 where
    pub more : List (Row D)
    pub is : new ≡ old ++ more
    pub finds : Finds t window more visited

  -- the rows that a list held are the first ones
  abbrev pub StaysInFront : List (Row D) → List (Row D) → Type 0
  StaysInFront old new = (more : List (Row D)) × (new ≡ old ++ more)

  -- the lists have room for the rows that the window admits, and for all nodes
  pub record HasRoomToFind (t : Arena D) (window : List Interval) (rows : Vec (Row D) Global) (reached : Vec Reached Global) : Type 0 where
    pub count : ℕ
    pub counts : Counts t window count
    pub rows_fit : length rows.items + count ≤ vec_capacity rows
    pub nodes_fit : slab_len t.nodes ≤ vec_capacity reached
