-- What is due in the middle of a join. No public clause cites this module.
use Rattle.std.specs.Prelude.{◌≡◌, ℕ, ℤ, ◌+◌, ◌-◌, ◌*◌, ◌<◌, Bool, List, [], ◌++◌, Option, Some, None, All, drop, length, map, count_by, sum_by, Vec}
use Rattle.std.specs.List.{filter, flat_map}
use Rattle.std.specs.declared.alloc.Global.{Global}
use Rattle.rt_box.specs.declared.interval.Interval.{Interval}
use Rattle.rt_box.specs.Rect.{Holds}
use Rattle.rt_tree_node.specs.declared.arena.Arena.{Arena}
use Rattle.rt_tree_node.specs.declared.cell.Cell.{Cell}
use Rattle.rt_tree_node.specs.Node.{NodeCells}
use Rattle.rt_tree_node.specs.Places.{key_of, leaf_cells_at, cells_at, level_at, hull_at}
use Rattle.rt_tree_walk.specs.declared.searching.Row.{Row}
use Rattle.rt_tree_walk.specs.Search.{row_of}
use Rattle.rt_tree_walk.specs.Visits.{picked}
use Rattle.rt_tree_walk.specs.Preorder.{keys_in}
use Rattle.rt_tree_walk.specs.Rows.{rows_in}
use Rattle.rt_tree_join.specs.declared.joining.Pair.{Pair}
use Rattle.rt_tree_join.specs.declared.due.Due.{Due}
use Rattle.rt_tree_join.specs.declared.due.Subtree.{Subtree}
use Rattle.rt_tree_join.specs.declared.due.Side.{Side}
use Rattle.rt_tree_join.specs.declared.due.Side.TheVariants.{Left, Right}
use Rattle.rt_tree_join.specs.Join.{touch, touching_pairs}

-- a row of one tree, and one of the other
abbrev pub pair_of_ids : Side → ℤ → ℤ → Pair
pair_of_ids Left id other = record { left = id; right = other }
pair_of_ids Right id other = record { left = other; right = id }

module _ {D : ℕ} where
  -- the cells that touch the box
  abbrev pub touched_by : List Interval → List (Cell D) → List (Cell D)
  touched_by rect cells = filter (λ c. touch rect c.rect) cells

  -- ---- what one node gives
  abbrev pub pair_cells : Side → Cell D → Cell D → Pair
  pair_cells side c e = pair_of_ids side c.number e.number

  -- a row of one tree with the rows of a leaf of the other that touch it
  abbrev pub pairs_of_row : Side → List (Cell D) → Cell D → List Pair
  pairs_of_row side others c = map (pair_cells side c) (filter (λ e. touch c.rect e.rect) others)

  -- the same of several rows
  abbrev pub pairs_of_rows : Side → List (Cell D) → List (Cell D) → List Pair
  pairs_of_rows side others cells = flat_map (pairs_of_row side others) cells

  -- the same of those whose bits are set
  abbrev pub pairs_picked : Side → List (Cell D) → List (Cell D) → ℕ → List Pair
  pairs_picked side others cells bits = pairs_of_rows side others (picked cells bits)

  -- the box holds those of the rows
  abbrev pub AreHeld : List Interval → List (Cell D) → Type 0
  AreHeld rect cells = All (λ (r : Row D). Holds rect r.rect) (map row_of cells)

  -- the pairs of the rows of two leaves whose boxes touch come last, in some order
  abbrev pub PairsLeaves : List (Cell D) → List (Cell D) → Vec Pair Global → Vec Pair Global → Type 0
  PairsLeaves left right old new = (test : Pair → Bool) →
      count_by test new.items ≡ count_by test old.items + count_by test (touching_pairs (map row_of left) (map row_of right))

  abbrev pub subtree_of : ℕ → Cell D → Subtree D
  subtree_of level c = record { key = key_of c; level = level; rect = c.rect }

  abbrev pub due_of : Side → Subtree D → Subtree D → Due D
  due_of Left node other = record { left = node; right = other }
  due_of Right node other = record { left = other; right = node }

  abbrev pub child_due : Side → ℕ → Subtree D → Cell D → Due D
  child_due side level other c = due_of side (subtree_of level c) other

  -- the children of a node that touch the other's box, each with that one
  abbrev pub opened : Side → NodeCells D → Subtree D → List (Due D)
  opened side node other = map (child_due side (node.level - 1) other) (filter (λ c. touch other.rect c.rect) node.cells)

  -- the same of those from a place on
  abbrev pub opened_from : Side → NodeCells D → ℕ → Subtree D → List (Due D)
  opened_from side node from other = map (child_due side (node.level - 1) other) (filter (λ c. touch other.rect c.rect) (drop from node.cells))

  -- ---- what is below nodes
  abbrev pub keys_of_subtree : Arena D → Subtree D → List ℕ
  keys_of_subtree t s = keys_in t.nodes s.level s.key

  abbrev pub rows_of_subtree : Arena D → Subtree D → List (Row D)
  rows_of_subtree t s = flat_map (λ key. map row_of (leaf_cells_at t.nodes key)) (keys_of_subtree t s)

  pub record IsSubtree (t : Arena D) (s : Subtree D) : Type 0 where
    pub there : level_at t.nodes s.key ≡ Some s.level
    pub holds : All (λ r. Holds s.rect r.rect) (rows_of_subtree t s)

  pub record IsDue (t u : Arena D) (d : Due D) : Type 0 where
    pub left : IsSubtree t d.left
    pub right : IsSubtree u d.right

  -- how many of the pairs of rows below two nodes pass a test
  abbrev pub count_due : Arena D → Arena D → (Pair → Bool) → Due D → ℕ
  count_due t u test d = count_by test (touching_pairs (rows_of_subtree t d.left) (rows_of_subtree u d.right))

  -- how many pairs of nodes there are below two nodes
  abbrev pub steps_due : Arena D → Arena D → Due D → ℕ
  steps_due t u d = length (keys_of_subtree t d.left) * length (keys_of_subtree u d.right)

  -- the root, unless there are no rows
  abbrev pub IsRoot : Arena D → Option (Subtree D) → Type 0
  IsRoot t None = cells_at t.nodes t.root ≡ []
  IsRoot t (Some s) = s ≡ record { key = t.root; level = t.level; rect = hull_at t.nodes t.root }

  -- what is due at first are all pairs
  pub record StartsWith (t u : Arena D) (due : List (Due D)) : Type 0 where
    pub each : (test : Pair → Bool) → sum_by (count_due t u test) due ≡ count_by test (touching_pairs (rows_in t) (rows_in u))
    pub nodes : All (IsDue t u) due

  -- the pairs of the next two nodes come, or are due below them
  pub record Goes (t u : Arena D) (next : Due D) (pairs pairs1 : List Pair) (due due1 : List (Due D)) : Type 0 where
    pub more : List (Due D)
    pub is : due1 ≡ due ++ more
    pub nodes : All (IsDue t u) more
    pub each : (test : Pair → Bool) → count_by test pairs1 + sum_by (count_due t u test) more ≡ count_by test pairs + count_due t u test next
    pub fewer : sum_by (steps_due t u) more < steps_due t u next

  abbrev pub GoesOn : Arena D → Arena D → Due D → Vec Pair Global → Vec Pair Global → Vec (Due D) Global → Vec (Due D) Global → Type 0
  GoesOn t u next pairs pairs1 due due1 = Goes t u next pairs.items pairs1.items due.items due1.items

  -- the pairs below what was due have come
  abbrev pub PairsDue : Arena D → Arena D → Vec (Due D) Global → Vec Pair Global → Vec Pair Global → Type 0
  PairsDue t u due old new = (test : Pair → Bool) → count_by test new.items ≡ count_by test old.items + sum_by (count_due t u test) due.items
