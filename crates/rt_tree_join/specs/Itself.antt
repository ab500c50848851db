-- What is due in the middle of a join of a tree with itself. No public clause cites this module.
use Rattle.std.specs.Prelude.{◌≡◌, ℕ, ◌+◌, ◌-◌, ◌<◌, Bool, List, [], ◌∷◌, ◌++◌, All, int_lt, length, map, count_by, sum_by, Vec, if◌then◌else◌}
use Rattle.std.specs.List.{filter}
use Rattle.std.specs.declared.alloc.Global.{Global}
use Rattle.rt_tree_node.specs.declared.arena.Arena.{Arena}
use Rattle.rt_tree_node.specs.declared.cell.Cell.{Cell}
use Rattle.rt_tree_node.specs.Node.{NodeCells}
use Rattle.rt_tree_walk.specs.declared.searching.Row.{Row}
use Rattle.rt_tree_walk.specs.Rows.{rows_in}
use Rattle.rt_tree_join.specs.declared.joining.Pair.{Pair}
use Rattle.rt_tree_join.specs.declared.due.Due.{Due}
use Rattle.rt_tree_join.specs.declared.due.Subtree.{Subtree}
use Rattle.rt_tree_join.specs.declared.due.Side.TheVariants.{Left, Right}
use Rattle.rt_tree_join.specs.Join.{touch, pairs_with}
use Rattle.rt_tree_join.specs.Due.{pairs_of_row, subtree_of, child_due, keys_of_subtree, rows_of_subtree, IsSubtree, IsDue, count_due}

-- the pair with the lower id on the left
abbrev pub in_order : Pair → Pair
in_order p = if int_lt p.right p.left then record { left = p.right; right = p.left } else p

module _ {D : ℕ} where
  -- each row with the later ones that it touches
  abbrev pub pairs_within : List (Row D) → List Pair
  pairs_within [] = []
  pairs_within (r ∷ rows) = pairs_with rows r ++ pairs_within rows

  -- the same of the cells of a leaf
  abbrev pub later_pairs : List (Cell D) → List Pair
  later_pairs [] = []
  later_pairs (c ∷ cells) = pairs_of_row Left cells c ++ later_pairs cells

  -- the children of a node
  abbrev pub children_of : NodeCells D → List (Subtree D)
  children_of node = map (subtree_of (node.level - 1)) node.cells

  -- each child of a node with the later ones that it touches
  abbrev pub later_due : ℕ → List (Cell D) → List (Due D)
  later_due level [] = []
  later_due level (c ∷ cells) = map (child_due Right level (subtree_of level c)) (filter (λ e. touch c.rect e.rect) cells) ++ later_due level cells

  -- how many of the pairs of rows below one node pass a test
  abbrev pub count_within : Arena D → (Pair → Bool) → Subtree D → ℕ
  count_within t test s = count_by test (pairs_within (rows_of_subtree t s))

  -- how many nodes there are below a node, itself included
  abbrev pub steps_within : Arena D → Subtree D → ℕ
  steps_within t s = length (keys_of_subtree t s)

  -- the pairs below the first nodes are all pairs
  pub record StartsWithin (t : Arena D) (nodes : List (Subtree D)) : Type 0 where
    pub each : (test : Pair → Bool) → sum_by (count_within t test) nodes ≡ count_by test (pairs_within (rows_in t))
    pub subtrees : All (IsSubtree t) nodes

  -- the pairs below the next node come, or are due below it
  pub record Splits (t : Arena D) (next : Subtree D) (pairs pairs1 : List Pair) (nodes nodes1 : List (Subtree D)) (due : List (Due D)) : Type 0 where
    pub more : List (Subtree D)
    pub is : nodes1 ≡ nodes ++ more
    pub subtrees : All (IsSubtree t) more
    pub dues : All (IsDue t t) due
    pub each : (test : Pair → Bool) →
        count_by test pairs1 + sum_by (count_due t t test) due + sum_by (count_within t test) more ≡ count_by test pairs + count_within t test next
    pub fewer : sum_by (steps_within t) more < steps_within t next

  abbrev pub GoesWithin : Arena D → Subtree D → Vec Pair Global → Vec Pair Global → Vec (Subtree D) Global → Vec (Subtree D) Global → Vec (Due D) Global → Type 0
  GoesWithin t next pairs pairs1 nodes nodes1 due = Splits t next pairs.items pairs1.items nodes.items nodes1.items due.items
