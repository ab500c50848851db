-- Trees whose nodes are filled (Beckmann, Kriegel, Schneider, Seeger 1990, section 2, of the properties of an R-tree).
use Rattle.std.specs.Prelude.{ℕ, zero, suc, ◌<◌, ◌≤◌, length}
use Rattle.std.specs.List.{All}
use Rattle.rt_box.specs.Capacity.{least_fill}
use Rattle.rt_tree_rules.specs.Nested.{Entry, Tree}

module _ (capacity : ℕ) where
  -- a child has the least fill of cells at least, and so has each node below it
  abbrev pub IsFilled : (l : ℕ) → Entry l → Type 0
  IsFilled zero row = Unit {0}
  IsFilled (suc l) child = (least_fill capacity ≤ length child) × All (IsFilled l) child

  -- each node below the root is filled, and a root above the leaves has two children at least
  pub record IsFilledTree (tree : Tree) : Type 0 where
    pub below : All (IsFilled tree.level) tree.root
    pub root : 0 < tree.level → 2 ≤ length tree.root
