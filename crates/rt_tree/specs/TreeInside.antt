-- How a `Tree` keeps its nodes. No public clause cites this module.
use Rattle.std.specs.Prelude.{ℕ}
use Rattle.indexmap.specs.IndexMap.{keys}
use Rattle.rt_tree_outside.specs.Outside.{outside}
use Rattle.rt_tree.specs.Kept.{IsKeptWith}
use Rattle.rt_tree.specs.Lists.{TreeLists}
use Rattle.rt_tree.specs.declared.tree.Tree.TheInside.{Inside}

module _ {D : ℕ} where
  abbrev pub lists_of : Inside D → TreeLists D
  lists_of t = record { lists = outside t.arena; spare = t.spare; ids = keys t.arena.leaves }

  -- the nodes are sound, and there is as much room as is promised
  abbrev pub IsKept : Inside D → Type 0
  IsKept t = IsKeptWith t.arena t.spare
