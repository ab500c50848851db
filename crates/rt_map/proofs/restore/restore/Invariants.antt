use Rattle.std.proofs.Common.{◌-◌, length}
use Rattle.rt_tree_node.specs.Whole.{HasRoom}
use Rattle.rt_tree_rules.specs.Nested.{Tree}
use Rattle.rt_map.specs.LevelSteps.{RestoresBelow}
use Rattle.rt_map.specs.Meant.{rows_in, IsMeant, IsMadeBelow}
use Rattle.rt_map.proofs.restore.restore.Given as goal

abbrev pub invariant-loop-tree : goal.invariant-loop-tree
invariant-loop-tree g l = record {
  steps : RestoresBelow l.fn.tree l.tree l.fn.rows.items l.cells.items;
  meant : (meant : Tree) → IsMeant l.fn.tree.capacity l.shapes (rows_in l.fn.rows.items) meant → HasRoom l.fn.tree (length l.fn.rows.items) →
      IsMadeBelow l.tree l.shapes (length l.fn.rows.items) l.cells.items meant;
}

abbrev pub decreases-loop-tree : goal.decreases-loop-tree
decreases-loop-tree g l = l.top - l.tree.level
