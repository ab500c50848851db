use Rattle.std.proofs.Common.{suc, List, [], drop}
use Rattle.rt_tree_rules.specs.Nested.{Entry}
use Rattle.rt_map.specs.LevelSteps.{RestoresUpTo}
use Rattle.rt_map.specs.Meant.{Awaits, sizes_at}
use Rattle.rt_map.proofs.restore_level.restore_level.Given as goal

abbrev pub invariant-loop-shape : goal.invariant-loop-shape
invariant-loop-shape g l = record {
  steps : RestoresUpTo l.fn.tree l.tree l.level l.cells l.left l.next.items;
  meant : (nodes : List (Entry (suc l.level))) → Awaits l.fn.tree l.level (sizes_at l.level l.shapes) l.cells [] nodes →
      Awaits l.tree l.level (sizes_at l.level (drop l.shape-index l.shapes)) l.left l.next.items nodes;
}
