use Rattle.std.proofs.Common.{◌<◌, ◌^◌, ◌++◌, length, map, filter}
use Rattle.std.specs.List.Sorted.{IsPermutation}
use Rattle.std.specs.BinaryHeap.{KeepsHeap, heap_items}
use Rattle.rt_tree_walk.specs.Visits.{picked}
use Rattle.rt_tree_nearest.specs.Candidates.{queued, is_near, compare_branches}
use Rattle.rt_tree_nearest.proofs.browse.push_children.Given as goal

-- the children so far and those of the rest are all
abbrev pub invariant-loop-rest : goal.invariant-loop-rest
invariant-loop-rest g l = record {
  below : l.rest < 2 ^ length l.node.cells;
  cells : IsPermutation (heap_items l.fn.branches ++ map (queued l.query.target) (filter (is_near l.query.target l.most) l.node.cells))
      (heap_items l.branches ++ map (queued l.query.target) (filter (is_near l.query.target l.most) (picked l.node.cells l.rest)));
  order : KeepsHeap compare_branches (heap_items l.fn.branches) (heap_items l.branches);
}

abbrev pub decreases-loop-rest : goal.decreases-loop-rest
decreases-loop-rest g l = l.rest
