use Rattle.std.proofs.Common.{length, IfSome}
use Rattle.std.specs.List.{sum_by}
use Rattle.std.specs.BinaryHeap.{IsHeap, heap_items}
use Rattle.rt_tree_nearest.specs.Candidates.{compare_branches, items_in, HasShape, IsKeptAfter}
use Rattle.rt_tree_nearest.proofs.Below.{keys_below}
use Rattle.rt_tree_nearest.proofs.Searched.{Searched}
use Rattle.rt_tree_nearest.proofs.browse.browse.Given as goal

abbrev pub invariant-loop-first : goal.invariant-loop-first
invariant-loop-first g l = record {
  searched : Searched l.query l.tree (items_in l.kept) (heap_items l.branches);
  shape : HasShape l.query l.kept;
  near : IfSome l.near (IsKeptAfter l.tree l.query (items_in l.kept));
  ordered : IsHeap compare_branches (heap_items l.branches);
}

abbrev pub decreases-loop-first : goal.decreases-loop-first
decreases-loop-first g l = sum_by (λ e. length (keys_below l.tree.nodes e)) (heap_items l.branches)
