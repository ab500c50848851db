use Rattle.std.proofs.Common.{◌≡◌, ◌^◌, ◌<◌, ◌++◌, length}
use Rattle.std.specs.List.{flat_map}
use Rattle.rt_tree_walk.specs.Visits.{picked}
use Rattle.rt_tree_join.specs.Due.{pairs_of_row, pairs_of_rows}
use Rattle.rt_tree_join.proofs.joining.pair_rows.Given as goal

-- the pairs so far and those of the rest are all
abbrev pub invariant-loop-rest : goal.invariant-loop-rest
invariant-loop-rest g l = record {
  below : l.rest < 2 ^ length l.leaf.cells;
  all : l.pairs.items ++ flat_map (pairs_of_row l.fn.side l.other.cells) (picked l.leaf.cells l.rest) ≡ l.fn.pairs.items ++ pairs_of_rows l.fn.side l.other.cells (picked l.leaf.cells l.fn.bits);
}

abbrev pub decreases-loop-rest : goal.decreases-loop-rest
decreases-loop-rest g l = l.rest
