use Rattle.std.proofs.Common.{◌≡◌, ◌+◌, ◌^◌, ◌<◌, ◌≤◌, ◌++◌, drop, length, map, vec_len, vec_capacity}
use Rattle.rt_tree_walk.specs.Visits.{picked}
use Rattle.rt_tree_join.specs.Due.{pair_cells, pairs_of_row}
use Rattle.rt_tree_join.proofs.joining.pair_row.Given as goal

-- the pairs so far and those of the rest are all, and there is room for the rest
abbrev pub invariant-loop-rest : goal.invariant-loop-rest
invariant-loop-rest g l = record {
  below : l.rest < 2 ^ length (drop l.from l.leaf.cells);
  all : l.list.items ++ map (pair_cells l.fn.side l.fn.row) (picked (drop l.from l.leaf.cells) l.rest) ≡ l.fn.pairs.items ++ pairs_of_row l.fn.side (drop l.from l.leaf.cells) l.fn.row;
  room : vec_len l.list + length (picked (drop l.from l.leaf.cells) l.rest) ≤ vec_capacity l.list;
}

abbrev pub decreases-loop-rest : goal.decreases-loop-rest
decreases-loop-rest g l = l.rest
