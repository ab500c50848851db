use Rattle.std.proofs.Common.{◌≡◌, ◌+◌, ◌^◌, ◌<◌, ◌≤◌, ◌++◌, length, map, vec_len, vec_capacity}
use Rattle.rt_tree_walk.specs.Search.{row_of}
use Rattle.rt_tree_walk.specs.Visits.{picked}
use Rattle.rt_tree_walk.proofs.searching.push_rows.Given as goal

-- the rows so far and those of the rest are all, and there is room for the rest
abbrev pub invariant-loop-rest : goal.invariant-loop-rest
invariant-loop-rest g l = record {
  below : l.rest < 2 ^ length l.leaf.cells;
  rows : l.list.items ++ map row_of (picked l.leaf.cells l.rest) ≡ l.fn.rows.items ++ map row_of (picked l.leaf.cells l.bits);
  room : vec_len l.list + length (picked l.leaf.cells l.rest) ≤ vec_capacity l.list;
  capacity : vec_capacity l.fn.rows ≤ vec_capacity l.list;
}

abbrev pub decreases-loop-rest : goal.decreases-loop-rest
decreases-loop-rest g l = l.rest
