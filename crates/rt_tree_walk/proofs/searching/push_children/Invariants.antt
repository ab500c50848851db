use Rattle.std.proofs.Common.{◌≡◌, ◌+◌, ◌^◌, ◌<◌, ◌≤◌, ◌++◌, length, map, vec_len, vec_capacity}
use Rattle.rt_tree_node.specs.Places.{key_of}
use Rattle.rt_tree_walk.specs.Visits.{picked, keys_of, Marks}
use Rattle.rt_tree_walk.proofs.searching.push_children.Given as goal

-- the children so far and those of the rest are all, and there is room for the rest
abbrev pub invariant-loop-rest : goal.invariant-loop-rest
invariant-loop-rest g l = record {
  below : l.rest < 2 ^ length l.node.cells;
  keys : keys_of l.list.items ++ map key_of (picked l.node.cells l.rest) ≡ keys_of l.fn.reached.items ++ map key_of (picked l.node.cells l.bits);
  marks : Marks l.query.window l.node.cells l.fn.reached.items l.list.items;
  room : vec_len l.list + length (picked l.node.cells l.rest) ≤ vec_capacity l.list;
  capacity : vec_capacity l.fn.reached ≤ vec_capacity l.list;
}

abbrev pub decreases-loop-rest : goal.decreases-loop-rest
decreases-loop-rest g l = l.rest
