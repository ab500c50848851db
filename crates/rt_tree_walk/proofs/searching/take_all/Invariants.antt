use Rattle.std.proofs.Common.{◌≡◌, ◌+◌, ◌≤◌, ◌++◌, length, map, take, vec_len, vec_capacity}
use Rattle.rt_tree_walk.specs.Search.{row_of}
use Rattle.rt_tree_walk.proofs.searching.take_all.Given as goal

-- the cells so far gave their rows, and there is room for the rest
abbrev pub invariant-loop-at : goal.invariant-loop-at
invariant-loop-at g l =
    (l.list.items ≡ l.fn.rows.items ++ map row_of (take l.at l.leaf.cells)) × (vec_len l.list + length l.leaf.cells ≤ vec_capacity l.list + l.at)
    × (vec_capacity l.fn.rows ≤ vec_capacity l.list)
