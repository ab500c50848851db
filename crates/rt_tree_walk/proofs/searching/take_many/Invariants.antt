use Rattle.std.proofs.Common.{◌+◌, ◌≤◌, length, take, vec_len, vec_capacity}
use Rattle.rt_tree_walk.specs.Visits.{TakesRows}
use Rattle.rt_tree_walk.proofs.searching.take_many.Given as goal

-- the cells so far gave their rows, and there is room for the rest
abbrev pub invariant-loop-at : goal.invariant-loop-at
invariant-loop-at g l =
    TakesRows l.window (take l.at l.leaf.cells) l.fn.rows.items l.list.items × (vec_len l.list + length l.leaf.cells ≤ vec_capacity l.list + l.at)
    × (vec_capacity l.fn.rows ≤ vec_capacity l.list)
