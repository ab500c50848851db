use Rattle.std.proofs.Common.{All, ◌≤◌, ◌-◌, drop, length, vec_capacity}
use Rattle.rt_tree_walk.specs.Visits.{keys_of, MarkHolds}
use Rattle.rt_tree_walk.proofs.searching.search_into.Given as goal
use Rattle.rt_tree_walk.proofs.Progress.{ProgressAfter}

-- the search went into the first nodes of the list; the others are still to come
abbrev pub invariant-loop-visited : goal.invariant-loop-visited
invariant-loop-visited g l = record {
  within : l.visited ≤ length l.reached.items;
  progress : ProgressAfter l.tree l.window (drop l.visited (keys_of l.reached.items)) l.fn.rows.items l.rows.items l.visited;
  marks : All (MarkHolds l.tree.nodes l.window) l.reached.items;
  rows_capacity : vec_capacity l.fn.rows ≤ vec_capacity l.rows;
  nodes_capacity : vec_capacity l.fn.reached ≤ vec_capacity l.reached;
}

abbrev pub decreases-loop-visited : goal.decreases-loop-visited
decreases-loop-visited g l = length l.tree.nodes.slots - l.visited
