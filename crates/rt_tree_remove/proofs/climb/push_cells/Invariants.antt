use Rattle.std.proofs.Common.{◌≡◌, ◌++◌, take, vec_capacity}
use Rattle.rt_tree_node.specs.Places.{pending_at}
use Rattle.rt_tree_remove.proofs.climb.push_cells.Given as goal

abbrev pub invariant-loop-at : goal.invariant-loop-at
invariant-loop-at g l =
    (l.pending.items ≡ l.initial.pending.items ++ pending_at l.node.level (take l.at l.node.cells)) × (vec_capacity l.pending ≡ vec_capacity l.initial.pending)
