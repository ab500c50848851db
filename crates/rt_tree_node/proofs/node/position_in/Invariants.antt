use Rattle.std.proofs.Common.{◌≢◌, ℕ, ◌<◌, get_or, pos}
use Rattle.rt_tree_node.proofs.node.position_in.Given as goal

abbrev pub invariant-loop-at : goal.invariant-loop-at
invariant-loop-at l = (k : ℕ) → k < l.at → get_or l.numbers k (pos 0) ≢ l.fn.number
