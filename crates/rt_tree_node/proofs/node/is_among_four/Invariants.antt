use Rattle.std.proofs.Common.{◌≡◌, ◌≢◌, ℕ, ◌+◌, ◌<◌, get_or, pos, false}
use Rattle.rt_tree_node.proofs.node.is_among_four.Given as goal

abbrev pub invariant-loop-offset : goal.invariant-loop-offset
invariant-loop-offset l = l.found ≡ false → (k : ℕ) → k < l.offset → get_or l.numbers (l.from + k) (pos 0) ≢ l.number
