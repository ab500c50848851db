use Rattle.std.proofs.Common.{◌≢◌, ℕ, ◌-◌, ◌<◌, ◌≤◌, length, get_or, pos}
use Rattle.rt_tree_node.proofs.node.skip_fours.Given as goal

abbrev pub invariant-loop-skipped : goal.invariant-loop-skipped
invariant-loop-skipped l = (l.skipped ≤ length l.numbers) × ((k : ℕ) → k < l.skipped → get_or l.numbers k (pos 0) ≢ l.number)

abbrev pub decreases-loop-skipped : goal.decreases-loop-skipped
decreases-loop-skipped l = length l.numbers - l.skipped
