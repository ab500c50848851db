use Rattle.std.proofs.Common.{◌≡◌, take, unsigned_abs}
use Rattle.std.specs.List.{sum_by}
use Rattle.rt_tree_node.specs.Sums.{sum_at}
use Rattle.rt_tree_node.proofs.summing.sum_of_children.Given as goal

abbrev pub invariant-loop-number : goal.invariant-loop-number
invariant-loop-number l = l.rows ≡ sum_by (λ n. sum_at l.sums (unsigned_abs n)) (take l.number-index l.numbers)
