use Rattle.std.proofs.Common.{◌+◌}
use Rattle.std.specs.List.{count_by, sum_by}
use Rattle.rt_tree_join.specs.Due.{count_due, steps_due}
use Rattle.rt_tree_join.proofs.Turns.{Joining}
use Rattle.rt_tree_join.proofs.joining.pair_due.Given as goal

abbrev pub invariant-loop-next : goal.invariant-loop-next
invariant-loop-next g l =
    Joining l.left l.right (λ test. count_by test l.initial.pairs.items + sum_by (count_due l.left l.right test) l.initial.due.items) l.pairs.items l.due.items

abbrev pub decreases-loop-next : goal.decreases-loop-next
decreases-loop-next g l = sum_by (steps_due l.left l.right) l.due.items
