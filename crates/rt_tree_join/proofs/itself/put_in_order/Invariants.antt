use Rattle.std.proofs.Common.{◌≡◌, ◌++◌, take, drop, map}
use Rattle.rt_tree_join.specs.Itself.{in_order}
use Rattle.rt_tree_join.proofs.itself.put_in_order.Given as goal

-- the pairs so far are in order, and the others as they were
abbrev pub invariant-loop-pair : goal.invariant-loop-pair
invariant-loop-pair l = l.pair-items ≡ map in_order (take l.pair-index l.initial.pair-items) ++ drop l.pair-index l.initial.pair-items
