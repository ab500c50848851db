use Rattle.std.proofs.Common.{◌≡◌, ◌++◌, drop}
use Rattle.rt_tree_join.specs.Itself.{later_pairs}
use Rattle.rt_tree_join.proofs.itself.pair_within.Given as goal

-- the pairs so far and those of the later rows are all
abbrev pub invariant-loop-at : goal.invariant-loop-at
invariant-loop-at g l = l.pairs.items ++ later_pairs (drop l.at l.leaf.cells) ≡ l.initial.pairs.items ++ later_pairs l.leaf.cells
