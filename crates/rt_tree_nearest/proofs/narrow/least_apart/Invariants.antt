use Rattle.std.specs.Prelude.{IfSome}
use Rattle.rt_tree_nearest.specs.Candidates.{NamesKey}
use Rattle.rt_tree_nearest.proofs.narrow.least_apart.Given as goal

abbrev pub invariant-loop-at : goal.invariant-loop-at
invariant-loop-at g l = IfSome l.child (NamesKey l.node)
