use Rattle.rt_tree.specs.Search.{CountsIn}
use Rattle.rt_tree_many.specs.Answers.{AreNoted}
use Rattle.rt_tree_many.proofs.searching.count_many.Given as goal

abbrev pub invariant-loop-place : goal.invariant-loop-place
invariant-loop-place g l = AreNoted (CountsIn l.tree.lists) l.windows l.noted.items
