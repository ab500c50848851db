use Rattle.std.proofs.Common.{take}
use Rattle.std.specs.List.{AllZip}
use Rattle.rt_tree.specs.Search.{CountsIn}
use Rattle.rt_tree_many.specs.Answers.{AreNoted}
use Rattle.rt_tree_many.proofs.searching.counts_in_order.Given as goal

abbrev pub invariant-loop-place : goal.invariant-loop-place
invariant-loop-place g l = record {
  counted : AllZip (CountsIn l.tree.lists) (take l.place l.windows) l.counts.items;
  noted : AreNoted (CountsIn l.tree.lists) l.windows l.noted;
}
