use Rattle.std.proofs.Common.{take}
use Rattle.rt_tree_many.specs.Answers.{AreNoted, SpanAnswers}
use Rattle.rt_tree_many.specs.Parts.{FindsIds, FindsMany}
use Rattle.rt_tree_many.proofs.searching.list_in_order.Given as goal

abbrev pub invariant-loop-place : goal.invariant-loop-place
invariant-loop-place g l = record {
  found : FindsMany l.tree.lists (take l.place l.windows) l.found.ids.items l.found.starts.items;
  noted : AreNoted (SpanAnswers (FindsIds l.tree.lists) l.ids.items) l.windows l.spans;
}
