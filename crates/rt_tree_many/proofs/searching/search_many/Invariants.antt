use Rattle.rt_tree_many.specs.Answers.{AreNoted, SpanAnswers}
use Rattle.rt_tree_many.specs.Parts.{FindsIds}
use Rattle.rt_tree_many.proofs.searching.search_many.Given as goal

abbrev pub invariant-loop-place : goal.invariant-loop-place
invariant-loop-place g l = AreNoted (SpanAnswers (FindsIds l.tree.lists) l.ids.items) l.windows l.spans.items
