use Rattle.rt_tree_many.specs.Answers.{SpanAnswers}
use Rattle.rt_tree_many.specs.Parts.{FindsIds}
use Rattle.rt_tree_many.proofs.Noted.{noted-at, noted-more, noted-longer, answers-at}
use Rattle.rt_tree_many.proofs.searching.search_at.Goals as goal

pub returns-in-Some-clause-finds : goal.returns-in-Some-clause-finds
returns-in-Some-clause-finds g c =
    noted-at (SpanAnswers (FindsIds c.args.tree.now.lists) c.args.ids.now.items) c.args.windows.now c.args.spans.now c.args.place _ c.in-Some.span
    c.requires.noted c.requires.place c.in-Some.is

pub returns-clause-noted : goal.returns-clause-noted
returns-clause-noted g c =
    let Finds = FindsIds c.args.tree.now.lists in
    let old = c.args.ids.now.items in
    let new = c.search_one.new.ids.items in
    let windows = c.args.windows.now in
    noted-more (SpanAnswers Finds new) windows c.args.spans.now c.args.place c.index-windows-place.result c.in_ok-span.span
    (noted-longer Finds old new windows c.args.spans.now c.in_ok-span.ensures.longer c.requires.noted) c.requires.place c.index-windows-place.is
    c.in_ok-span.ensures.finds

pub returns-clause-finds : goal.returns-clause-finds
returns-clause-finds g c =
    answers-at (SpanAnswers (FindsIds c.args.tree.now.lists) c.search_one.new.ids.items) c.args.windows.now c.args.place c.index-windows-place.result
    c.in_ok-span.span c.requires.place c.index-windows-place.is c.in_ok-span.ensures.finds
