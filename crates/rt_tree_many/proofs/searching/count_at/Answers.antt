use Rattle.rt_tree.specs.Search.{CountsIn}
use Rattle.rt_tree_many.proofs.Noted.{noted-at, noted-more, answers-at}
use Rattle.rt_tree_many.proofs.searching.count_at.Goals as goal

pub returns-in-Some-clause-counts : goal.returns-in-Some-clause-counts
returns-in-Some-clause-counts g c =
    noted-at (CountsIn c.args.tree.now.lists) c.args.windows.now c.args.counts.now c.args.place _ c.in-Some.count c.requires.noted c.requires.place c.in-Some.is

pub returns-clause-noted : goal.returns-clause-noted
returns-clause-noted g c =
    noted-more (CountsIn c.args.tree.now.lists) c.args.windows.now c.args.counts.now c.args.place c.index-windows-place.result c.in_ok-count.count
    c.requires.noted c.requires.place c.index-windows-place.is c.in_ok-count.ensures

pub returns-clause-counts : goal.returns-clause-counts
returns-clause-counts g c =
    answers-at (CountsIn c.args.tree.now.lists) c.args.windows.now c.args.place c.index-windows-place.result c.in_ok-count.count c.requires.place
    c.index-windows-place.is c.in_ok-count.ensures
