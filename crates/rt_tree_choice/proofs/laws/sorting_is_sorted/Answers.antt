use Rattle.rt_tree_choice.specs.Split.{along}
use Rattle.rt_tree_choice.specs.Sorting.{positions}
use Rattle.rt_tree_choice.proofs.Entries.{along-total}
use Rattle.rt_tree_choice.proofs.Sorted.{sort-permutes, sort-sorted}
use Rattle.rt_tree_choice.proofs.laws.sorting_is_sorted.Goals as goal

pub returns : goal.returns
returns c boxes axis upper =
    (sort-permutes (along boxes axis upper) (positions boxes), sort-sorted (along boxes axis upper) (along-total boxes axis upper) (positions boxes))
