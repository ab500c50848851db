use Rattle.rt_tree_choice.specs.Split.{along}
use Rattle.rt_tree_choice.specs.Sorting.{positions}
use Rattle.rt_tree_choice.proofs.Entries.{along-total, along-tie}
use Rattle.rt_tree_choice.proofs.Sorted.{sorting-unique}
use Rattle.rt_tree_choice.proofs.laws.sorting_is_unique.Goals as goal

pub returns : goal.returns
returns c boxes axis upper order moved sorted =
    sorting-unique (along boxes axis upper) (along-total boxes axis upper) (along-tie boxes axis upper) (positions boxes) order moved sorted
