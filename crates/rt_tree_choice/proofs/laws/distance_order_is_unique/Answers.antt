use Rattle.rt_tree_choice.specs.Reinsertion.{by_distance}
use Rattle.rt_tree_choice.specs.Sorting.{positions}
use Rattle.rt_tree_choice.proofs.Outliers.{distance-total, distance-tie}
use Rattle.rt_tree_choice.proofs.Sorted.{sorting-unique}
use Rattle.rt_tree_choice.proofs.laws.distance_order_is_unique.Goals as goal

pub returns : goal.returns
returns c boxes order moved sorted =
    sorting-unique (by_distance boxes) (distance-total boxes) (distance-tie boxes) (positions boxes) order moved sorted
