use Rattle.rt_tree_choice.specs.Reinsertion.{by_distance}
use Rattle.rt_tree_choice.specs.Sorting.{positions}
use Rattle.rt_tree_choice.proofs.Outliers.{distance-total}
use Rattle.rt_tree_choice.proofs.Sorted.{sort-permutes, sort-sorted}
use Rattle.rt_tree_choice.proofs.laws.distance_order_is_sorted.Goals as goal

pub returns : goal.returns
returns c boxes =
    (sort-permutes (by_distance boxes) (positions boxes), sort-sorted (by_distance boxes) (distance-total boxes) (positions boxes))
