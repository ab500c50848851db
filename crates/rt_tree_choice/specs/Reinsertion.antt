-- ReInsert: the cells that leave an overfull node and are inserted again
-- (Beckmann, Kriegel, Schneider, Seeger 1990, section 4.3).
use Rattle.std.specs.Prelude.{ℕ, ◌-◌, List, length, drop}
use Rattle.std.specs.declared.cmp.Ordering.{Ordering}
use Rattle.std.specs.Ordering.{ordering_then, nat_cmp}
use Rattle.rt_box.specs.declared.interval.Interval.{Interval}
use Rattle.rt_box.specs.Rect.{centre_distance}
use Rattle.rt_box.specs.Capacity.{reinsertion_share}
use Rattle.rt_box.specs.Boxes.{box_at}
use Rattle.rt_box.specs.Hull.{hull}
use Rattle.rt_tree_choice.specs.Sorting.{sort_by, positions}

-- the distance of a cell's centre from that of the box around all cells
abbrev pub from_centre : List (List Interval) → ℕ → ℕ
from_centre boxes position = centre_distance (box_at boxes position) (hull boxes)

-- nearer to the centre comes first; of equal distances the lower position counts as farther (own)
abbrev pub by_distance : List (List Interval) → ℕ → ℕ → Ordering
by_distance boxes p q = ordering_then (nat_cmp (from_centre boxes p) (from_centre boxes q)) (nat_cmp q p)

-- the positions of the cells that leave: the last of all cells from the nearest to the farthest, so that the
-- nearest of them is inserted first (close reinsert)
abbrev pub farthest_positions : List (List Interval) → ℕ → List ℕ
farthest_positions boxes capacity =
    drop (length boxes - reinsertion_share capacity) (sort_by (by_distance boxes) (positions boxes))
