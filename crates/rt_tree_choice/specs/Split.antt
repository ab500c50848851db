-- Split: how an overfull node's cells are cut into two groups
-- (Beckmann, Kriegel, Schneider, Seeger 1990, section 4.2).
use Rattle.std.specs.Prelude.{◌≡◌, ◌⊎◌, ℕ, ◌+◌, ◌-◌, ◌*◌, ◌≤◌, Bool, true, false, pos, List, [], ◌∷◌, take, drop, slice_index_or, sum_by}
use Rattle.std.specs.List.{range_with_len}
use Rattle.std.specs.declared.cmp.Ordering.{Ordering}
use Rattle.std.specs.Ordering.{ordering_then, nat_cmp, int_cmp}
use Rattle.rt_box.specs.declared.interval.Interval.{Interval}
use Rattle.rt_box.specs.Interval.{interval}
use Rattle.rt_box.specs.Rect.{area, margin, overlap}
use Rattle.rt_box.specs.Capacity.{least_fill}
use Rattle.rt_tree_choice.specs.declared.split.Cut.{Cut}
use Rattle.rt_box.specs.Keys.{Less, IsLeast}
use Rattle.rt_box.specs.Boxes.{box_at}
use Rattle.rt_box.specs.Hull.{hull}
use Rattle.rt_tree_choice.specs.Hull.{boxes_at}
use Rattle.rt_tree_choice.specs.Sorting.{sort_by, positions}

-- the extent of a cell on an axis
abbrev pub extent : List (List Interval) → ℕ → ℕ → Interval
extent boxes axis position = slice_index_or (box_at boxes position) axis (interval (pos 0) (pos 0))

-- the two orders of the cells along an axis: by the lower end and then the upper, or by the upper and then
-- the lower; of equal extents the lower position comes first (own)
abbrev pub along : List (List Interval) → ℕ → Bool → ℕ → ℕ → Ordering
along boxes axis false p q = let i = extent boxes axis p in let j = extent boxes axis q in
    ordering_then (int_cmp i.lo j.lo) (ordering_then (int_cmp i.hi j.hi) (nat_cmp p q))
along boxes axis true p q = let i = extent boxes axis p in let j = extent boxes axis q in
    ordering_then (int_cmp i.hi j.hi) (ordering_then (int_cmp i.lo j.lo) (nat_cmp p q))

-- the cells' positions in that order
abbrev pub sorting : List (List Interval) → ℕ → Bool → List ℕ
sorting boxes axis upper = sort_by (along boxes axis upper) (positions boxes)

-- the positions in the two groups of a cut: the first cells of its sorting, and the others
abbrev pub first_group : List (List Interval) → Cut → List ℕ
first_group boxes cut = take cut.first (sorting boxes cut.axis cut.upper)

abbrev pub second_group : List (List Interval) → Cut → List ℕ
second_group boxes cut = drop cut.first (sorting boxes cut.axis cut.upper)

-- the boxes around the two groups
abbrev pub first_hull : List (List Interval) → Cut → List Interval
first_hull boxes cut = hull (boxes_at boxes (first_group boxes cut))

abbrev pub second_hull : List (List Interval) → Cut → List Interval
second_hull boxes cut = hull (boxes_at boxes (second_group boxes cut))

abbrev pub cut_at : ℕ → Bool → ℕ → Cut
cut_at axis upper first = record { axis = axis; upper = upper; first = first }

-- the sizes of the first group that leave both groups filled enough
abbrev pub first_sizes : ℕ → List ℕ
first_sizes capacity = range_with_len (least_fill capacity) (capacity + 2 - 2 * least_fill capacity)

-- the margins of both groups' boxes
abbrev pub margins : List (List Interval) → Cut → ℕ
margins boxes cut = margin (first_hull boxes cut) + margin (second_hull boxes cut)

-- the sum of the margins over all cuts of an axis, in both of its sortings
abbrev pub margin_sum : List (List Interval) → ℕ → ℕ → ℕ
margin_sum boxes capacity axis =
    sum_by (λ first. margins boxes (cut_at axis false first)) (first_sizes capacity)
    + sum_by (λ first. margins boxes (cut_at axis true first)) (first_sizes capacity)

-- of equal axes the lowest is taken (own)
abbrev pub axis_key : List (List Interval) → ℕ → ℕ → List ℕ
axis_key boxes capacity axis = margin_sum boxes capacity axis ∷ axis ∷ []

-- the sorting by the lower end comes first
abbrev pub sorting_rank : Bool → ℕ
sorting_rank false = 0
sorting_rank true = 1

-- what the cuts of an axis are compared by: the area that both groups' boxes have in common, then the sum of
-- their areas. Of equal cuts the one by the lower ends is taken, and of those the one of the smallest first
-- group (own)
abbrev pub cut_key : List (List Interval) → Cut → List ℕ
cut_key boxes cut =
    overlap (first_hull boxes cut) (second_hull boxes cut)
    ∷ (area (first_hull boxes cut) + area (second_hull boxes cut)) ∷ sorting_rank cut.upper ∷ cut.first ∷ []

-- a cut of the axis that leaves both groups filled enough
pub record IsCutOf (capacity axis : ℕ) (cut : Cut) : Type 0 where
  pub axis_is : cut.axis ≡ axis
  pub first_filled : least_fill capacity ≤ cut.first
  pub second_filled : cut.first + least_fill capacity ≤ capacity + 1

-- the axis is that of the least sum of margins, and the cut the best one of this axis
pub record IsBestCut (axes : ℕ) (boxes : List (List Interval)) (capacity : ℕ) (cut : Cut) : Type 0 where
  pub axis_least : IsLeast (axis_key boxes capacity) 0 axes cut.axis
  pub is_cut : IsCutOf capacity cut.axis cut
  pub least : (other : Cut) → IsCutOf capacity cut.axis other → (other ≡ cut) ⊎ Less (cut_key boxes cut) (cut_key boxes other)
