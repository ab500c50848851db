-- The rows nearest to a point or to a box: all rows in order by distance, cut at k (Hjaltason, Samet 1999, section 1; the
-- order of rows that are equally near is own), or at a distance too.
use Rattle.std.specs.Prelude.{ℕ, ◌+◌, ◌*◌, ℤ, List, map, take, filter, zip, sum_by, nat_le, ◌-ℤ◌}
use Rattle.std.specs.declared.cmp.Ordering.{Ordering}
use Rattle.std.specs.Ordering.{ordering_then, nat_cmp, int_cmp}
use Rattle.rt_box.specs.declared.interval.Interval.{Interval}
use Rattle.rt_box.specs.Interval.{interval, or_zero}
use Rattle.rt_tree_choice.specs.Sorting.{sort_by}
use Rattle.rt_tree_walk.specs.declared.searching.Row.{Row}

-- how far the number is outside the interval: below its lo or above its hi; 0 within it, ends included
abbrev pub gap : Interval → ℤ → ℕ
gap i z = or_zero (i.lo -ℤ z) + or_zero (z -ℤ i.hi)

abbrev pub squared_gap : Interval → ℤ → ℕ
squared_gap i z = gap i z * gap i z

-- the squared distance from the point to the box
abbrev pub squared_distance : List Interval → List ℤ → ℕ
squared_distance b point = sum_by (λ p. squared_gap p.0 p.1) (zip b point)

-- how far apart two intervals are: how far one ends below the other's lo; 0 if they have a number in common
abbrev pub gap_between : Interval → Interval → ℕ
gap_between i j = or_zero (i.lo -ℤ j.hi) + or_zero (j.lo -ℤ i.hi)

abbrev pub squared_gap_between : Interval → Interval → ℕ
squared_gap_between i j = gap_between i j * gap_between i j

-- the squared distance between two boxes
abbrev pub box_distance : List Interval → List Interval → ℕ
box_distance a b = sum_by (λ p. squared_gap_between p.0 p.1) (zip a b)

-- the box that has the point alone
abbrev pub box_at : List ℤ → List Interval
box_at point = map (λ z. interval z z) point

module _ {D : ℕ} where
  -- the nearer row comes first, and of rows that are equally near the one with the lower id
  abbrev pub by_nearness : List ℤ → Row D → Row D → Ordering
  by_nearness point r s = ordering_then (nat_cmp (squared_distance r.rect point) (squared_distance s.rect point)) (int_cmp r.id s.id)

  -- the first k of the rows in this order
  abbrev pub nearest_rows : List ℤ → ℕ → List (Row D) → List (Row D)
  nearest_rows point k rows = take k (sort_by (by_nearness point) rows)

  -- of the rows within the distance of the point, the first k in this order
  abbrev pub rows_within : List ℤ → ℕ → ℕ → List (Row D) → List (Row D)
  rows_within point distance k rows =
      take k (filter (λ r. nat_le (squared_distance r.rect point) (distance * distance)) (sort_by (by_nearness point) rows))

  -- the same order by the distance to a box, and the first k of the rows in it
  abbrev pub by_nearness_to : List Interval → Row D → Row D → Ordering
  by_nearness_to target r s = ordering_then (nat_cmp (box_distance r.rect target) (box_distance s.rect target)) (int_cmp r.id s.id)

  abbrev pub nearest_rows_to : List Interval → ℕ → List (Row D) → List (Row D)
  nearest_rows_to target k rows = take k (sort_by (by_nearness_to target) rows)
