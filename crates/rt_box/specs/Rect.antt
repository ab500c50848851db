-- Boxes and their measures, over whole numbers (Beckmann, Kriegel, Schneider, Seeger 1990, section 4).
-- A box is the list of its intervals, one for each axis.
use Rattle.std.specs.Prelude.{◌≡◌, ℕ, ◌*◌, ◌≤◌, ℤ, ◌≤ℤ◌, List, [], ◌∷◌, length, map, zip, sum_by, All}
use Rattle.std.specs.List.{AllZip}
use Rattle.rt_box.specs.declared.interval.Interval.{Interval}
use Rattle.rt_box.specs.Interval.{FitsEnds, Covers, side, common_part, cover, apart}

-- one to three axes, and on each an interval of 32-bit numbers whose lo is not above its hi
-- (own limits: SQLite's module takes up to five axes)
pub record IsBox (axes : ℕ) (b : List Interval) : Type 0 where
  pub some : 1 ≤ axes
  pub few : axes ≤ 3
  pub axes_are : length b ≡ axes
  pub ordered : All (λ i. i.lo ≤ℤ i.hi) b
  pub fits : All FitsEnds b

-- lo, and hi, on each axis
abbrev pub los : List Interval → List ℤ
los b = map (λ i. i.lo) b

abbrev pub his : List Interval → List ℤ
his b = map (λ i. i.hi) b

-- the coordinates in the order of a table's columns: lo and hi of the first axis, then of the next
-- (SQLite's documentation: The SQLite R*Tree Module)
abbrev pub coordinates : List Interval → List ℤ
coordinates [] = []
coordinates (i ∷ b) = i.lo ∷ i.hi ∷ coordinates b

abbrev pub product : List ℕ → ℕ
product [] = 1
product (x ∷ xs) = x * product xs

-- the product of the sides
abbrev pub area : List Interval → ℕ
area b = product (map side b)

-- the sum of the sides, one for each axis
abbrev pub margin : List Interval → ℕ
margin b = sum_by side b

-- on each axis what both boxes have in common
abbrev pub common_box : List Interval → List Interval → List Interval
common_box a b = map (λ p. common_part p.0 p.1) (zip a b)

-- the area that two boxes have in common: 0 if on some axis they have no side in common
abbrev pub overlap : List Interval → List Interval → ℕ
overlap a b = area (common_box a b)

-- on each axis the shortest interval that covers both
abbrev pub union_box : List Interval → List Interval → List Interval
union_box a b = map (λ p. cover p.0 p.1) (zip a b)

-- no end of the inner box goes past the outer one's
abbrev pub Holds : List Interval → List Interval → Type 0
Holds outer inner = AllZip Covers outer inner

-- the squared distance of the doubled centres
abbrev pub centre_distance : List Interval → List Interval → ℕ
centre_distance a b = sum_by (λ p. apart p.0 p.1) (zip a b)
