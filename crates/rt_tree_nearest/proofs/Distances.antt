-- Distances between boxes: their sums from axis to axis, those of boxes within one another, and those to a point.
use Rattle.std.proofs.Common.{◌≡◌, ℕ, ◌+◌, ◌<◌, ◌≤◌, ℤ, ◌≤ℤ◌, List, [], ◌∷◌, length, zip, get_or, take, sum_by, arith, refl, ap, sym, ◌∙◌}
use Rattle.std.specs.Prelude.{◌-ℤ◌}
use Rattle.std.proofs.Math.Nat.{mul-le-mul}
use Rattle.std.proofs.lemmas.Int.{ints}
use Rattle.std.proofs.lemmas.List.{take_all}
use Rattle.std.proofs.lemmas.List.Sums.{sum_by_more, sum_by-cons}
use Rattle.std.proofs.lemmas.Slice.Zip.{length-zip, get_or-zip}
use Rattle.rt_box.specs.declared.interval.Interval.{Interval}
use Rattle.rt_box.specs.Interval.{Covers, interval, or_zero}
use Rattle.rt_box.specs.Rect.{Holds}
use Rattle.rt_tree_nearest.specs.Nearest.{squared_gap, squared_distance, gap_between, squared_gap_between, box_distance, box_at}

abbrev apart : Interval × Interval → ℕ
apart p = squared_gap_between p.0 p.1

-- the part of a distance that the first axes give, one axis on
pub box_distance_more : (a b : List Interval) (i : ℕ) (x y : Interval) → i < length a → i < length b → x ≡ get_or a i x → y ≡ get_or b i y →
    sum_by (λ (p : Interval × Interval). squared_gap_between p.0 p.1) (take (i + 1) (zip a b))
    ≡ sum_by (λ (p : Interval × Interval). squared_gap_between p.0 p.1) (take i (zip a b)) + squared_gap_between x y
box_distance_more a b i x y h k x_is y_is =
    let so_far : ℕ = sum_by apart (take i (zip a b)) in
    sum_by_more apart (zip a b) i (x, y) (omega (arith, length-zip a b))
    ∙ ap (λ (p : Interval × Interval). so_far + apart p) (get_or-zip a b i (x, y) h k)
    ∙ ap (λ u. so_far + squared_gap_between u (get_or b i y)) (sym x_is)
    ∙ ap (λ u. so_far + squared_gap_between x u) (sym y_is)

pub box_distance_all : (a b : List Interval) (i : ℕ) → length a ≤ i →
    sum_by (λ (p : Interval × Interval). squared_gap_between p.0 p.1) (take i (zip a b)) ≡ box_distance a b
box_distance_all a b i h = ap (sum_by apart) (take_all i (zip a b) (omega (arith, length-zip a b)))

or_zero-le : (x y : ℤ) → x ≤ℤ y → or_zero x ≤ or_zero y
or_zero-le x y h = grind (arith, ints)

below-le : (a b z : ℤ) → a ≤ℤ b → (a -ℤ z) ≤ℤ (b -ℤ z)
below-le a b z h = omega (arith, ints)

above-le : (a b z : ℤ) → a ≤ℤ b → (z -ℤ b) ≤ℤ (z -ℤ a)
above-le a b z h = omega (arith, ints)

-- an interval is no farther from the one that covers another
pub gap-le : (outer inner other : Interval) → Covers outer inner → gap_between outer other ≤ gap_between inner other
gap-le outer inner other h =
    let low = or_zero-le (outer.lo -ℤ other.hi) (inner.lo -ℤ other.hi) (below-le outer.lo inner.lo other.hi h.0) in
    let high = or_zero-le (other.lo -ℤ outer.hi) (other.lo -ℤ inner.hi) (above-le inner.hi outer.hi other.lo h.1) in
    omega arith

-- a box is no farther from the one that holds another
pub distance-le : (outer inner target : List Interval) → Holds outer inner → box_distance outer target ≤ box_distance inner target
distance-le [] [] target h = omega arith
distance-le [] (y ∷ inner) target h = absurd h
distance-le (x ∷ outer) [] target h = absurd h
distance-le (x ∷ outer) (y ∷ inner) [] h = omega arith
distance-le (x ∷ outer) (y ∷ inner) (z ∷ target) h =
    let here = gap-le x y z h.0 in
    let square = mul-le-mul here here in
    omega (arith, square, distance-le outer inner target h.1, sum_by-cons apart (x, z) (zip outer target), sum_by-cons apart (y, z) (zip inner target))

-- the distance to the box of a point is that to the point
pub distance-at : (b : List Interval) (point : List ℤ) → box_distance b (box_at point) ≡ squared_distance b point
distance-at [] [] = refl
distance-at [] (z ∷ point) = refl
distance-at (x ∷ b) [] = refl
distance-at (x ∷ b) (z ∷ point) =
    let f : Interval × ℤ → ℕ = λ p. squared_gap p.0 p.1 in
    sum_by-cons apart (x, interval z z) (zip b (box_at point))
    ∙ ap (λ n. squared_gap x z + n) (distance-at b point)
    ∙ sym (sum_by-cons f (x, z) (zip b point))
