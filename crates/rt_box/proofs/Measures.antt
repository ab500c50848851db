-- Bounds of a box's measures, and their steps from axis to axis.
use Rattle.std.proofs.Common.{◌≡◌, ℕ, zero, suc, ◌+◌, ◌*◌, ◌^◌, ◌<◌, ◌≤◌, min, List, [], ◌∷◌, length, map, zip, get_or, take, sum_by, All, arith, refl, ap, sym, ◌∙◌}
use Rattle.std.proofs.Math.Nat.{mul-le-mul, mul-le-mul_right}
use Rattle.std.proofs.lemmas.List.{length-map, length-take, take_all}
use Rattle.std.proofs.lemmas.List.Elements.{All-take}
use Rattle.std.proofs.lemmas.List.Sums.{sum_by-le, sum_by_more}
use Rattle.std.proofs.lemmas.Slice.Zip.{length-zip, get_or-zip}
use Rattle.rt_box.specs.declared.interval.Interval.{Interval}
use Rattle.rt_box.specs.Interval.{side, common_part, apart}
use Rattle.rt_box.specs.Rect.{IsBox, area, margin, common_box, overlap, centre_distance}
use Rattle.rt_box.proofs.Intervals.{side_bound, side-common_part-le}
use Rattle.rt_box.proofs.Lists.{product-map_more}

-- no side is longer than the 32-bit numbers allow
abbrev pub FitsSide : Interval → Type 0
FitsSide i = side i ≤ 2 ^ 32

pub FitsSide-box : (axes : ℕ) (b : List Interval) → IsBox axes b → All FitsSide b
FitsSide-box axes b is i d h = side_bound (get_or b i d) (is.fits i d h)

pub area_bound : (b : List Interval) → All FitsSide b → length b ≤ 3 → area b ≤ 2 ^ 96
area_bound [] fits few = omega arith
area_bound (x ∷ []) fits few = omega (arith, fits 0 x (omega arith))
area_bound (x ∷ y ∷ []) fits few =
    let first : side x ≤ 2 ^ 32 = fits 0 x (omega arith) in
    let second : side y ≤ 2 ^ 32 = fits 1 y (omega arith) in
    omega (arith, mul-le-mul first second)
area_bound (x ∷ y ∷ z ∷ []) fits few =
    let first : side x ≤ 2 ^ 32 = fits 0 x (omega arith) in
    let second : side y ≤ 2 ^ 32 = fits 1 y (omega arith) in
    let third : side z ≤ 2 ^ 32 = fits 2 z (omega arith) in
    omega (arith, mul-le-mul first (mul-le-mul second third))
area_bound (x ∷ y ∷ z ∷ w ∷ b) fits few = absurd (omega arith)

pub area-take_bound : (b : List Interval) (i : ℕ) → All FitsSide b → length b ≤ 3 → area (take i b) ≤ 2 ^ 96
area-take_bound b i fits few =
    area_bound (take i b) (All-take FitsSide i b fits) (omega (arith, length-take i b))

pub area_more : (b : List Interval) (i : ℕ) (d : Interval) → i < length b →
    area (take (i + 1) b) ≡ area (take i b) * side (get_or b i d)
area_more b i d h = product-map_more side b i d h

pub margin_bound : (b : List Interval) → All FitsSide b → length b ≤ 3 → margin b ≤ 2 ^ 34
margin_bound b fits few = omega (arith, sum_by-le side (2 ^ 32) b fits, mul-le-mul_right (2 ^ 32) few)

pub margin-take_bound : (b : List Interval) (i : ℕ) → All FitsSide b → length b ≤ 3 → margin (take i b) ≤ 2 ^ 34
margin-take_bound b i fits few =
    margin_bound (take i b) (All-take FitsSide i b fits) (omega (arith, length-take i b))

-- ---- what two boxes make together: on each axis f of their intervals

pub length-paired : {X : Type 0} (f : Interval → Interval → X) (a b : List Interval) →
    length (map (λ (p : Interval × Interval). f p.0 p.1) (zip a b)) ≡ min (length a) (length b)
length-paired f a b = length-map (zip a b) (λ (p : Interval × Interval). f p.0 p.1) ∙ length-zip a b

pub get_or-paired : {X : Type 0} (f : Interval → Interval → X) (a b : List Interval) (i : ℕ) (d : X) (x y : Interval) →
    i < length a → i < length b →
    get_or (map (λ (p : Interval × Interval). f p.0 p.1) (zip a b)) i d ≡ f (get_or a i x) (get_or b i y)
get_or-paired f [] b i d x y h k = absurd (omega arith)
get_or-paired f (z ∷ a) [] i d x y h k = absurd (omega arith)
get_or-paired f (z ∷ a) (w ∷ b) zero d x y h k = refl
get_or-paired f (z ∷ a) (w ∷ b) (suc i) d x y h k = get_or-paired f a b i d x y (omega arith) (omega arith)

FitsSide-common_box : (a b : List Interval) → All FitsSide a → All FitsSide (common_box a b)
FitsSide-common_box a b fits i d h =
    let in_a : i < length a = omega (arith, length-paired common_part a b) in
    let in_b : i < length b = omega (arith, length-paired common_part a b) in
    rw (get_or-paired common_part a b i d d d in_a in_b)
    (omega (arith, fits i d in_a, side-common_part-le (get_or a i d) (get_or b i d)))

-- the part of an overlap that the first axes give, one axis on, where x and y are the intervals there
pub overlap_more : (a b : List Interval) (i : ℕ) (x y : Interval) → i < length a → i < length b →
    x ≡ get_or a i x → y ≡ get_or b i y →
    area (take (i + 1) (common_box a b)) ≡ area (take i (common_box a b)) * side (common_part x y)
overlap_more a b i x y h k x_is y_is =
    area_more (common_box a b) i x (omega (arith, length-paired common_part a b))
    ∙ ap (λ s. area (take i (common_box a b)) * side s) (get_or-paired common_part a b i x x y h k)
    ∙ ap (λ u. area (take i (common_box a b)) * side (common_part u (get_or b i y))) (sym x_is)
    ∙ ap (λ v. area (take i (common_box a b)) * side (common_part x v)) (sym y_is)

pub overlap-take_bound : (a b : List Interval) (i : ℕ) → All FitsSide a → length a ≤ 3 → area (take i (common_box a b)) ≤ 2 ^ 96
overlap-take_bound a b i fits few =
    area-take_bound (common_box a b) i (FitsSide-common_box a b fits) (omega (arith, length-paired common_part a b))

pub overlap_all : (a b : List Interval) (i : ℕ) → length a ≤ i → area (take i (common_box a b)) ≡ overlap a b
overlap_all a b i h = ap area (take_all i (common_box a b) (omega (arith, length-paired common_part a b)))

-- the part of a distance that the first axes give, one axis on
pub centre_distance_more : (a b : List Interval) (i : ℕ) (x y : Interval) → i < length a → i < length b →
    x ≡ get_or a i x → y ≡ get_or b i y →
    sum_by (λ (p : Interval × Interval). apart p.0 p.1) (take (i + 1) (zip a b))
    ≡ sum_by (λ (p : Interval × Interval). apart p.0 p.1) (take i (zip a b)) + apart x y
centre_distance_more a b i x y h k x_is y_is =
    let so_far : ℕ = sum_by (λ (p : Interval × Interval). apart p.0 p.1) (take i (zip a b)) in
    sum_by_more (λ (p : Interval × Interval). apart p.0 p.1) (zip a b) i (x, y) (omega (arith, length-zip a b))
    ∙ ap (λ (p : Interval × Interval). so_far + apart p.0 p.1) (get_or-zip a b i (x, y) h k)
    ∙ ap (λ u. so_far + apart u (get_or b i y)) (sym x_is)
    ∙ ap (λ v. so_far + apart x v) (sym y_is)

pub centre_distance_all : (a b : List Interval) (i : ℕ) → length a ≤ i →
    sum_by (λ (p : Interval × Interval). apart p.0 p.1) (take i (zip a b)) ≡ centre_distance a b
centre_distance_all a b i h = ap (sum_by (λ (p : Interval × Interval). apart p.0 p.1)) (take_all i (zip a b) (omega (arith, length-zip a b)))
