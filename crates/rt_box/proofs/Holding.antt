-- Boxes that hold boxes: unions, areas and overlaps.
use Rattle.std.proofs.Common.{◌≡◌, ℕ, ◌*◌, ◌<◌, ◌≤◌, List, [], ◌∷◌, length, get_or, All, arith, refl, ap, ◌∙◌}
use Rattle.std.proofs.Math.Nat.{mul-le-mul}
use Rattle.std.specs.Int.{int_min, int_max}
use Rattle.std.proofs.lemmas.Int.{ints, clamps}
use Rattle.rt_box.specs.declared.interval.Interval.{Interval}
use Rattle.rt_box.specs.Interval.{FitsEnds, Covers, side, interval, common_part, cover}
use Rattle.rt_box.specs.Rect.{IsBox, area, union_box, overlap, Holds}
use Rattle.rt_box.specs.Laws.{UnionIsLeast}
use Rattle.rt_box.proofs.Made.{IsOrdered}
use Rattle.rt_box.proofs.Intervals.{side-le, FitsEnds-cover}
use Rattle.rt_box.proofs.Measures.{length-paired, get_or-paired}

Covers-common_part : (a b c : Interval) → Covers a b → Covers (common_part a c) (common_part b c)
Covers-common_part a b c h = (omega (arith, ints, clamps, h), omega (arith, ints, clamps, h))

common_part_comm : (a b : Interval) → common_part a b ≡ common_part b a
common_part_comm a b =
    let e : int_max a.lo b.lo ≡ int_max b.lo a.lo = omega (arith, ints, clamps) in
    let f : int_min a.hi b.hi ≡ int_min b.hi a.hi = omega (arith, ints, clamps) in
    ap (λ x. interval x (int_min a.hi b.hi)) e ∙ ap (λ y. interval (int_max b.lo a.lo) y) f

pub Holds-union_left : (a b : List Interval) → length a ≡ length b → Holds (union_box a b) a
Holds-union_left [] b e = tt
Holds-union_left (x ∷ a) [] e = absurd (omega arith)
Holds-union_left (x ∷ a) (y ∷ b) e =
    ((omega (arith, ints, clamps), omega (arith, ints, clamps)), Holds-union_left a b (omega arith))

pub Holds-union_right : (a b : List Interval) → length a ≡ length b → Holds (union_box a b) b
Holds-union_right [] [] e = tt
Holds-union_right [] (y ∷ b) e = absurd (omega arith)
Holds-union_right (x ∷ a) [] e = absurd (omega arith)
Holds-union_right (x ∷ a) (y ∷ b) e =
    ((omega (arith, ints, clamps), omega (arith, ints, clamps)), Holds-union_right a b (omega arith))

-- a box that holds both holds their union
pub Holds-union_least : (c a b : List Interval) → Holds c a → Holds c b → Holds c (union_box a b)
Holds-union_least [] [] b h k = tt
Holds-union_least [] (x ∷ a) b h k = absurd h
Holds-union_least (z ∷ c) [] b h k = absurd h
Holds-union_least (z ∷ c) (x ∷ a) [] h k = absurd k
Holds-union_least (z ∷ c) (x ∷ a) (y ∷ b) h k =
    ((omega (arith, ints, clamps, h.0, k.0), omega (arith, ints, clamps, h.0, k.0)), Holds-union_least c a b h.1 k.1)

pub Holds_refl : (a : List Interval) → Holds a a
Holds_refl [] = tt
Holds_refl (x ∷ a) = ((omega (arith, ints), omega (arith, ints)), Holds_refl a)

pub Holds_trans : (a b c : List Interval) → Holds a b → Holds b c → Holds a c
Holds_trans [] [] c h k = k
Holds_trans [] (y ∷ b) c h k = absurd h
Holds_trans (x ∷ a) [] c h k = absurd h
Holds_trans (x ∷ a) (y ∷ b) [] h k = absurd k
Holds_trans (x ∷ a) (y ∷ b) (z ∷ c) h k =
    ((omega (arith, ints, h.0, k.0), omega (arith, ints, h.0, k.0)), Holds_trans a b c h.1 k.1)

-- a box that holds another has no smaller area
pub area-le : (outer inner : List Interval) → Holds outer inner → area inner ≤ area outer
area-le [] [] h = omega arith
area-le [] (y ∷ inner) h = absurd h
area-le (x ∷ outer) [] h = absurd h
area-le (x ∷ outer) (y ∷ inner) h = mul-le-mul (side-le x y h.0) (area-le outer inner h.1)

pub area-le-union : (a b : List Interval) → length a ≡ length b → area a ≤ area (union_box a b)
area-le-union a b e = area-le (union_box a b) a (Holds-union_left a b e)

pub overlap_comm : (a b : List Interval) → overlap a b ≡ overlap b a
overlap_comm [] [] = refl
overlap_comm [] (y ∷ b) = refl
overlap_comm (x ∷ a) [] = refl
overlap_comm (x ∷ a) (y ∷ b) = ap (λ i. side i * overlap a b) (common_part_comm x y) ∙ ap (λ n. side (common_part y x) * n) (overlap_comm a b)

-- an overlap grows with the first box, and with the second
pub overlap-le_left : (outer inner b : List Interval) → Holds outer inner → overlap inner b ≤ overlap outer b
overlap-le_left [] [] b h = omega arith
overlap-le_left [] (y ∷ inner) b h = absurd h
overlap-le_left (x ∷ outer) [] b h = absurd h
overlap-le_left (x ∷ outer) (y ∷ inner) [] h = omega arith
overlap-le_left (x ∷ outer) (y ∷ inner) (z ∷ b) h =
    mul-le-mul (side-le (common_part x z) (common_part y z) (Covers-common_part x y z h.0)) (overlap-le_left outer inner b h.1)

pub overlap-le_right : (a outer inner : List Interval) → Holds outer inner → overlap a inner ≤ overlap a outer
overlap-le_right a outer inner h = rw (overlap_comm a inner, overlap_comm a outer) (overlap-le_left outer inner a h)

IsOrdered-cover : (a b : Interval) → IsOrdered a → IsOrdered b → IsOrdered (cover a b)
IsOrdered-cover a b h k = omega (arith, ints, clamps)

-- what holds of both intervals' cover on each axis
All-union : (P : Interval → Type 0) → ((x y : Interval) → P x → P y → P (cover x y)) →
    (a b : List Interval) → All P a → All P b → All P (union_box a b)
All-union P keeps a b h k i d l =
    let in_a : i < length a = omega (arith, length-paired cover a b) in
    let in_b : i < length b = omega (arith, length-paired cover a b) in
    rw (get_or-paired cover a b i d d d in_a in_b) (keeps (get_or a i d) (get_or b i d) (h i d in_a) (k i d in_b))

-- the union of two boxes is a box
pub IsBox-union : (axes : ℕ) (a b : List Interval) → IsBox axes a → IsBox axes b → IsBox axes (union_box a b)
IsBox-union axes a b is_a is_b = record {
  some = is_a.some;
  few = is_a.few;
  axes_are = omega (arith, length-paired cover a b, is_a.axes_are, is_b.axes_are);
  ordered = All-union IsOrdered IsOrdered-cover a b is_a.ordered is_b.ordered;
  fits = All-union FitsEnds FitsEnds-cover a b is_a.fits is_b.fits;
}

pub union_is_least : UnionIsLeast
union_is_least axes a b is_a is_b =
    let same : length a ≡ length b = omega (arith, is_a.axes_are, is_b.axes_are) in
    (IsBox-union axes a b is_a is_b, Holds-union_left a b same, Holds-union_right a b same, (λ c h k. Holds-union_least c a b h k))
