-- Lemmas on intervals.
use Rattle.std.proofs.Common.{◌≡◌, ◌+◌, ◌^◌, ◌≤◌, max, ℤ, pos, negsuc, ◌-ℤ◌, ◌≤ℤ◌, arith}
use Rattle.std.proofs.lemmas.Int.{ints, clamps}
use borrow.Author.Differences.{up, down}
use Rattle.rt_box.specs.declared.interval.Interval.{Interval}
use Rattle.rt_box.specs.Interval.{FitsEnds, Covers, or_zero, side, common_part, cover}

or_zero_is : (z : ℤ) → or_zero z + down z ≡ max (up z) (down z)
or_zero_is (pos n) = omega arith
or_zero_is (negsuc n) = omega arith

-- a longer interval has no shorter side
pub or_zero-le : (y z : ℤ) → y ≤ℤ z → or_zero y ≤ or_zero z
or_zero-le (pos a) (pos b) h = omega (arith, ints)
or_zero-le (pos a) (negsuc b) h = omega (arith, ints)
or_zero-le (negsuc a) z h = omega arith

pub side-le : (outer inner : Interval) → Covers outer inner → side inner ≤ side outer
side-le outer inner h = or_zero-le (inner.hi -ℤ inner.lo) (outer.hi -ℤ outer.lo) (omega (arith, ints, h))

pub side-common_part-le : (a b : Interval) → side (common_part a b) ≤ side a
side-common_part-le a b = side-le a (common_part a b) (omega (arith, ints, clamps), omega (arith, ints, clamps))

pub side_bound : (i : Interval) → FitsEnds i → side i ≤ 2 ^ 32
side_bound i fits = omega (arith, ints, fits, or_zero_is (i.hi -ℤ i.lo))

pub FitsEnds-common_part : (a b : Interval) → FitsEnds a → FitsEnds b → FitsEnds (common_part a b)
FitsEnds-common_part a b f g = (omega (arith, ints, clamps, f, g), omega (arith, ints, clamps, f, g))

pub FitsEnds-cover : (a b : Interval) → FitsEnds a → FitsEnds b → FitsEnds (cover a b)
FitsEnds-cover a b f g = (omega (arith, ints, clamps, f, g), omega (arith, ints, clamps, f, g))
