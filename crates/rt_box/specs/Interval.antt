-- Intervals of whole numbers: the extent of a box on one axis, or what a window allows a coordinate.
use Rattle.std.specs.Prelude.{ℕ, ◌*◌, ℤ, pos, negsuc, ◌+ℤ◌, ◌-ℤ◌, ◌≤ℤ◌, unsigned_abs, FitsSigned}
use Rattle.std.specs.Int.{w32, int_min, int_max}
use Rattle.rt_box.specs.declared.interval.Interval.{Interval}

-- the interval from lo to hi, with both ends
abbrev pub interval : ℤ → ℤ → Interval
interval lo hi = record { lo = lo; hi = hi }

-- the number is in the interval; none is if lo is above hi
abbrev pub Includes : Interval → ℤ → Type 0
Includes i z = (i.lo ≤ℤ z) × (z ≤ℤ i.hi)

-- there is a number in the interval
abbrev pub HasNumbers : Interval → Type 0
HasNumbers i = i.lo ≤ℤ i.hi

-- neither end of the inner interval goes past the outer one's
abbrev pub Covers : Interval → Interval → Type 0
Covers outer inner = (outer.lo ≤ℤ inner.lo) × (inner.hi ≤ℤ outer.hi)

-- both ends have 32 bits
abbrev pub FitsEnds : Interval → Type 0
FitsEnds i = FitsSigned w32 i.lo × FitsSigned w32 i.hi

-- the number, or 0 if it is negative
abbrev pub or_zero : ℤ → ℕ
or_zero (pos n) = n
or_zero (negsuc n) = 0

-- how long the interval is: hi less lo, or 0 if lo is above hi
abbrev pub side : Interval → ℕ
side i = or_zero (i.hi -ℤ i.lo)

-- from the greatest lo to the least hi: what two intervals have in common
abbrev pub common_part : Interval → Interval → Interval
common_part a b = interval (int_max a.lo b.lo) (int_min a.hi b.hi)

-- from the least lo to the greatest hi: the shortest interval that covers both
abbrev pub cover : Interval → Interval → Interval
cover a b = interval (int_min a.lo b.lo) (int_max a.hi b.hi)

-- the squared distance of the doubled middles, which are whole numbers (own: doubled)
abbrev pub apart : Interval → Interval → ℕ
apart a b = let d = unsigned_abs ((a.lo +ℤ a.hi) -ℤ (b.lo +ℤ b.hi)) in d * d
