-- Lemmas on the scale.
use Rattle.std.proofs.Common.{◌≡◌, ℕ, zero, suc, ◌+◌, ◌-◌, ◌*◌, ◌/◌, ◌≤◌, ◌<◌, min, Bool, true, false, ℤ, ◌-ℤ◌, ◌≤ℤ◌, ◌==◌, refl, arith}
use Rattle.std.specs.Prelude.{if◌then◌else◌}
use Rattle.std.proofs.lemmas.Int.{ints}
use Rattle.std.proofs.lemmas.Nat.{le-div}
use Rattle.std.proofs.Math.Nat.{div-mul-le_self}
use Rattle.rt_box.proofs.Intervals.{or_zero-le}
use Rattle.rt_check_draw.specs.Scale.{range, length_of, place_in, side_from}
use Rattle.rt_check_draw.specs.Laws.{ScaleIsMonotone, SidesKeepDirection, ScaleStaysInPlot}

positive : (n : ℕ) → (n == 0) ≡ false → 0 < n
positive zero e = let no : ⊥ = cc in absurd no
positive (suc n) e = omega arith

quotient-le : (n x y : ℕ) → 0 < n → x ≤ y → x * 80000 / n ≤ y * 80000 / n
quotient-le n x y some h =
    let down : x * 80000 / n * n ≤ x * 80000 = div-mul-le_self (x * 80000) n in
    le-div (x * 80000 / n) (y * 80000) n some (omega (arith, down, h))

scaled-le : (n x y : ℕ) → x ≤ y → (b : Bool) → (n == 0) ≡ b
    → (if b then 40000 else min (x * 80000 / n) 80000) ≤ (if b then 40000 else min (y * 80000 / n) 80000)
scaled-le n x y h true e = omega arith
scaled-le n x y h false e = let q = quotient-le n x y (positive n e) h in omega (arith, q)

scaled-bound : (n x : ℕ) (b : Bool) → (if b then 40000 else min (x * 80000 / n) 80000) ≤ 80000
scaled-bound n x true = omega arith
scaled-bound n x false = omega arith

length-le : (lo a b : ℤ) → a ≤ℤ b → length_of (range lo a) ≤ length_of (range lo b)
length-le lo a b h = or_zero-le (a -ℤ lo) (b -ℤ lo) (omega (arith, ints, h))

pub scale-monotone : ScaleIsMonotone
scale-monotone r a b h = scaled-le (length_of r) (length_of (range r.lo a)) (length_of (range r.lo b)) (length-le r.lo a b h) (length_of r == 0) refl

pub scale-bound : ScaleStaysInPlot
scale-bound r a = scaled-bound (length_of r) (length_of (range r.lo a)) (length_of r == 0)

-- a side that ends in the plot begins where its place is, or a least length before the plot's end
begins : (edge start end : ℕ) → start ≤ end → end ≤ 80000 → (side_from edge start end).start ≡ edge + min start 79800
begins edge start end order inside = omega (arith, order, inside)

pub keep-direction : SidesKeepDirection
keep-direction r one other order order' =
    let low : place_in r one.lo ≤ place_in r one.hi = scale-monotone r one.lo one.hi order in
    let low' : place_in r other.lo ≤ place_in r other.hi = scale-monotone r other.lo other.hi order' in
    let high : place_in r one.hi ≤ 80000 = scale-bound r one.hi in
    let high' : place_in r other.hi ≤ 80000 = scale-bound r other.hi in (
      λ h.
          let le : place_in r one.lo ≤ place_in r other.lo = scale-monotone r one.lo other.lo h in
          let here = begins 10000 (place_in r one.lo) (place_in r one.hi) low high in
          let there = begins 10000 (place_in r other.lo) (place_in r other.hi) low' high' in
          omega (arith, le, here, there),
      λ h.
          let le : place_in r one.hi ≤ place_in r other.hi = scale-monotone r one.hi other.hi h in
          let here = begins 4000 (80000 - place_in r one.hi) (80000 - place_in r one.lo) (omega (arith, low)) (omega arith) in
          let there = begins 4000 (80000 - place_in r other.hi) (80000 - place_in r other.lo) (omega (arith, low')) (omega arith) in
          omega (arith, le, here, there),
    )
