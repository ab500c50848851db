-- The window of a query: it admits each box within the limit; and the distances of boxes have 128 bits.
use Rattle.std.proofs.Common.{◌≡◌, ℕ, zero, suc, ◌+◌, ◌*◌, ◌<◌, ◌≤◌, ℤ, pos, ◌≤ℤ◌, ◌+ℤ◌, List, [], ◌∷◌, length, zip, get_or, arith, refl, ap, sym, ◌∙◌, subst, inl, inr}
use Rattle.std.specs.Prelude.{◌-ℤ◌}
use Rattle.std.proofs.Math.Nat.{mul-le-mul}
use Rattle.std.proofs.lemmas.Bool.{cases_lt}
use Rattle.std.proofs.lemmas.Int.{ints}
use Rattle.std.proofs.lemmas.List.Sums.{sum_by-cons}
use Rattle.rt_box.specs.declared.interval.Interval.{Interval}
use Rattle.rt_box.specs.declared.operator.Operator.TheVariants.{Le, Ge}
use Rattle.rt_box.specs.Interval.{or_zero}
use Rattle.rt_box.specs.Rect.{coordinates}
use Rattle.rt_box.specs.Window.{Narrows, IsUnlimited}
use Rattle.rt_box.proofs.Narrowing.{length-coordinates, Admits-narrowed, Admits-unlimited}
use Rattle.rt_tree_nearest.specs.Nearest.{gap_between, squared_gap_between, box_distance}
use Rattle.rt_tree_nearest.specs.Candidates.{AdmitsNear}

abbrev apart : Interval × Interval → ℕ
apart p = squared_gap_between p.0 p.1

lo-at : (b : List Interval) (i k : ℕ) (d : Interval) → k ≡ 2 * i → i < length b → get_or (coordinates b) k (pos 0) ≡ (get_or b i d).lo
lo-at [] i k d e h = absurd (omega arith)
lo-at (x ∷ b) zero k d e h = let none : k ≡ 0 = omega (arith, e) in ap (λ n. get_or (coordinates (x ∷ b)) n (pos 0)) none
lo-at (x ∷ b) (suc i) zero d e h = absurd (omega (arith, e))
lo-at (x ∷ b) (suc i) (suc zero) d e h = absurd (omega (arith, e))
lo-at (x ∷ b) (suc i) (suc (suc k)) d e h = lo-at b i k d (omega (arith, e)) (omega arith)

hi-at : (b : List Interval) (i k : ℕ) (d : Interval) → k ≡ 2 * i + 1 → i < length b → get_or (coordinates b) k (pos 0) ≡ (get_or b i d).hi
hi-at [] i k d e h = absurd (omega arith)
hi-at (x ∷ b) zero k d e h = let one : k ≡ 1 = omega (arith, e) in ap (λ n. get_or (coordinates (x ∷ b)) n (pos 0)) one
hi-at (x ∷ b) (suc i) zero d e h = absurd (omega (arith, e))
hi-at (x ∷ b) (suc i) (suc zero) d e h = absurd (omega (arith, e))
hi-at (x ∷ b) (suc i) (suc (suc k)) d e h = hi-at b i k d (omega (arith, e)) (omega arith)

-- what an axis adds is at most the distance
axis-le : (b target : List Interval) (n : ℕ) (d : Interval) → n < length b → n < length target →
    squared_gap_between (get_or b n d) (get_or target n d) ≤ box_distance b target
axis-le [] target n d h k = absurd (omega arith)
axis-le (x ∷ b) [] n d h k = absurd (omega arith)
axis-le (x ∷ b) (y ∷ target) zero d h k = omega (arith, sum_by-cons apart (x, y) (zip b target))
axis-le (x ∷ b) (y ∷ target) (suc n) d h k = omega (arith, axis-le b target n d (omega arith) (omega arith), sum_by-cons apart (x, y) (zip b target))

root-le : (g root square limit : ℕ) → g * g ≤ square → square ≤ limit → limit < (root + 1) * (root + 1) → g ≤ root
root-le g root square limit low high next = elim (cases_lt root g) [
  | inl far ↦
      let above : root + 1 ≤ g = omega arith in
      let more : (root + 1) * (root + 1) ≤ g * g = mul-le-mul above above in
      absurd (omega (arith, more, low, high, next))
  | inr near ↦ omega (arith, near)
]

begins-by : (i j : Interval) (root : ℕ) → gap_between i j ≤ root → i.lo ≤ℤ (j.hi +ℤ pos root)
begins-by i j root h =
    let low : or_zero (i.lo -ℤ j.hi) ≤ root = omega (arith, h) in
    within (i.lo) j.hi root low
  where
    within : (x y : ℤ) (n : ℕ) → or_zero (x -ℤ y) ≤ n → x ≤ℤ (y +ℤ pos n)
    within x y n h = grind (arith, ints)

ends-from : (i j : Interval) (root : ℕ) → gap_between i j ≤ root → (j.lo -ℤ pos root) ≤ℤ i.hi
ends-from i j root h =
    let high : or_zero (j.lo -ℤ i.hi) ≤ root = omega (arith, h) in
    within j.lo i.hi root high
  where
    within : (x y : ℤ) (n : ℕ) → or_zero (x -ℤ y) ≤ n → (x -ℤ pos n) ≤ℤ y
    within x y n h = grind (arith, ints)

pub aimed-all : (axes : ℕ) (target window : List Interval) (limit : ℕ) → IsUnlimited axes window → AdmitsNear axes target limit window
aimed-all axes target window limit unlimited = λ b is near. Admits-unlimited axes window b unlimited is

pub aimed-more : (axes n root limit : ℕ) (target old mid new : List Interval) (x : Interval) (hi lo : ℤ) → hi ≡ (x.hi +ℤ pos root) → lo ≡ (x.lo -ℤ pos root) →
    limit < (root + 1) * (root + 1) → n < axes → length target ≡ axes → length old ≡ 2 * axes → x ≡ get_or target n x →
    Narrows old mid (2 * n) Le hi → Narrows mid new (2 * n + 1) Ge lo → AdmitsNear axes target limit old → AdmitsNear axes target limit new
aimed-more axes n root limit target old mid new x hi lo p q next h l o e first second so = λ b is near.
    let long : length (coordinates b) ≡ 2 * axes = omega (arith, length-coordinates b, is.axes_are) in
    let one = Admits-narrowed old mid b (2 * n) Le hi (o ∙ sym long) (omega (arith, o, h)) first in
    let two = Admits-narrowed mid new b (2 * n + 1) Ge lo (first.long ∙ o ∙ sym long) (omega (arith, first.long, o, h)) second in
    let y = get_or b n x in
    let axis : squared_gap_between y x ≤ box_distance b target =
    subst (λ (z : Interval). squared_gap_between y z ≤ box_distance b target) (sym e) (axis-le b target n x (omega (arith, is.axes_are, h)) (omega (arith, l, h))) in
    let gap : gap_between y x ≤ root = root-le (gap_between y x) root (box_distance b target) limit axis near next in
    let low : get_or (coordinates b) (2 * n) (pos 0) ≡ y.lo = lo-at b n (2 * n) x refl (omega (arith, is.axes_are, h)) in
    let high : get_or (coordinates b) (2 * n + 1) (pos 0) ≡ y.hi = hi-at b n (2 * n + 1) x refl (omega (arith, is.axes_are, h)) in
    two.1 (
      one.1 (so b is near, subst (λ (z : ℤ). z ≤ℤ hi) (sym low) (subst (λ (z : ℤ). y.lo ≤ℤ z) (sym p) (begins-by y x root gap))),
      subst (λ (z : ℤ). lo ≤ℤ z) (sym high) (subst (λ (z : ℤ). z ≤ℤ y.hi) (sym q) (ends-from y x root gap)),
    )
