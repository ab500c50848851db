-- Lemmas on windows, and on points of boxes.
use Rattle.std.proofs.Common.{◌≡◌, ℕ, zero, suc, ◌+◌, ◌*◌, ◌<◌, ◌≤◌, ◌↔◌, ℤ, pos, ◌≤ℤ◌, ◌<ℤ◌, negsuc, FitsSigned, w32, List, [], ◌∷◌, length, get_or, All, arith, refl, subst, Bool, true, false, inl, inr}
use Rattle.std.proofs.lemmas.Bool.{cases_eq}
use Rattle.std.specs.Int.{int_max}
use Rattle.std.specs.List.{AllZip}
use Rattle.std.proofs.lemmas.Int.{ints, clamps}
use Rattle.std.proofs.lemmas.List.Elements.{All-head, All-tail}
use Rattle.rt_box.specs.declared.interval.Interval.{Interval}
use Rattle.rt_box.specs.declared.operator.Operator.{Operator}
use Rattle.rt_box.specs.declared.operator.Operator.TheVariants.{Lt, Le, Ge}
use Rattle.rt_box.specs.Operators.{Keeps}
use Rattle.rt_box.specs.Interval.{FitsEnds}
use Rattle.rt_box.specs.Rect.{IsBox, los, his, coordinates}
use Rattle.rt_box.specs.Window.{Admits, Narrows, IsUnlimited}
use Rattle.rt_box.proofs.Made.{IsOrdered}
use Rattle.rt_box.proofs.Lists.{AllZip-get_or_both}
use Rattle.rt_box.proofs.Narrowing.{length-coordinates, Admits-narrowed, Admits-unlimited}
use Rattle.rt_calls.specs.Relations.{HasCommonPoint, Relates}
use Rattle.rt_calls.specs.Windows.{Compared}
use Rattle.rt_calls.specs.declared.relation.Relation.TheVariants.{Within, Holds}

-- the coordinates of an axis
pub lo_at : (b : List Interval) (i k : ℕ) (z : ℤ) → k ≡ 2 * i → get_or (coordinates b) k z ≡ get_or (los b) i z
lo_at [] i k z is = refl
lo_at (x ∷ b) zero zero z is = refl
lo_at (x ∷ b) zero (suc k) z is = absurd (omega arith)
lo_at (x ∷ b) (suc i) zero z is = absurd (omega arith)
lo_at (x ∷ b) (suc i) (suc zero) z is = absurd (omega arith)
lo_at (x ∷ b) (suc i) (suc (suc k)) z is = lo_at b i k z (omega arith)

pub hi_at : (b : List Interval) (i k : ℕ) (z : ℤ) → k ≡ 2 * i + 1 → get_or (coordinates b) k z ≡ get_or (his b) i z
hi_at [] i k z is = refl
hi_at (x ∷ b) i zero z is = absurd (omega arith)
hi_at (x ∷ b) zero (suc zero) z is = refl
hi_at (x ∷ b) zero (suc (suc k)) z is = absurd (omega arith)
hi_at (x ∷ b) (suc i) (suc zero) z is = absurd (omega arith)
hi_at (x ∷ b) (suc i) (suc (suc k)) z is = hi_at b i k z (omega arith)

pub length-los : (b : List Interval) → length (los b) ≡ length b
length-los [] = refl
length-los (x ∷ b) = omega (arith, length-los b)

pub length-his : (b : List Interval) → length (his b) ≡ length b
length-his [] = refl
length-his (x ∷ b) = omega (arith, length-his b)

pub zip_by : (R : ℤ → ℤ → Type 0) (xs ys : List ℤ) → length xs ≡ length ys → ((k : ℕ) → k < length xs → R (get_or xs k (pos 0)) (get_or ys k (pos 0))) → AllZip R xs ys
zip_by R [] [] e h = tt
zip_by R [] (y ∷ ys) e h = absurd (omega arith)
zip_by R (x ∷ xs) [] e h = absurd (omega arith)
zip_by R (x ∷ xs) (y ∷ ys) e h = (h 0 (omega arith), zip_by R xs ys (omega arith) (λ k l. h (suc k) (omega arith)))

pub zip_below : (xs ys : List ℤ) → length xs ≡ length ys → ((k : ℕ) → k < length xs → get_or xs k (pos 0) ≤ℤ get_or ys k (pos 0)) → AllZip ◌≤ℤ◌ xs ys
zip_below = zip_by ◌≤ℤ◌

-- ---- windows
module _ (first second : Operator) where
  -- the comparisons hold on each of the first axes
  pub record ComparedBelow (n : ℕ) (least greatest : List ℤ) (rect : List Interval) : Type 0 where
    pub lo : (k : ℕ) → k < n → Keeps first (get_or (los rect) k (pos 0)) (get_or least k (pos 0))
    pub hi : (k : ℕ) → k < n → Keeps second (get_or (his rect) k (pos 0)) (get_or greatest k (pos 0))

  pub compared_below : (n : ℕ) (least greatest : List ℤ) (rect : List Interval) → length least ≡ n → length greatest ≡ n → length rect ≡ n →
      Compared first least second greatest rect ↔ ComparedBelow n least greatest rect
  compared_below n least greatest rect least_long greatest_long long = (
    (λ r. record {
      lo = λ k h. AllZip-get_or_both (Keeps first) (los rect) least k (pos 0) (pos 0) r.0 (omega (arith, length-los rect));
      hi = λ k h. AllZip-get_or_both (Keeps second) (his rect) greatest k (pos 0) (pos 0) r.1 (omega (arith, length-his rect));
    }),
    (λ b. (
      zip_by (Keeps first) (los rect) least (omega (arith, length-los rect)) (λ k h. b.lo k (omega (arith, length-los rect))),
      zip_by (Keeps second) (his rect) greatest (omega (arith, length-his rect)) (λ k h. b.hi k (omega (arith, length-his rect))),
    )),
  )

  below_none : (least greatest : List ℤ) (rect : List Interval) → ComparedBelow 0 least greatest rect
  below_none least greatest rect = record { lo = λ k h. absurd (omega arith); hi = λ k h. absurd (omega arith) }

  pub admits_at_first : (D : ℕ) (least greatest : List ℤ) (window rect : List Interval) → IsUnlimited D window → IsBox D rect →
      Admits window rect ↔ ComparedBelow 0 least greatest rect
  admits_at_first D least greatest window rect all is = ((λ a. below_none least greatest rect), (λ b. Admits-unlimited D window rect all is))

  below_more : (n : ℕ) (least greatest : List ℤ) (rect : List Interval) → ComparedBelow n least greatest rect →
      Keeps first (get_or (los rect) n (pos 0)) (get_or least n (pos 0)) → Keeps second (get_or (his rect) n (pos 0)) (get_or greatest n (pos 0)) →
      ComparedBelow (n + 1) least greatest rect
  below_more n least greatest rect b lo hi = record {
    lo = λ k h. elim (cases_eq k n) [ inl same ↦ rw same lo | inr ne ↦ b.lo k (omega arith) ];
    hi = λ k h. elim (cases_eq k n) [ inl same ↦ rw same hi | inr ne ↦ b.hi k (omega arith) ];
  }

  below_less : (n : ℕ) (least greatest : List ℤ) (rect : List Interval) → ComparedBelow (n + 1) least greatest rect → ComparedBelow n least greatest rect
  below_less n least greatest rect b = record { lo = λ k h. b.lo k (omega arith); hi = λ k h. b.hi k (omega arith) }

  -- a window that is narrowed on one axis more
  pub admits_more : (D n : ℕ) (least greatest : List ℤ) (before between after rect : List Interval) → IsBox D rect → n < D → length before ≡ 2 * D →
      (Admits before rect ↔ ComparedBelow n least greatest rect) →
      Narrows before between (2 * n) first (get_or least n (pos 0)) → Narrows between after (2 * n + 1) second (get_or greatest n (pos 0)) →
      Admits after rect ↔ ComparedBelow (n + 1) least greatest rect
  admits_more D n least greatest before between after rect is h long was one_narrows two_narrows =
      let coordinates_long : length (coordinates rect) ≡ 2 * D = omega (arith, length-coordinates rect, is.axes_are) in
      let one = Admits-narrowed before between rect (2 * n) first (get_or least n (pos 0)) (omega arith) (omega arith) one_narrows in
      let two = Admits-narrowed between after rect (2 * n + 1) second (get_or greatest n (pos 0)) (omega (arith, one_narrows.long)) (omega (arith, one_narrows.long)) two_narrows in
      let lo = lo_at rect n (2 * n) (pos 0) refl in let hi = hi_at rect n (2 * n + 1) (pos 0) refl in (
        (λ a. let late = two.0 a in let early = one.0 late.0 in below_more n least greatest rect (was.0 early.0) (rw lo at early.1) (rw hi at late.1)),
        (λ b. two.1 (one.1 (was.1 (below_less n least greatest rect b), rw lo (b.lo n (omega arith))), rw hi (b.hi n (omega arith)))),
      )

  pub admits_at_last : (D n : ℕ) (least greatest : List ℤ) (window rect : List Interval) → n ≡ D → length least ≡ D → length greatest ≡ D → IsBox D rect →
      (Admits window rect ↔ ComparedBelow n least greatest rect) → Admits window rect ↔ Compared first least second greatest rect
  admits_at_last D n least greatest window rect last least_long greatest_long is was =
      let both = compared_below n least greatest rect (omega arith) (omega arith) (omega (arith, is.axes_are)) in
      ((λ a. both.1 (was.0 a)), (λ r. was.1 (both.0 r)))

-- no 32-bit number is below the least one
pub admits_none : (D : ℕ) (value : ℤ) (all window rect : List Interval) → 1 ≤ D → IsUnlimited D all → Narrows all window 0 Lt value →
    value ≤ℤ negsuc 2147483647 → IsBox D rect → Admits window rect → ⊥
admits_none D value all window [] some unlimited narrows least is admitted = absurd (omega (arith, is.axes_are))
admits_none D value all window (x ∷ b) some unlimited narrows least is admitted =
    let long : length (coordinates (x ∷ b)) ≡ 2 * D = omega (arith, length-coordinates (x ∷ b), is.axes_are) in
    let both = (Admits-narrowed all window (x ∷ b) 0 Lt value (omega (arith, unlimited.long)) (omega (arith, unlimited.long)) narrows).0 admitted in
    let below : x.lo <ℤ value = both.1 in
    let fits : FitsSigned w32 x.lo = (All-head FitsEnds x b is.fits).0 in
    omega (arith, ints)

-- the number that a window was narrowed by, as it came
pub narrowed_by : (before after : List Interval) (coordinate : ℕ) (op : Operator) (given value : ℤ) → given ≡ value →
    Narrows before after coordinate op given → Narrows before after coordinate op value
narrowed_by before after coordinate op given value e narrows = let P : ℤ → Type 0 = λ z. Narrows before after coordinate op z in subst P e narrows

pub clash : {P : Type 0} (b : Bool) → b ≡ true → b ≡ false → P
clash b h k = cc

-- ---- points
-- a box has its least point and its greatest one
zip_refl : (xs : List ℤ) → AllZip ◌≤ℤ◌ xs xs
zip_refl [] = tt
zip_refl (x ∷ xs) = (omega (arith, ints), zip_refl xs)

zip_back : (xs ys : List ℤ) → AllZip (Keeps Ge) xs ys ↔ AllZip ◌≤ℤ◌ ys xs
zip_back [] [] = ((λ h. tt), (λ h. tt))
zip_back [] (y ∷ ys) = ((λ h. absurd h), (λ h. absurd h))
zip_back (x ∷ xs) [] = ((λ h. absurd h), (λ h. absurd h))
zip_back (x ∷ xs) (y ∷ ys) = let rest = zip_back xs ys in ((λ h. (h.0, rest.0 h.1)), (λ h. (h.0, rest.1 h.1)))

sides_ordered : (rect : List Interval) → All IsOrdered rect → AllZip ◌≤ℤ◌ (los rect) (his rect)
sides_ordered [] h = tt
sides_ordered (x ∷ b) h = (All-head IsOrdered x b h, sides_ordered b (All-tail IsOrdered x b h))

-- a box that reaches on each axis has a point in common with a box that is none the less one
meets_of_reaches : (min max : List ℤ) (rect : List Interval) → AllZip ◌≤ℤ◌ min max → All IsOrdered rect → AllZip ◌≤ℤ◌ (los rect) max × AllZip ◌≤ℤ◌ min (his rect) → HasCommonPoint min max rect
meets_of_reaches [] [] [] same ordered r = record { point = []; here = (tt, tt); there = (tt, tt) }
meets_of_reaches [] [] (x ∷ b) same ordered r = absurd r.0
meets_of_reaches [] (h ∷ max) b same ordered r = absurd same
meets_of_reaches (l ∷ min) [] b same ordered r = absurd same
meets_of_reaches (l ∷ min) (h ∷ max) [] same ordered r = absurd r.0
meets_of_reaches (l ∷ min) (h ∷ max) (x ∷ b) same ordered r =
    let rest = meets_of_reaches min max b same.1 (All-tail IsOrdered x b ordered) (r.0.1, r.1.1) in
    let order : x.lo ≤ℤ x.hi = All-head IsOrdered x b ordered in
    let least : l ≤ℤ h = same.0 in
    let lo : x.lo ≤ℤ h = r.0.0 in
    let hi : l ≤ℤ x.hi = r.1.0 in
    record {
      point = int_max l x.lo ∷ rest.point;
      here = ((omega (arith, ints, clamps), rest.here.0), (omega (arith, ints, clamps), rest.here.1));
      there = ((omega (arith, ints, clamps), rest.there.0), (omega (arith, ints, clamps), rest.there.1));
    }

le_trans : (a b c : ℤ) → a ≤ℤ b → b ≤ℤ c → a ≤ℤ c
le_trans a b c h k = omega (arith, ints)

zip_trans : (a b c : List ℤ) → AllZip ◌≤ℤ◌ a b → AllZip ◌≤ℤ◌ b c → AllZip ◌≤ℤ◌ a c
zip_trans [] [] [] h k = tt
zip_trans [] [] (z ∷ c) h k = absurd k
zip_trans [] (y ∷ b) c h k = absurd h
zip_trans (x ∷ a) [] c h k = absurd h
zip_trans (x ∷ a) (y ∷ b) [] h k = absurd k
zip_trans (x ∷ a) (y ∷ b) (z ∷ c) h k = (le_trans x y z h.0 k.0, zip_trans a b c h.1 k.1)

-- which boxes touch a window that has a point
pub touch_of_compared : (min max : List ℤ) (rect : List Interval) → AllZip ◌≤ℤ◌ min max → All IsOrdered rect → Compared Le max Ge min rect → HasCommonPoint min max rect
touch_of_compared min max rect same ordered c = meets_of_reaches min max rect same ordered (c.0, (zip_back (his rect) min).0 c.1)

pub compared_of_touch : (min max : List ℤ) (rect : List Interval) → HasCommonPoint min max rect → Compared Le max Ge min rect
compared_of_touch min max rect h = (zip_trans (los rect) h.point max h.there.0 h.here.1, (zip_back (his rect) min).1 (zip_trans min h.point (his rect) h.here.0 h.there.1))

pub least_of_common : (min max : List ℤ) (rect : List Interval) → HasCommonPoint min max rect → AllZip ◌≤ℤ◌ min max
least_of_common min max rect h = zip_trans min h.point max h.here.0 h.here.1

-- which lie within one
pub within_of_compared : (min max : List ℤ) (rect : List Interval) → Compared Ge min Le max rect → Relates Within min max rect
within_of_compared min max rect c point lies =
    (zip_trans min (los rect) point ((zip_back (los rect) min).0 c.0) lies.0, zip_trans point (his rect) max lies.1 c.1)

pub compared_of_within : (min max : List ℤ) (rect : List Interval) → All IsOrdered rect → Relates Within min max rect → Compared Ge min Le max rect
compared_of_within min max rect ordered h =
    let sides = sides_ordered rect ordered in
    ((zip_back (los rect) min).1 (h (los rect) (zip_refl (los rect), sides)).0, (h (his rect) (sides, zip_refl (his rect))).1)

-- and which hold one
pub holds_of_compared : (min max : List ℤ) (rect : List Interval) → Compared Le min Ge max rect → Relates Holds min max rect
holds_of_compared min max rect c point lies =
    (zip_trans (los rect) min point c.0 lies.0, zip_trans point max (his rect) lies.1 ((zip_back (his rect) max).0 c.1))

pub compared_of_holds : (min max : List ℤ) (rect : List Interval) → AllZip ◌≤ℤ◌ min max → Relates Holds min max rect → Compared Le min Ge max rect
compared_of_holds min max rect same h = ((h min (zip_refl min, same)).0, (zip_back (his rect) max).1 (h max (same, zip_refl max)).1)

-- a window without a point
pub holds_of_none : (min max : List ℤ) (rect : List Interval) → (AllZip ◌≤ℤ◌ min max → ⊥) → Relates Holds min max rect
holds_of_none min max rect none point lies = absurd (none (zip_trans min point max lies.0 lies.1))
