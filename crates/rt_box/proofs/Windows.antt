-- Lemmas on windows.
use Rattle.std.proofs.Common.{◌≡◌, ℕ, zero, suc, ◌+◌, ◌*◌, ◌<◌, ◌↔◌, Bool, ℤ, pos, ◌≤ℤ◌, List, [], ◌∷◌, length, map, get_or, set, replicate, All, arith, refl, ap, sym, subst, ◌∙◌, w32, FitsSigned}
use Rattle.std.specs.Int.{int_min, int_max}
use Rattle.std.proofs.lemmas.Int.{ints, clamps}
use Rattle.std.proofs.lemmas.List.{length-map, length-set, get_or_default, get_or-map, get_or-set_same, get_or-set_other, length-replicate}
use Rattle.std.proofs.lemmas.List.Elements.{All-head, All-tail, All-nil, All-cons, All-get_or, All-map, All-weaker}
use lib.Pointwise.{pointwise}
use Rattle.rt_box.specs.declared.interval.Interval.{Interval}
use Rattle.rt_box.specs.declared.operator.Operator.{Operator}
use Rattle.rt_box.specs.declared.window.Ends.{Ends}
use Rattle.rt_box.specs.Interval.{interval, HasNumbers, Includes, Covers, FitsEnds}
use Rattle.rt_box.specs.Operators.{Keeps}
use Rattle.rt_box.specs.Rect.{IsBox, Holds}
use Rattle.rt_box.specs.Ends.{in_order, paired_up, paired_up-in_order, AdmitsSide, AdmitsAxis, AreAround, AdmitsWithinSide, MayHoldSide, Reaches, HasCore}
use Rattle.rt_box.proofs.Made.{IsOrdered}
use Rattle.rt_box.specs.Window.{Allows, IsUnlimited, IsAround, Narrows, Admits, AdmitsWithin, MayHold, IsReach, IsCore}

-- two windows are equal exactly where their pairs are
pub pointwise-paired_up : (same : Ends → Ends → Bool) (xs ys : List Ends) (v w : List Interval) (r : Bool) →
    in_order xs ≡ v → in_order ys ≡ w → r ≡ pointwise same xs ys → r ≡ pointwise same (paired_up v) (paired_up w)
pointwise-paired_up same xs ys v w r v_is w_is e =
    rw (← v_is, ← w_is, paired_up-in_order xs, paired_up-in_order ys) e

pub length-in_order : (es : List Ends) → length (in_order es) ≡ 2 * length es
length-in_order [] = refl
length-in_order (e ∷ es) = omega (arith, length-in_order es)

-- the interval at an even coordinate, and at an odd one
pub get_or-in_order_lo : (es : List Ends) (i k : ℕ) (d : Interval) (e : Ends) → k ≡ 2 * i → i < length es →
    get_or (in_order es) k d ≡ (get_or es i e).lo
get_or-in_order_lo [] i k d e is h = absurd (omega arith)
get_or-in_order_lo (x ∷ es) zero zero d e is h = refl
get_or-in_order_lo (x ∷ es) zero (suc k) d e is h = absurd (omega arith)
get_or-in_order_lo (x ∷ es) (suc i) zero d e is h = absurd (omega arith)
get_or-in_order_lo (x ∷ es) (suc i) (suc zero) d e is h = absurd (omega arith)
get_or-in_order_lo (x ∷ es) (suc i) (suc (suc k)) d e is h = get_or-in_order_lo es i k d e (omega arith) (omega arith)

pub get_or-in_order_hi : (es : List Ends) (i k : ℕ) (d : Interval) (e : Ends) → k ≡ 2 * i + 1 → i < length es →
    get_or (in_order es) k d ≡ (get_or es i e).hi
get_or-in_order_hi [] i k d e is h = absurd (omega arith)
get_or-in_order_hi (x ∷ es) i zero d e is h = absurd (omega arith)
get_or-in_order_hi (x ∷ es) zero (suc zero) d e is h = refl
get_or-in_order_hi (x ∷ es) zero (suc (suc k)) d e is h = absurd (omega arith)
get_or-in_order_hi (x ∷ es) (suc i) (suc zero) d e is h = absurd (omega arith)
get_or-in_order_hi (x ∷ es) (suc i) (suc (suc k)) d e is h = get_or-in_order_hi es i k d e (omega arith) (omega arith)

-- each interval has a number exactly where both of each pair have one
pub All-in_order : (es : List Ends) → All (λ e. HasNumbers e.lo × HasNumbers e.hi) es ↔ All HasNumbers (in_order es)
All-in_order [] = ((λ all. All-nil HasNumbers), (λ all. All-nil (λ e. HasNumbers e.lo × HasNumbers e.hi)))
All-in_order (e ∷ es) =
    let both = λ (e : Ends). HasNumbers e.lo × HasNumbers e.hi in
    let rest = All-in_order es in (
      (λ all.
          let here = All-head both e es all in
          All-cons HasNumbers e.lo (e.hi ∷ in_order es) here.0 (All-cons HasNumbers e.hi (in_order es) here.1 (rest.0 (All-tail both e es all)))),
      (λ all.
          let behind = All-tail HasNumbers e.lo (e.hi ∷ in_order es) all in
          All-cons both e es (All-head HasNumbers e.lo (e.hi ∷ in_order es) all, All-head HasNumbers e.hi (in_order es) behind)
          (rest.1 (All-tail HasNumbers e.hi (in_order es) behind))),
    )

-- a write to one interval of a pair is a write to one coordinate
pub in_order-set_lo : (es : List Ends) (i k : ℕ) (x : Interval) (e : Ends) → k ≡ 2 * i → i < length es →
    in_order (set es i (record { lo = x; hi = (get_or es i e).hi })) ≡ set (in_order es) k x
in_order-set_lo [] i k x e is h = absurd (omega arith)
in_order-set_lo (y ∷ es) zero zero x e is h = refl
in_order-set_lo (y ∷ es) zero (suc k) x e is h = absurd (omega arith)
in_order-set_lo (y ∷ es) (suc i) zero x e is h = absurd (omega arith)
in_order-set_lo (y ∷ es) (suc i) (suc zero) x e is h = absurd (omega arith)
in_order-set_lo (y ∷ es) (suc i) (suc (suc k)) x e is h =
    ap (λ w. y.lo ∷ y.hi ∷ w) (in_order-set_lo es i k x e (omega arith) (omega arith))

pub in_order-set_hi : (es : List Ends) (i k : ℕ) (x : Interval) (e : Ends) → k ≡ 2 * i + 1 → i < length es →
    in_order (set es i (record { lo = (get_or es i e).lo; hi = x })) ≡ set (in_order es) k x
in_order-set_hi [] i k x e is h = absurd (omega arith)
in_order-set_hi (y ∷ es) i zero x e is h = absurd (omega arith)
in_order-set_hi (y ∷ es) zero (suc zero) x e is h = refl
in_order-set_hi (y ∷ es) zero (suc (suc k)) x e is h = absurd (omega arith)
in_order-set_hi (y ∷ es) (suc i) (suc zero) x e is h = absurd (omega arith)
in_order-set_hi (y ∷ es) (suc i) (suc (suc k)) x e is h =
    ap (λ w. y.lo ∷ y.hi ∷ w) (in_order-set_hi es i k x e (omega arith) (omega arith))

nothing : Interval
nothing = interval (pos 1) (pos 0)

-- a window of which one interval is replaced by what a comparison keeps of it
pub Narrows-set : (w : List Interval) (k : ℕ) (x : Interval) (op : Operator) (value : ℤ) → k < length w →
    ((z : ℤ) → Includes x z ↔ (Allows w k z × Keeps op z value)) → Narrows w (set w k x) k op value
Narrows-set w k x op value h narrowed = record {
  long = length-set w k x;
  taken = λ z. rw (get_or-set_same w k x (interval (pos 1) (pos 0)) h) (narrowed z);
  others = λ j z ne. rw (get_or-set_other w k j x (interval (pos 1) (pos 0)) ne) ((λ p. p), (λ p. p));
}

-- ---- side by side

pub Admits-from_sides : (es : List Ends) (b : List Interval) → length es ≡ length b →
    ((i : ℕ) (e : Ends) (d : Interval) → i < length es → AdmitsSide (get_or es i e) (get_or b i d)) → Admits (in_order es) b
Admits-from_sides [] [] same h = tt
Admits-from_sides [] (x ∷ b) same h = absurd (omega arith)
Admits-from_sides (e ∷ es) [] same h = absurd (omega arith)
Admits-from_sides (e ∷ es) (x ∷ b) same h =
    let here = h 0 e x (omega arith) in
    (here.0, (here.1, Admits-from_sides es b (omega arith) (λ i d d' l. h (suc i) d d' (omega arith))))

pub Admits-side : (es : List Ends) (b : List Interval) (i : ℕ) (e : Ends) (d : Interval) → i < length es →
    Admits (in_order es) b → AdmitsSide (get_or es i e) (get_or b i d)
Admits-side [] b i e d l h = absurd (omega arith)
Admits-side (x ∷ es) [] i e d l h = absurd h
Admits-side (x ∷ es) (y ∷ b) zero e d l h = (h.0, h.1.0)
Admits-side (x ∷ es) (y ∷ b) (suc i) e d l h = Admits-side es b i e d (omega arith) h.1.1

-- a write to one of a window's pairs
pub Narrows-set_lo : (es : List Ends) (window : List Interval) (i k : ℕ) (new e : Ends) (x : Interval) (op : Operator) (value given : ℤ) →
    in_order es ≡ window → k ≡ 2 * i → i < length es → new ≡ record { lo = x; hi = (get_or es i e).hi } → given ≡ value →
    ((z : ℤ) → Includes x z ↔ (Includes (get_or es i e).lo z × Keeps op z given)) →
    Narrows window (in_order (set es i new)) k op value
Narrows-set_lo es window i k new e x op value given window_is even h new_is given_is narrowed =
    rw (new_is, in_order-set_lo es i k x e even h, ← window_is, ← given_is)
    (Narrows-set (in_order es) k x op given (omega (arith, length-in_order es))
    (λ z. rw (get_or-in_order_lo es i k (interval (pos 1) (pos 0)) e even h) (narrowed z)))

pub Narrows-set_hi : (es : List Ends) (window : List Interval) (i k : ℕ) (new e : Ends) (x : Interval) (op : Operator) (value given : ℤ) →
    in_order es ≡ window → k ≡ 2 * i + 1 → i < length es → new ≡ record { lo = (get_or es i e).lo; hi = x } → given ≡ value →
    ((z : ℤ) → Includes x z ↔ (Includes (get_or es i e).hi z × Keeps op z given)) →
    Narrows window (in_order (set es i new)) k op value
Narrows-set_hi es window i k new e x op value given window_is odd h new_is given_is narrowed =
    rw (new_is, in_order-set_hi es i k x e odd h, ← window_is, ← given_is)
    (Narrows-set (in_order es) k x op given (omega (arith, length-in_order es))
    (λ z. rw (get_or-in_order_hi es i k (interval (pos 1) (pos 0)) e odd h) (narrowed z)))

every-replicate : (axes : ℕ) (e : Ends) → ((z : ℤ) → Includes e.lo z ↔ FitsSigned w32 z) → ((z : ℤ) → Includes e.hi z ↔ FitsSigned w32 z) →
    (coordinate : ℕ) (z : ℤ) → coordinate < 2 * axes → Allows (in_order (replicate axes e)) coordinate z ↔ FitsSigned w32 z
every-replicate zero e lo hi k z h = absurd (omega arith)
every-replicate (suc axes) e lo hi zero z h = lo z
every-replicate (suc axes) e lo hi (suc zero) z h = hi z
every-replicate (suc axes) e lo hi (suc (suc k)) z h = every-replicate axes e lo hi k z (omega arith)

pub IsUnlimited-replicate : (axes : ℕ) (e : Ends) → ((z : ℤ) → Includes e.lo z ↔ FitsSigned w32 z) → ((z : ℤ) → Includes e.hi z ↔ FitsSigned w32 z) →
    IsUnlimited axes (in_order (replicate axes e))
IsUnlimited-replicate axes e lo hi = record {
  long = length-in_order (replicate axes e) ∙ ap (λ n. 2 * n) (length-replicate axes e);
  every = every-replicate axes e lo hi;
}

-- ---- on one axis

-- ends that admit some interval
pub MayHoldSide-some : (e : Ends) (side : Interval) → MayHoldSide e side → (e.lo.lo ≤ℤ e.lo.hi) × (e.hi.lo ≤ℤ e.hi.hi) × (e.lo.lo ≤ℤ e.hi.hi)
MayHoldSide-some e side m = (omega (arith, ints, m.3.0), omega (arith, ints, m.3.1), omega (arith, ints, m.1, m.3.0, m.3.1))

-- the interval to try goes from the least number that both allow to the greatest
pub MayHoldSide-from : (e : Ends) (side : Interval) → side.lo ≤ℤ side.hi → e.lo.lo ≤ℤ e.lo.hi → e.hi.lo ≤ℤ e.hi.hi → e.lo.lo ≤ℤ e.hi.hi →
    side.lo ≤ℤ e.lo.hi → side.lo ≤ℤ e.hi.hi → e.lo.lo ≤ℤ side.hi → e.hi.lo ≤ℤ side.hi → MayHoldSide e side
MayHoldSide-from e side ordered lo hi both low_lo low_hi high_lo high_hi = (
  interval (int_max e.lo.lo side.lo) (int_min e.hi.hi side.hi),
  omega (arith, ints, clamps),
  (omega (arith, ints, clamps), omega (arith, ints, clamps)),
  ((omega (arith, ints, clamps), omega (arith, ints, clamps)), (omega (arith, ints, clamps), omega (arith, ints, clamps))),
)

-- ---- the box to try is made axis by axis

record Tried (es : List Ends) (b : List Interval) : Type 0 where
  inner : List Interval
  long : length inner ≡ length b
  ordered : All IsOrdered inner
  fits : All FitsEnds inner
  holds : Holds b inner
  admitted : Admits (in_order es) inner

FitsEnds-within : (side inner : Interval) → FitsEnds side → inner.lo ≤ℤ inner.hi → Covers side inner → FitsEnds inner
FitsEnds-within side inner fits order within = (omega (arith, ints, fits, within), omega (arith, ints, fits, within))

tried : (es : List Ends) (b : List Interval) → length es ≡ length b → All FitsEnds b →
    ((i : ℕ) (e : Ends) (d : Interval) → i < length es → MayHoldSide (get_or es i e) (get_or b i d)) → Tried es b
tried [] [] same fits h = record {
  inner = [];
  long = refl;
  ordered = All-nil IsOrdered;
  fits = All-nil FitsEnds;
  holds = tt;
  admitted = tt;
}
tried [] (x ∷ b) same fits h = absurd (omega arith)
tried (e ∷ es) [] same fits h = absurd (omega arith)
tried (e ∷ es) (x ∷ b) same fits h =
    let here = h 0 e x (omega arith) in
    let rest = tried es b (omega arith) (All-tail FitsEnds x b fits) (λ i d d' l. h (suc i) d d' (omega arith)) in
    record {
      inner = here.0 ∷ rest.inner;
      long = ap suc rest.long;
      ordered = All-cons IsOrdered here.0 rest.inner here.1 rest.ordered;
      fits = All-cons FitsEnds here.0 rest.inner (FitsEnds-within x here.0 (All-head FitsEnds x b fits) here.1 here.2) rest.fits;
      holds = (here.2, rest.holds);
      admitted = (here.3.0, (here.3.1, rest.admitted));
    }

pub MayHold-from_sides : (axes : ℕ) (es : List Ends) (b : List Interval) → IsBox axes b → length es ≡ axes →
    ((i : ℕ) (e : Ends) (d : Interval) → i < length es → MayHoldSide (get_or es i e) (get_or b i d)) → MayHold axes (in_order es) b
MayHold-from_sides axes es b is long h =
    let t = tried es b (omega (arith, is.axes_are)) is.fits h in (
      t.inner,
      record {
        some = is.some;
        few = is.few;
        axes_are = t.long ∙ is.axes_are;
        ordered = t.ordered;
        fits = t.fits;
      },
      t.holds,
      t.admitted,
    )

side_of : (es : List Ends) (b inner : List Interval) (i : ℕ) (e : Ends) (d : Interval) → i < length es →
    All IsOrdered inner → Holds b inner → Admits (in_order es) inner → MayHoldSide (get_or es i e) (get_or b i d)
side_of [] b inner i e d l ordered holds admitted = absurd (omega arith)
side_of (x ∷ es) b [] i e d l ordered holds admitted = absurd admitted
side_of (x ∷ es) [] (z ∷ inner) i e d l ordered holds admitted = absurd holds
side_of (x ∷ es) (y ∷ b) (z ∷ inner) zero e d l ordered holds admitted =
    (z, All-head IsOrdered z inner ordered, holds.0, (admitted.0, admitted.1.0))
side_of (x ∷ es) (y ∷ b) (z ∷ inner) (suc i) e d l ordered holds admitted =
    side_of es b inner i e d (omega arith) (All-tail IsOrdered z inner ordered) holds.1 admitted.1.1

pub MayHold-side : (axes : ℕ) (es : List Ends) (b : List Interval) (i : ℕ) (e : Ends) (d : Interval) → i < length es →
    MayHold axes (in_order es) b → MayHoldSide (get_or es i e) (get_or b i d)
MayHold-side axes es b i e d l m = side_of es b m.0 i e d l m.1.ordered m.2 m.3

-- ---- what the functions on axes cite: the window's view is the pairs in order, and x is the box's side at i

pub axis_from_side : (es : List Ends) (b : List Interval) (i : ℕ) (here : Ends) (x : Interval) →
    i < length es → i < length b → x ≡ get_or b i x → AdmitsSide (get_or es i here) x → AdmitsAxis es b i
axis_from_side es b i here x in_es in_b x_is holds e d =
    rw (get_or_default es i e here in_es, get_or_default b i d x in_b, ← x_is) holds

pub side_from_axis : (es : List Ends) (b : List Interval) (i : ℕ) (here : Ends) (x : Interval) → x ≡ get_or b i x →
    AdmitsAxis es b i → AdmitsSide (get_or es i here) x
side_from_axis es b i here x x_is holds = rw x_is (holds here x)

pub Admits-sides : (es : List Ends) (window b : List Interval) (i : ℕ) (e : Ends) (d : Interval) →
    in_order es ≡ window → i < length es → Admits window b → AdmitsSide (get_or es i e) (get_or b i d)
Admits-sides es window b i e d window_is h admitted = Admits-side es b i e d h (rw window_is admitted)

pub Admits-all : (es : List Ends) (window b : List Interval) → in_order es ≡ window → length es ≡ length b →
    ((i : ℕ) (e : Ends) (d : Interval) → i < length es → AdmitsSide (get_or es i e) (get_or b i d)) → Admits window b
Admits-all es window b window_is same h = rw (← window_is) (Admits-from_sides es b same h)

-- on one axis, a window admits a box exactly where its ends admit the box's side
pub one_side : (es : List Ends) (window b : List Interval) (e : Ends) (side : Interval) → in_order es ≡ window → length es ≡ 1 → length b ≡ 1 →
    e ≡ get_or es 0 e → side ≡ get_or b 0 side → (AdmitsSide e side ↔ Admits window b)
one_side es window b e side window_is one one_b e_is side_is = (
  (λ h.
      let here : AdmitsAxis es b 0 = axis_from_side es b 0 e side (omega (arith, one)) (omega (arith, one_b)) side_is (subst (λ x. AdmitsSide x side) e_is h) in
      Admits-all es window b window_is (omega (arith, one, one_b)) (λ i f d below. subst (AdmitsAxis es b) (omega (arith, below, one)) here f d)),
  (λ h. subst (λ x. AdmitsSide x side) (sym e_is) (side_from_axis es b 0 e side side_is (λ f d. Admits-sides es window b 0 f d window_is (omega (arith, one)) h))),
)

pub MayHold-sides : (axes : ℕ) (es : List Ends) (window b : List Interval) (i : ℕ) (e : Ends) (d : Interval) →
    in_order es ≡ window → i < length es → MayHold axes window b → MayHoldSide (get_or es i e) (get_or b i d)
MayHold-sides axes es window b i e d window_is h held = MayHold-side axes es b i e d h (rw window_is held)

pub MayHold-all : (axes : ℕ) (es : List Ends) (window b : List Interval) → in_order es ≡ window → length es ≡ axes → IsBox axes b →
    ((i : ℕ) (e : Ends) (d : Interval) → i < length es → MayHoldSide (get_or es i e) (get_or b i d)) → MayHold axes window b
MayHold-all axes es window b window_is long is h = rw (← window_is) (MayHold-from_sides axes es b is long h)

-- ---- a window whose ends reach so on each axis is a reach

pub IsReach-all : (axes : ℕ) (es rs : List Ends) (window : List Interval) → in_order es ≡ window → length es ≡ axes → length rs ≡ axes →
    ((i : ℕ) (e r : Ends) → i < axes → Reaches (get_or es i e) (get_or rs i r)) → IsReach axes window (in_order rs)
IsReach-all axes es rs window window_is es_long rs_long reaches b is =
    let side : (i : ℕ) (e r : Ends) (d : Interval) → i < axes → (AdmitsSide (get_or rs i r) (get_or b i d) ↔ MayHoldSide (get_or es i e) (get_or b i d)) =
    λ i e r d l. reaches i e r l (get_or b i d) (All-get_or FitsEnds b i d (omega (arith, is.axes_are)) is.fits) (All-get_or IsOrdered b i d (omega (arith, is.axes_are)) is.ordered) in (
      (λ a. MayHold-all axes es window b window_is es_long is
          (λ i e d l. (side i e e d (omega (arith, es_long))).0 (Admits-sides rs (in_order rs) b i e d refl (omega (arith, es_long, rs_long)) a))),
      (λ m. Admits-all rs (in_order rs) b refl (omega (arith, rs_long, is.axes_are))
          (λ i r d l. (side i r r d (omega (arith, rs_long))).1 (MayHold-sides axes es window b i r d window_is (omega (arith, es_long, rs_long)) m))),
    )

-- ---- a window admits each box within a box exactly where it admits the lowest corner and the highest

admitted-within : (es : List Ends) (b inner : List Interval) → length es ≡ length b →
    ((i : ℕ) (e : Ends) (d : Interval) → i < length es → AdmitsWithinSide (get_or es i e) (get_or b i d)) →
    All IsOrdered inner → Holds b inner → Admits (in_order es) inner
admitted-within [] [] [] same h ordered holds = tt
admitted-within [] [] (z ∷ inner) same h ordered holds = absurd holds
admitted-within [] (y ∷ b) inner same h ordered holds = absurd (omega arith)
admitted-within (x ∷ es) [] inner same h ordered holds = absurd (omega arith)
admitted-within (x ∷ es) (y ∷ b) [] same h ordered holds = absurd holds
admitted-within (x ∷ es) (y ∷ b) (z ∷ inner) same h ordered holds =
    let here = h 0 x y (omega arith) in
    let order = All-head IsOrdered z inner ordered in (
      (omega (arith, ints, here.0, order, holds.0), omega (arith, ints, here.0, order, holds.0)),
      (
        (omega (arith, ints, here.1, order, holds.0), omega (arith, ints, here.1, order, holds.0)),
        admitted-within es b inner (omega arith) (λ i d d' l. h (suc i) d d' (omega arith)) (All-tail IsOrdered z inner ordered) holds.1,
      ),
    )

corner-holds : (f : Interval → Interval) → ((i : Interval) → IsOrdered i → Covers i (f i)) → (b : List Interval) → All IsOrdered b → Holds b (map f b)
corner-holds f covers [] ordered = tt
corner-holds f covers (x ∷ b) ordered =
    (covers x (All-head IsOrdered x b ordered), corner-holds f covers b (All-tail IsOrdered x b ordered))

corner-box : (axes : ℕ) (f : Interval → Interval) → ((i : Interval) → IsOrdered (f i)) → ((i : Interval) → FitsEnds i → FitsEnds (f i)) →
    (b : List Interval) → IsBox axes b → IsBox axes (map f b)
corner-box axes f ordered fits b is = record {
  some = is.some;
  few = is.few;
  axes_are = length-map b f ∙ is.axes_are;
  ordered = All-map IsOrdered f b (λ i d l. ordered (get_or b i d));
  fits = All-map FitsEnds f b (All-weaker FitsEnds (λ i. FitsEnds (f i)) fits b is.fits);
}

-- the sides of the lowest corner, and of the highest
abbrev least : Interval → Interval
least i = interval i.lo i.lo

abbrev greatest : Interval → Interval
greatest i = interval i.hi i.hi

AdmitsWithin-side : (axes : ℕ) (es : List Ends) (window b : List Interval) (i : ℕ) (e : Ends) (d : Interval) → in_order es ≡ window →
    i < length es → i < length b → IsBox axes b → AdmitsWithin axes window b → AdmitsWithinSide (get_or es i e) (get_or b i d)
AdmitsWithin-side axes es window b i e d window_is in_es in_b is within =
    let admitted : AdmitsWithin axes (in_order es) b = rw window_is within in
    let low = Admits-side es (map least b) i e (least d) in_es
    (admitted (map least b) (corner-box axes least (λ x. omega (arith, ints)) (λ x fits. (fits.0, fits.0)) b is)
    (corner-holds least (λ x order. (omega (arith, ints), omega (arith, ints, order))) b is.ordered)) in
    let high = Admits-side es (map greatest b) i e (greatest d) in_es
    (admitted (map greatest b) (corner-box axes greatest (λ x. omega (arith, ints)) (λ x fits. (fits.1, fits.1)) b is)
    (corner-holds greatest (λ x order. (omega (arith, ints, order), omega (arith, ints))) b is.ordered)) in
    let at_low = subst (AdmitsSide (get_or es i e)) (get_or-map least b i d (least d) in_b) low in
    let at_high = subst (AdmitsSide (get_or es i e)) (get_or-map greatest b i d (greatest d) in_b) high in
    ((at_low.0.0, at_high.0.1), (at_low.1.0, at_high.1.1))

pub IsCore-all : (axes : ℕ) (es cs : List Ends) (window : List Interval) → in_order es ≡ window → length es ≡ axes → length cs ≡ axes →
    ((i : ℕ) (e r : Ends) → i < length es → HasCore (get_or es i e) (get_or cs i r)) → IsCore axes window (in_order cs)
IsCore-all axes es cs window window_is es_long cs_long cores b is =
    let core : (i : ℕ) (e r : Ends) (d : Interval) → i < axes →
    (AdmitsSide (get_or cs i r) (get_or b i d) ↔ AdmitsWithinSide (get_or es i e) (get_or b i d)) =
    λ i e r d l. cores i e r (omega (arith, es_long, l)) (get_or b i d) (is.fits i d (omega (arith, is.axes_are, l))) in (
      (λ admitted inner box holds. rw (← window_is) (admitted-within es b inner (omega (arith, es_long, is.axes_are))
          (λ i e d l. (core i e e d (omega (arith, es_long, l))).0 (Admits-side cs b i e d (omega (arith, es_long, cs_long, l)) admitted))
          box.ordered holds)),
      (λ within. Admits-from_sides cs b (omega (arith, cs_long, is.axes_are))
          (λ i r d l. (core i r r d (omega (arith, cs_long, l))).1
          (AdmitsWithin-side axes es window b i r d window_is (omega (arith, es_long, cs_long, l)) (omega (arith, cs_long, is.axes_are, l)) is within))),
    )

-- ---- a window whose ends are around the sides of a box admits the boxes that hold it

admitted-holds : (es : List Ends) (b outer : List Interval) → length es ≡ length b → length outer ≡ length b → All FitsEnds outer →
    ((i : ℕ) (e : Ends) (d : Interval) → i < length es → AreAround (get_or b i d) (get_or es i e)) → Admits (in_order es) outer → Holds outer b
admitted-holds [] [] [] same same_outer fits around admitted = tt
admitted-holds [] [] (y ∷ outer) same same_outer fits around admitted = absurd (omega arith)
admitted-holds [] (x ∷ b) outer same same_outer fits around admitted = absurd (omega arith)
admitted-holds (e ∷ es) [] outer same same_outer fits around admitted = absurd (omega arith)
admitted-holds (e ∷ es) (x ∷ b) [] same same_outer fits around admitted = absurd (omega arith)
admitted-holds (e ∷ es) (x ∷ b) (y ∷ outer) same same_outer fits around admitted = (
  (around 0 e x (omega arith) y (All-head FitsEnds y outer fits)).0 (admitted.0, admitted.1.0),
  admitted-holds es b outer (omega arith) (omega arith) (All-tail FitsEnds y outer fits) (λ i f d l. around (suc i) f d (omega arith)) admitted.1.1,
)

holds-admitted : (es : List Ends) (b outer : List Interval) → length es ≡ length b → length outer ≡ length b → All FitsEnds outer →
    ((i : ℕ) (e : Ends) (d : Interval) → i < length es → AreAround (get_or b i d) (get_or es i e)) → Holds outer b → Admits (in_order es) outer
holds-admitted [] [] [] same same_outer fits around holds = tt
holds-admitted [] [] (y ∷ outer) same same_outer fits around holds = absurd (omega arith)
holds-admitted [] (x ∷ b) outer same same_outer fits around holds = absurd (omega arith)
holds-admitted (e ∷ es) [] outer same same_outer fits around holds = absurd (omega arith)
holds-admitted (e ∷ es) (x ∷ b) [] same same_outer fits around holds = absurd (omega arith)
holds-admitted (e ∷ es) (x ∷ b) (y ∷ outer) same same_outer fits around holds =
    let here = (around 0 e x (omega arith) y (All-head FitsEnds y outer fits)).1 holds.0 in (
      here.0,
      (here.1, holds-admitted es b outer (omega arith) (omega arith) (All-tail FitsEnds y outer fits) (λ i f d l. around (suc i) f d (omega arith)) holds.1),
    )

pub IsAround-all : (axes : ℕ) (es : List Ends) (b : List Interval) → length es ≡ axes → length b ≡ axes →
    ((i : ℕ) (e : Ends) (d : Interval) → i < axes → AreAround (get_or b i d) (get_or es i e)) → IsAround axes b (in_order es)
IsAround-all axes es b es_long b_long around outer is =
    let same : length es ≡ length b = omega (arith, es_long, b_long) in
    let same_outer : length outer ≡ length b = omega (arith, is.axes_are, b_long) in
    let each : (i : ℕ) (e : Ends) (d : Interval) → i < length es → AreAround (get_or b i d) (get_or es i e) = λ i e d l. around i e d (omega (arith, es_long, l)) in (
      (λ admitted. admitted-holds es b outer same same_outer is.fits each admitted),
      (λ holds. holds-admitted es b outer same same_outer is.fits each holds),
    )
