-- What narrowing does to the boxes that a window admits.
use Rattle.std.proofs.Common.{◌≡◌, ℕ, zero, suc, ◌*◌, ◌<◌, ◌↔◌, ℤ, pos, List, [], ◌∷◌, length, get_or, sym, All, arith, refl, inl, inr, ◌∙◌, w32, FitsSigned}
use Rattle.std.proofs.lemmas.Bool.{cases_eq}
use Rattle.std.proofs.lemmas.List.{get_or_default}
use Rattle.std.proofs.lemmas.List.Elements.{All-head, All-tail, All-nil, All-cons}
use Rattle.rt_box.specs.declared.interval.Interval.{Interval}
use Rattle.rt_box.specs.declared.operator.Operator.{Operator}
use Rattle.rt_box.specs.Interval.{interval, Includes, FitsEnds}
use Rattle.rt_box.specs.Operators.{Keeps}
use Rattle.rt_box.specs.Rect.{IsBox, coordinates}
use Rattle.rt_box.specs.Window.{Allows, IsUnlimited, Narrows, Admits, Comparison, NarrowsInTurn, KeepsAt, KeepsBox}
use Rattle.rt_box.specs.Laws.{WindowAllowsWhatIsKept, WindowAdmitsWhatIsKept}
use Rattle.rt_box.proofs.Lists.{AllZip-from_places, AllZip-get_or_both}

pub length-coordinates : (b : List Interval) → length (coordinates b) ≡ 2 * length b
length-coordinates [] = refl
length-coordinates (i ∷ b) = omega (arith, length-coordinates b)

fits_at : (b : List Interval) → All FitsEnds b → (k : ℕ) (z : ℤ) → k < length (coordinates b) → FitsSigned w32 (get_or (coordinates b) k z)
fits_at [] fits k z h = absurd (omega arith)
fits_at (i ∷ b) fits zero z h = (All-head FitsEnds i b fits).0
fits_at (i ∷ b) fits (suc zero) z h = (All-head FitsEnds i b fits).1
fits_at (i ∷ b) fits (suc (suc k)) z h = fits_at b (All-tail FitsEnds i b fits) k z (omega arith)

-- a number that a narrowed window allows was allowed, and the other way round
kept : (old new b : List Interval) (k : ℕ) (op : Operator) (value : ℤ) → Narrows old new k op value → (j : ℕ) →
    Allows old k (get_or (coordinates b) k (pos 0)) → Allows new j (get_or (coordinates b) j (pos 0)) → Allows old j (get_or (coordinates b) j (pos 0))
kept old new b k op value narrows j at_k at_j = elim (cases_eq j k) [
  | inl same ↦ rw same at_k
  | inr ne ↦ (narrows.others j (get_or (coordinates b) j (pos 0)) ne).0 at_j
]

allowed : (old new b : List Interval) (k : ℕ) (op : Operator) (value : ℤ) → Narrows old new k op value → (j : ℕ) →
    Allows old j (get_or (coordinates b) j (pos 0)) → Keeps op (get_or (coordinates b) k (pos 0)) value → Allows new j (get_or (coordinates b) j (pos 0))
allowed old new b k op value narrows j at_j holds = elim (cases_eq j k) [
  | inl same ↦ rw same ((narrows.taken (get_or (coordinates b) k (pos 0))).1 (rw same at at_j, holds))
  | inr ne ↦ (narrows.others j (get_or (coordinates b) j (pos 0)) ne).1 at_j
]

-- a window admits a box exactly where it allows each of its coordinates
pub allowed_at : (window b : List Interval) (k : ℕ) → Admits window b → k < length window → Allows window k (get_or (coordinates b) k (pos 0))
allowed_at window b k admitted h = AllZip-get_or_both Includes window (coordinates b) k (interval (pos 1) (pos 0)) (pos 0) admitted h

pub admits_from : (window b : List Interval) → length window ≡ length (coordinates b) →
    ((k : ℕ) → k < length window → Allows window k (get_or (coordinates b) k (pos 0))) → Admits window b
admits_from window b same h =
    AllZip-from_places Includes window (coordinates b) same
    (λ k d z l. rw (get_or_default window k d (interval (pos 1) (pos 0)) l, get_or_default (coordinates b) k z (pos 0) (omega arith)) (h k l))

-- the boxes that a narrowed window admits
pub Admits-narrowed : (old new b : List Interval) (k : ℕ) (op : Operator) (value : ℤ) →
    length old ≡ length (coordinates b) → k < length old → Narrows old new k op value →
    Admits new b ↔ (Admits old b × Keeps op (get_or (coordinates b) k (pos 0)) value)
Admits-narrowed old new b k op value same h narrows = (
  (λ admitted. let at_k = (narrows.taken (get_or (coordinates b) k (pos 0))).0 (allowed_at new b k admitted (omega (arith, narrows.long))) in
      (admits_from old b same (λ j l. kept old new b k op value narrows j at_k.0 (allowed_at new b j admitted (omega (arith, narrows.long)))), at_k.1)),
  (λ both. admits_from new b (narrows.long ∙ same) (λ j l.
      allowed old new b k op value narrows j (allowed_at old b j both.0 (omega (arith, narrows.long))) both.1)),
)

pub Admits-unlimited : (axes : ℕ) (window b : List Interval) → IsUnlimited axes window → IsBox axes b → Admits window b
Admits-unlimited axes window b unlimited is =
    let long : length (coordinates b) ≡ 2 * axes = omega (arith, length-coordinates b, is.axes_are) in
    admits_from window b (omega (arith, unlimited.long))
    (λ k l. (unlimited.every k (get_or (coordinates b) k (pos 0)) (omega (arith, unlimited.long))).1
    (fits_at b is.fits k (pos 0) (omega (arith, unlimited.long))))

pub Admits-narrowed_in_turn : (old new b : List Interval) (cs : List Comparison) → length old ≡ length (coordinates b) →
    All (λ c. c.coordinate < length old) cs → NarrowsInTurn old cs new → Admits new b ↔ (Admits old b × All (KeepsBox b) cs)
Admits-narrowed_in_turn old new b [] same within turn =
    ((λ admitted. (rw turn admitted, All-nil (KeepsBox b))), (λ both. rw (← turn) both.0))
Admits-narrowed_in_turn old new b (c ∷ cs) same within turn =
    let here : c.coordinate < length old = All-head (λ (x : Comparison). x.coordinate < length old) c cs within in
    let rest_within : All (λ (x : Comparison). x.coordinate < length turn.0) cs =
    λ k d l. omega (arith, turn.1.long, within (suc k) d (omega arith)) in
    let first = Admits-narrowed old turn.0 b c.coordinate c.op c.value same here turn.1 in
    let rest = Admits-narrowed_in_turn turn.0 new b cs (turn.1.long ∙ same) rest_within turn.2 in (
      (λ admitted. let after = rest.0 admitted in let before = first.0 after.0 in
          (before.0, All-cons (KeepsBox b) c cs before.1 after.1)),
      (λ both. rest.1 (first.1 (both.0, All-head (KeepsBox b) c cs both.1), All-tail (KeepsBox b) c cs both.1)),
    )

pub window_admits_what_is_kept : WindowAdmitsWhatIsKept
window_admits_what_is_kept axes start window b cs unlimited within turn is =
    let long : length (coordinates b) ≡ 2 * axes = omega (arith, length-coordinates b, is.axes_are) in
    let rest_within : All (λ (x : Comparison). x.coordinate < length start) cs =
    λ k d l. omega (arith, unlimited.long, within k d l) in
    let both = Admits-narrowed_in_turn start window b cs (omega (arith, unlimited.long)) rest_within turn in
    ((λ admitted. (both.0 admitted).1), (λ kept. both.1 (Admits-unlimited axes start b unlimited is, kept)))

-- the numbers that a narrowed window allows a coordinate
Allows-narrowed : (old new : List Interval) (c : Comparison) (k : ℕ) (z : ℤ) → Narrows old new c.coordinate c.op c.value →
    Allows new k z ↔ (Allows old k z × KeepsAt k z c)
Allows-narrowed old new c k z narrows = elim (cases_eq k c.coordinate) [
  | inl same ↦ (
    (λ a. let both = (narrows.taken z).0 (rw same at a) in (rw same both.0, λ _. both.1)),
    (λ both. rw same ((narrows.taken z).1 (rw same at both.0, both.1 (sym same)))),
  )
  | inr ne ↦ (
    (λ a. ((narrows.others k z ne).0 a, λ same. absurd (ne (sym same)))),
    (λ both. (narrows.others k z ne).1 both.0),
  )
]

pub Allows-narrowed_in_turn : (old new : List Interval) (cs : List Comparison) (k : ℕ) (z : ℤ) → NarrowsInTurn old cs new →
    Allows new k z ↔ (Allows old k z × All (KeepsAt k z) cs)
Allows-narrowed_in_turn old new [] k z turn =
    ((λ a. (rw turn a, All-nil (KeepsAt k z))), (λ both. rw (← turn) both.0))
Allows-narrowed_in_turn old new (c ∷ cs) k z turn =
    let first = Allows-narrowed old turn.0 c k z turn.1 in
    let rest = Allows-narrowed_in_turn turn.0 new cs k z turn.2 in (
      (λ a. let after = rest.0 a in let before = first.0 after.0 in
          (before.0, All-cons (KeepsAt k z) c cs before.1 after.1)),
      (λ both. rest.1 (first.1 (both.0, All-head (KeepsAt k z) c cs both.1), All-tail (KeepsAt k z) c cs both.1)),
    )

pub window_allows_what_is_kept : WindowAllowsWhatIsKept
window_allows_what_is_kept axes start window cs unlimited turn k z h =
    let both = Allows-narrowed_in_turn start window cs k z turn in
    let every = unlimited.every k z h in
    ((λ a. let kept = both.0 a in (every.0 kept.0, kept.1)), (λ p. both.1 (every.1 p.0, p.1)))
