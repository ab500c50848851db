-- The pairs in which a window keeps its intervals, one pair for each axis.
use Rattle.std.specs.Prelude.{◌≡◌, ◌↔◌, ℕ, List, [], ◌∷◌, ◌≤ℤ◌, slice_index_or}
use Rattle.std.proofs.Common.{refl, ap}
use Rattle.rt_box.specs.declared.interval.Interval.{Interval}
use Rattle.rt_box.specs.declared.window.Ends.{Ends}
use Rattle.rt_box.specs.Interval.{Includes, Covers, FitsEnds}

-- one interval for each coordinate
abbrev pub in_order : List Ends → List Interval
in_order [] = []
in_order (e ∷ es) = e.lo ∷ e.hi ∷ in_order es

abbrev pub paired_up : List Interval → List Ends
paired_up [] = []
paired_up (i ∷ []) = []
paired_up (i ∷ j ∷ w) = record { lo = i; hi = j } ∷ paired_up w

pub paired_up-in_order : (es : List Ends) → paired_up (in_order es) ≡ es
paired_up-in_order [] = refl
paired_up-in_order (e ∷ es) = ap (λ rest. e ∷ rest) (paired_up-in_order es)

-- both ends of a side are allowed
abbrev pub AdmitsSide : Ends → Interval → Type 0
AdmitsSide e side = Includes e.lo side.lo × Includes e.hi side.hi

-- both ends of the box's side on the axis are allowed
abbrev pub AdmitsAxis : List Ends → List Interval → ℕ → Type 0
AdmitsAxis es b axis = (e : Ends) (d : Interval) → AdmitsSide (slice_index_or es axis e) (slice_index_or b axis d)

-- exactly the sides are admitted that cover the interval
abbrev pub AreAround : Interval → Ends → Type 0
AreAround inner e = (side : Interval) → FitsEnds side → (AdmitsSide e side ↔ Covers side inner)

-- each interval within the side is admitted: either end may be any number of the side
abbrev pub AdmitsWithinSide : Ends → Interval → Type 0
AdmitsWithinSide e side = Covers e.lo side × Covers e.hi side

-- some interval within the side is admitted
abbrev pub MayHoldSide : Ends → Interval → Type 0
MayHoldSide e side = (inner : Interval) × (inner.lo ≤ℤ inner.hi) × Covers side inner × AdmitsSide e inner

-- exactly the sides are admitted within which the ends admit some interval
abbrev pub Reaches : Ends → Ends → Type 0
Reaches e reach = (side : Interval) → FitsEnds side → side.lo ≤ℤ side.hi → (AdmitsSide reach side ↔ MayHoldSide e side)

-- exactly the sides are admitted within which the ends admit each interval
abbrev pub HasCore : Ends → Ends → Type 0
HasCore e core = (side : Interval) → FitsEnds side → (AdmitsSide core side ↔ AdmitsWithinSide e side)
