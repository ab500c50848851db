-- What searching and splitting rest on.
use Rattle.std.specs.Prelude.{◌≡◌, ℕ, ◌*◌, ◌<◌, ◌≤◌, ◌↔◌, ℤ, List, length, All, FitsSigned}
use Rattle.std.specs.Int.{w32}
use Rattle.rt_box.specs.declared.interval.Interval.{Interval}
use Rattle.rt_box.specs.Rect.{IsBox, area, overlap, union_box, Holds}
use Rattle.rt_box.specs.Hull.{hull}
use Rattle.rt_box.specs.Window.{Allows, IsUnlimited, Admits, MayHold, Comparison, NarrowsInTurn, KeepsAt, KeepsBox}

-- the union of two boxes is a box that holds both, and each box that holds both holds it
abbrev pub UnionIsLeast : Type 0
UnionIsLeast = (axes : ℕ) (a b : List Interval) → IsBox axes a → IsBox axes b →
    IsBox axes (union_box a b) × Holds (union_box a b) a × Holds (union_box a b) b
    × ((c : List Interval) → Holds c a → Holds c b → Holds c (union_box a b))

-- the hull of some boxes is a box that holds each of them, and whatever holds each of them holds it
abbrev pub HullIsLeast : Type 0
HullIsLeast = (axes : ℕ) (boxes : List (List Interval)) → 0 < length boxes → All (IsBox axes) boxes →
    IsBox axes (hull boxes) × All (Holds (hull boxes)) boxes
    × ((c : List Interval) → All (Holds c) boxes → Holds c (hull boxes))

-- a box that holds another has no smaller area
abbrev pub AreaGrows : Type 0
AreaGrows = (outer inner : List Interval) → Holds outer inner → area inner ≤ area outer

abbrev pub OverlapIsSymmetric : Type 0
OverlapIsSymmetric = (a b : List Interval) → overlap a b ≡ overlap b a

-- with either box
abbrev pub OverlapGrows : Type 0
OverlapGrows = (outer inner other : List Interval) → Holds outer inner →
    (overlap inner other ≤ overlap outer other) × (overlap other inner ≤ overlap other outer)

abbrev pub AdmittedMayBeHeld : Type 0
AdmittedMayBeHeld = (axes : ℕ) (window outer inner : List Interval) → IsBox axes inner → Holds outer inner →
    Admits window inner → MayHold axes window outer

-- a narrowed window allows a coordinate the 32-bit numbers that all comparisons of it keep
abbrev pub WindowAllowsWhatIsKept : Type 0
WindowAllowsWhatIsKept = (axes : ℕ) (start window : List Interval) (comparisons : List Comparison) →
    IsUnlimited axes start → NarrowsInTurn start comparisons window →
    (coordinate : ℕ) (z : ℤ) → coordinate < 2 * axes →
    (Allows window coordinate z ↔ (FitsSigned w32 z × All (KeepsAt coordinate z) comparisons))

-- a narrowed window admits a box exactly if all comparisons keep its coordinates
abbrev pub WindowAdmitsWhatIsKept : Type 0
WindowAdmitsWhatIsKept = (axes : ℕ) (start window b : List Interval) (comparisons : List Comparison) →
    IsUnlimited axes start → All (λ c. c.coordinate < 2 * axes) comparisons → NarrowsInTurn start comparisons window →
    IsBox axes b → (Admits window b ↔ All (KeepsBox b) comparisons)
