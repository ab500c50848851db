-- Windows: what a search asks of the coordinates of a box (SQLite's documentation: The SQLite R*Tree Module).
-- A window is the list of its intervals, one for each coordinate, in the order of a table's columns.
use Rattle.std.specs.Prelude.{◌≡◌, ◌≢◌, ℕ, ◌*◌, ◌<◌, ◌↔◌, ℤ, pos, List, [], ◌∷◌, length, slice_index_or, FitsSigned}
use Rattle.std.specs.Int.{w32}
use Rattle.std.specs.List.{AllZip}
use Rattle.rt_box.specs.declared.interval.Interval.{Interval}
use Rattle.rt_box.specs.declared.operator.Operator.{Operator}
use Rattle.rt_box.specs.Interval.{interval, Includes}
use Rattle.rt_box.specs.Operators.{Keeps}
use Rattle.rt_box.specs.Rect.{IsBox, Holds, coordinates}

-- the window allows the coordinate the number z
abbrev pub Allows : List Interval → ℕ → ℤ → Type 0
Allows window coordinate z = Includes (slice_index_or window coordinate (interval (pos 1) (pos 0))) z

-- each coordinate may be every 32-bit number
pub record IsUnlimited (axes : ℕ) (window : List Interval) : Type 0 where
  pub long : length window ≡ 2 * axes
  pub every : (coordinate : ℕ) (z : ℤ) → coordinate < 2 * axes → (Allows window coordinate z ↔ FitsSigned w32 z)

-- of the numbers that the coordinate was allowed, those stay of which the comparison holds, and all for
-- `<>`; the other coordinates keep theirs
pub record Narrows (old new : List Interval) (coordinate : ℕ) (op : Operator) (value : ℤ) : Type 0 where
  pub long : length new ≡ length old
  pub taken : (z : ℤ) → Allows new coordinate z ↔ (Allows old coordinate z × Keeps op z value)
  pub others : (k : ℕ) (z : ℤ) → k ≢ coordinate → (Allows new k z ↔ Allows old k z)

-- each coordinate of the box is in its interval
abbrev pub Admits : List Interval → List Interval → Type 0
Admits window b = AllZip Includes window (coordinates b)

-- the window admits exactly the boxes that hold the box
abbrev pub IsAround : ℕ → List Interval → List Interval → Type 0
IsAround axes b window = (outer : List Interval) → IsBox axes outer → (Admits window outer ↔ Holds outer b)

-- some box that lies in b is admitted
abbrev pub MayHold : ℕ → List Interval → List Interval → Type 0
MayHold axes window b = (inner : List Interval) × IsBox axes inner × Holds b inner × Admits window inner

-- one window admits exactly the boxes within which the other may hold one
abbrev pub IsReach : ℕ → List Interval → List Interval → Type 0
IsReach axes window reach = (b : List Interval) → IsBox axes b → (Admits reach b ↔ MayHold axes window b)

-- each box that lies in b is admitted
abbrev pub AdmitsWithin : ℕ → List Interval → List Interval → Type 0
AdmitsWithin axes window b = (inner : List Interval) → IsBox axes inner → Holds b inner → Admits window inner

-- one window admits exactly the boxes within which the other admits each box
abbrev pub IsCore : ℕ → List Interval → List Interval → Type 0
IsCore axes window core = (b : List Interval) → IsBox axes b → (Admits core b ↔ AdmitsWithin axes window b)

-- a comparison of a coordinate with a number
pub record Comparison : Type 0 where
  pub coordinate : ℕ
  pub op : Operator
  pub value : ℤ

-- narrowing by one comparison after another leads from the old window to the new one
abbrev pub NarrowsInTurn : List Interval → List Comparison → List Interval → Type 0
NarrowsInTurn old [] new = old ≡ new
NarrowsInTurn old (c ∷ cs) new =
    (next : List Interval) × Narrows old next c.coordinate c.op c.value × NarrowsInTurn next cs new

-- the comparison keeps the number, if it is one of that coordinate
abbrev pub KeepsAt : ℕ → ℤ → Comparison → Type 0
KeepsAt coordinate z c = c.coordinate ≡ coordinate → Keeps c.op z c.value

-- the comparison keeps the box's coordinate
abbrev pub KeepsBox : List Interval → Comparison → Type 0
KeepsBox b c = Keeps c.op (slice_index_or (coordinates b) c.coordinate (pos 0)) c.value
