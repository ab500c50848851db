-- What windows admit. No contract of an exported call cites this module.
use Rattle.std.specs.Prelude.{ℕ, ◌↔◌, ℤ, List, take, drop}
use Rattle.std.specs.List.{AllZip}
use Rattle.rt_box.specs.declared.interval.Interval.{Interval}
use Rattle.rt_box.specs.declared.operator.Operator.{Operator}
use Rattle.rt_box.specs.Operators.{Keeps}
use Rattle.rt_box.specs.Rect.{IsBox, los, his}
use Rattle.rt_box.specs.Window.{Admits}
use Rattle.rt_calls.specs.Relations.{Relates}
use Rattle.rt_calls.specs.declared.relation.Relation.{Relation}

-- on each axis the one comparison holds of the box's least number, and the other of its greatest
abbrev pub Compared : Operator → List ℤ → Operator → List ℤ → List Interval → Type 0
Compared first least second greatest rect = AllZip (Keeps first) (los rect) least × AllZip (Keeps second) (his rect) greatest

-- of the boxes with that many axes the window admits none; those that compare so; those that lie so to the window from min
-- to max
abbrev pub AdmitsNone : ℕ → List Interval → Type 0
AdmitsNone axes window = (rect : List Interval) → IsBox axes rect → Admits window rect → ⊥

abbrev pub AdmitsCompared : ℕ → Operator → List ℤ → Operator → List ℤ → List Interval → Type 0
AdmitsCompared axes first least second greatest window =
    (rect : List Interval) → IsBox axes rect → (Admits window rect ↔ Compared first least second greatest rect)

abbrev pub AdmitsRelated : ℕ → Relation → List ℤ → List ℤ → List Interval → Type 0
AdmitsRelated axes relation min max window =
    (rect : List Interval) → IsBox axes rect → (Admits window rect ↔ Relates relation min max rect)

-- the same of a window that is one list of numbers, the least first
abbrev pub AdmitsPiece : ℕ → Relation → List ℤ → List Interval → Type 0
AdmitsPiece axes relation box window = AdmitsRelated axes relation (take axes box) (drop axes box) window
