-- What the picture keeps of a tree (own).
use Rattle.std.specs.Prelude.{◌≡◌, ℕ, suc, ◌+◌, ◌≤◌, ℤ, ◌≤ℤ◌, List, [], ◌∷◌, ◌==◌, codes, IfSome, if◌then◌else◌}
use Rattle.std.specs.List.{AllByRecursion}
use Rattle.rt_check.specs.Shadow.{ShadowLists}
use Rattle.rt_check_draw.specs.declared.choice.Axes.{Axes}
use Rattle.rt_check_draw.specs.declared.choice.Choice.{Choice}
use Rattle.rt_check_draw.specs.declared.scale.Range.{Range}
use Rattle.rt_check_draw.specs.declared.scale.Place.{Place}
use Rattle.rt_check_draw.specs.Scale.{plot, left, upper, place_in, side_across, side_up, ends_of, range_of, frame_of, place_of}
use Rattle.rt_check_draw.specs.Levels.{rows_of, levels_of, is_drawn}
use Rattle.rt_check_draw.specs.Markup.{IsDocument}
use Rattle.rt_check_draw.specs.Picture.{picture_of}

-- no greater coordinate has a lower place
abbrev pub ScaleIsMonotone : Type 0
ScaleIsMonotone = (r : Range) (a b : ℤ) → a ≤ℤ b → place_in r a ≤ place_in r b

-- The ends of two boxes on an axis are in order. If that axis goes to the right, the one with the greater lower end begins
-- no further left; if it goes upwards, the one with the greater upper end reaches no less high, since an SVG counts downwards.
abbrev pub SidesKeepDirection : Type 0
SidesKeepDirection = (r one other : Range) → one.lo ≤ℤ one.hi → other.lo ≤ℤ other.hi →
    (one.lo ≤ℤ other.lo → (side_across r one).start ≤ (side_across r other).start) ×
    (one.hi ≤ℤ other.hi → (side_up r other).start ≤ (side_up r one).start)

-- each coordinate stands in the plot
abbrev pub ScaleStaysInPlot : Type 0
ScaleStaysInPlot = (r : Range) (z : ℤ) → place_in r z ≤ plot

-- a range lies in another one, and its ends in order
abbrev pub LiesIn : Range → Range → Type 0
LiesIn part whole = (whole.lo ≤ℤ part.lo) × (part.lo ≤ℤ part.hi) × (part.hi ≤ℤ whole.hi)

-- on each axis the range covers each cell
abbrev pub RangeCoversCells : Type 0
RangeCoversCells = (D : ℕ) (s : ShadowLists D) (axis : ℕ) →
    AllByRecursion (λ n. AllByRecursion (λ c. LiesIn (ends_of c axis) (range_of s.nodes axis)) n.cells) s.nodes

-- a box lies in the frame round the plot
abbrev pub IsInFrame : Place → Type 0
IsInFrame p =
    (left ≤ p.across.start) × (p.across.start + p.across.length ≤ left + plot) × (upper ≤ p.up.start) × (p.up.start + p.up.length ≤ upper + plot)

-- the box of each cell lies in the frame
abbrev pub BoxesStayInFrame : Type 0
BoxesStayInFrame = (D : ℕ) (s : ShadowLists D) (axes : Axes) →
    AllByRecursion (λ n. AllByRecursion (λ c. IsInFrame (place_of (frame_of s axes) n.level c)) n.cells) s.nodes

-- how often a number stands in a list
abbrev pub times : ℕ → List ℕ → ℕ
times x [] = 0
times x (y ∷ ys) = if y == x then suc (times x ys) else times x ys

-- each node's level is among those drawn once if it is to be drawn, and else not at all; so each of the node's cells is drawn
-- once, or not at all
abbrev pub EachLevelIsDrawnOnce : Type 0
EachLevelIsDrawnOnce = (D : ℕ) (choice : Choice) (axes : Axes) (s : ShadowLists D) →
    AllByRecursion (λ n. times n.level (levels_of choice (rows_of axes s)) ≡ (if is_drawn choice (rows_of axes s) n.level then 1 else 0)) s.nodes

-- the text is well-formed markup: one element of the name svg
abbrev pub PictureIsWellFormed : Type 0
PictureIsWellFormed = (D : ℕ) (choice : Choice) (s : ShadowLists D) → IfSome (picture_of choice s) (λ text. IsDocument (codes "svg") text)
