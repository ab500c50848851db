-- Where in the picture a box stands (own). All lengths are in hundredths of a pixel.
use Rattle.std.specs.Prelude.{ℕ, ◌+◌, ◌-◌, ◌*◌, ◌/◌, min, max, ℤ, pos, negsuc, ◌-ℤ◌, List, Option, Some, None, fold, ◌==◌, if◌then◌else◌}
use Rattle.std.specs.Int.{int_min, int_max}
use Rattle.std.specs.List.{flat_map}
use Rattle.rt_box.specs.Interval.{or_zero}
use Rattle.rt_check.specs.declared.node.NodeRow.{NodeRow}
use Rattle.rt_check.specs.declared.node.RawCell.{RawCell}
use Rattle.rt_check.specs.Conditions.{coordinate}
use Rattle.rt_check.specs.Shadow.{ShadowLists}
use Rattle.rt_check_draw.specs.declared.choice.Axes.{Axes}
use Rattle.rt_check_draw.specs.declared.scale.Range.{Range}
use Rattle.rt_check_draw.specs.declared.scale.Side.{Side}
use Rattle.rt_check_draw.specs.declared.scale.Place.{Place}
use Rattle.rt_check_draw.specs.declared.scale.Frame.{Frame}

-- how wide and high the plot is
abbrev pub plot : ℕ
plot = 80000

-- how far the plot is from the left and the upper end of the picture
abbrev pub left : ℕ
left = 10000

abbrev pub upper : ℕ
upper = 4000

-- how wide and high a box is at least
abbrev pub least : ℕ
least = 200

abbrev pub range : ℤ → ℤ → Range
range lo hi = record { lo = lo; hi = hi }

-- hi less lo, or 0 if lo is above hi
abbrev pub length_of : Range → ℕ
length_of r = or_zero (r.hi -ℤ r.lo)

-- from the least lo to the greatest hi
abbrev pub cover : Range → Range → Range
cover a b = range (int_min a.lo b.lo) (int_max a.hi b.hi)

-- from the greatest lo to the least hi
abbrev pub common_part : Range → Range → Range
common_part a b = range (int_max a.lo b.lo) (int_min a.hi b.hi)

-- the range that all others cover
abbrev pub nothing : Range
nothing = range (pos 2147483647) (negsuc 2147483647)

-- how far a coordinate is from the start of the range if it is stretched to the length of the plot; half way in a range of one number
abbrev pub place_in : Range → ℤ → ℕ
place_in r z = if length_of r == 0 then plot / 2 else min (length_of (range r.lo z) * plot / length_of r) plot

module _ {D : ℕ} where
  -- from one end of a cell on an axis to the other, whichever is less
  abbrev pub ends_of : RawCell D → ℕ → Range
  ends_of cell axis = range (int_min (coordinate cell.lo axis) (coordinate cell.hi axis)) (int_max (coordinate cell.lo axis) (coordinate cell.hi axis))

  abbrev pub range_from : Range → List (RawCell D) → ℕ → Range
  range_from start cells axis = fold (λ r c. cover r (ends_of c axis)) start cells

  -- the range of all cells on an axis
  abbrev pub range_of : List (NodeRow D) → ℕ → Range
  range_of nodes axis = range_from nothing (flat_map (λ n. n.cells) nodes) axis

  -- the highest level of a node
  abbrev pub top_of : List (NodeRow D) → ℕ
  top_of nodes = fold (λ top n. max n.level top) 0 nodes

  abbrev pub range_up : List (NodeRow D) → Option ℕ → Range
  range_up nodes None = nothing
  range_up nodes (Some axis) = range_of nodes axis

  -- how coordinates and levels stand in the plot
  abbrev pub frame_of : ShadowLists D → Axes → Frame
  frame_of s axes = record { axes = axes; across = range_of s.nodes axes.across; up = range_up s.nodes axes.up; top = top_of s.nodes }

-- a side from one place in the plot to another; if it is lengthened to the least, it ends at the plot's end at the latest
abbrev pub side_from : ℕ → ℕ → ℕ → Side
side_from edge start end = let length = max (end - start) least in record { start = edge + min start (plot - length); length = length }

-- to the right
abbrev pub side_across : Range → Range → Side
side_across r e = side_from left (place_in r e.lo) (place_in r e.hi)

-- upwards, while an SVG counts downwards
abbrev pub side_up : Range → Range → Side
side_up r e = side_from upper (plot - place_in r e.hi) (plot - place_in r e.lo)

-- the bars of a level: those of the root are the highest
abbrev pub side_of_bar : ℕ → ℕ → Side
side_of_bar top level = let height = plot / (top + 1) in record { start = upper + height * (top - level); length = height * 9 / 10 }

module _ {D : ℕ} where
  abbrev pub side_on : Frame → ℕ → RawCell D → Option ℕ → Side
  side_on f level cell None = side_of_bar f.top level
  side_on f level cell (Some axis) = side_up f.up (ends_of cell axis)

  -- where the box of a cell of a node on that level stands
  abbrev pub place_of : Frame → ℕ → RawCell D → Place
  place_of f level cell = record { across = side_across f.across (ends_of cell f.axes.across); up = side_on f level cell f.axes.up }
