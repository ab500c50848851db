-- The picture of a tree (own; a document of the W3C's Scalable Vector Graphics 1.1).
use Rattle.std.specs.Prelude.{ℕ, ◌+◌, ◌-◌, ◌*◌, ◌^◌, min, List, [], ◌∷◌, ◌++◌, length, codes, decimal, int_le, Option, None, Some, if◌then◌else◌}
use Rattle.std.specs.Fmt.{signed_decimal}
use Rattle.std.specs.List.{flat_map}
use Rattle.std.specs.Option.{option_map}
use Rattle.rt_check.specs.declared.node.NodeRow.{NodeRow}
use Rattle.rt_check.specs.declared.problem.Problem.{Problem}
use Rattle.rt_check.specs.Conditions.{problems_of}
use Rattle.rt_check.specs.Shadow.{ShadowLists}
use Rattle.rt_check_dump.specs.declared.dump.AnyShadow.{AnyShadow}
use Rattle.rt_check_dump.specs.declared.dump.AnyShadow.TheVariants.{One, Two, Three}
use Rattle.rt_check_draw.specs.declared.choice.Axes.{Axes}
use Rattle.rt_check_draw.specs.declared.choice.Choice.{Choice}
use Rattle.rt_check_draw.specs.declared.scale.Range.{Range}
use Rattle.rt_check_draw.specs.declared.scale.Frame.{Frame}
use Rattle.rt_check_draw.specs.declared.levels.LevelRow.{LevelRow}
use Rattle.rt_check_draw.specs.Axes.{axes_of}
use Rattle.rt_check_draw.specs.Scale.{frame_of}
use Rattle.rt_check_draw.specs.Text.{together}
use Rattle.rt_check_draw.specs.Boxes.{level_text}
use Rattle.rt_check_draw.specs.Levels.{rows_of, levels_of, leaves_out}
use Rattle.rt_check_draw.specs.Legend.{line_at, legend_text}
use Rattle.rt_check_draw.specs.Problems.{most_listed, problems_text}

-- the size in pixels, a white ground and a frame round the plot
abbrev pub head : ℕ → List ℕ
head height =
    together (codes "<svg xmlns=\"http://www.w3.org/2000/svg\" width=\"1000\" height=\"" ∷ decimal height ∷ codes "\" viewBox=\"0 0 100000 " ∷ decimal height
    ∷ codes "00\" font-family=\"sans-serif\" font-size=\"1300\">\n<rect width=\"100%\" height=\"100%\" fill=\"white\"/>\n"
    ∷ codes "<rect x=\"10000\" y=\"4000\" width=\"80000\" height=\"80000\" fill=\"none\" stroke=\"silver\" stroke-width=\"50\"/>\n" ∷ [])

-- an axis counted from 1
abbrev pub axis_number : ℕ → ℕ
axis_number axis = min (axis + 1) (2 ^ 64 - 1)

-- what stands upwards
abbrev pub upwards : Option ℕ → List ℕ
upwards None = codes "the levels"
upwards (Some axis) = together (codes "axis " ∷ decimal (axis_number axis) ∷ [])

-- the tree's size, and the axis to the right
abbrev pub size : ℕ → ℕ → ℕ → List ℕ
size rows capacity axis =
    together (codes "<text x=\"10000\" y=\"2500\">Rows: " ∷ decimal rows ∷ codes "; capacity: " ∷ decimal capacity ∷ codes "; to the right: axis "
    ∷ decimal axis ∷ codes "; upwards: " ∷ [])

abbrev pub title : ℕ → ℕ → Axes → List ℕ
title rows capacity axes = size rows capacity (axis_number axes.across) ++ upwards axes.up ++ codes "</text>\n"

-- the ends of a range, each behind its text
abbrev pub ends_text : List ℕ → List ℕ → Range → List ℕ
ends_text before_lo before_hi r = together (before_lo ∷ signed_decimal r.lo ∷ before_hi ∷ signed_decimal r.hi ∷ codes "</text>\n" ∷ [])

-- nothing if there is no cell, or no axis upwards
abbrev pub range_text : List ℕ → List ℕ → Range → List ℕ
range_text before_lo before_hi r = if int_le r.lo r.hi then ends_text before_lo before_hi r else []

-- the ends of the ranges, each beside its axis
abbrev pub ranges_text : Frame → List ℕ
ranges_text f =
    range_text (codes "<text x=\"10000\" y=\"85700\">") (codes "</text>\n<text x=\"90000\" y=\"85700\" text-anchor=\"end\">") f.across
    ++ range_text (codes "<text x=\"9500\" y=\"84000\" text-anchor=\"end\">") (codes "</text>\n<text x=\"9500\" y=\"5000\" text-anchor=\"end\">") f.up

-- where the problems start in words
abbrev pub problems_start : ℕ → ℕ
problems_start top = line_at (4 + top)

-- how many pixels the picture is high
abbrev pub height_of : ℕ → List Problem → ℕ
height_of top problems = 980 + 18 * (top + min (length problems) most_listed)

-- what stands before the boxes
abbrev pub front_text : ℕ → ℕ → ℕ → Frame → List ℕ
front_text height rows capacity f = head height ++ title rows capacity f.axes ++ ranges_text f

module _ {D : ℕ} where
  -- the boxes of the levels that are drawn
  abbrev pub plot_text : Choice → ShadowLists D → Frame → List LevelRow → List ℕ
  plot_text choice s f rows = flat_map (level_text f s.nodes) (levels_of choice rows)

  -- the problems and the end
  abbrev pub end_text : Frame → ℕ → List (NodeRow D) → List Problem → List ℕ
  end_text f start nodes problems = problems_text f start nodes problems ++ codes "</svg>\n"

  -- the picture of a shadow, from its frame, its legend's rows and its problems
  abbrev pub picture_from : Choice → ShadowLists D → Frame → List LevelRow → List Problem → List ℕ
  picture_from choice s f rows problems =
      front_text (height_of f.top problems) (length s.rows) s.capacity f ++ plot_text choice s f rows
      ++ legend_text f.top s.capacity rows (leaves_out choice rows) ++ end_text f (problems_start f.top) s.nodes problems

  -- the picture of a shadow on these axes
  abbrev pub picture_on : Choice → ShadowLists D → Axes → List ℕ
  picture_on choice s axes = picture_from choice s (frame_of s axes) (rows_of axes s) (problems_of s)

-- the picture of a shadow, if it has the axes that are asked for
abbrev pub picture_of : {D : ℕ} → Choice → ShadowLists D → Option (List ℕ)
picture_of {D} choice s = option_map (picture_on choice s) (axes_of choice D)

abbrev pub any_picture : Choice → AnyShadow → Option (List ℕ)
any_picture choice (One s) = picture_of choice s
any_picture choice (Two s) = picture_of choice s
any_picture choice (Three s) = picture_of choice s
