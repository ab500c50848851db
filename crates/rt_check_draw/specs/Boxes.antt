-- The boxes of a picture, level by level (own; the elements are those of the W3C's Scalable Vector Graphics 1.1).
use Rattle.std.specs.Prelude.{ℕ, ◌+◌, ◌*◌, min, ℤ, List, [], ◌∷◌, ◌++◌, codes, decimal, ◌==◌, ◌%◌, filter, if◌then◌else◌}
use Rattle.std.specs.Fmt.{signed_decimal}
use Rattle.std.specs.List.{flat_map}
use Rattle.rt_check.specs.declared.node.NodeRow.{NodeRow}
use Rattle.rt_check.specs.declared.node.RawCell.{RawCell}
use Rattle.rt_check.specs.declared.problem.Problem.{Problem}
use Rattle.rt_check.specs.Conditions.{code_of}
use Rattle.rt_check_draw.specs.declared.boxes.Title.{Title}
use Rattle.rt_check_draw.specs.declared.boxes.Title.TheVariants.{Name, Words}
use Rattle.rt_check_draw.specs.declared.scale.Place.{Place}
use Rattle.rt_check_draw.specs.declared.scale.Frame.{Frame}
use Rattle.rt_check_draw.specs.Text.{together}
use Rattle.rt_check_draw.specs.Scale.{place_of}

-- the start of a box
abbrev pub place_text : Place → List ℕ
place_text p =
    together (codes "<rect x=\"" ∷ decimal p.across.start ∷ codes "\" y=\"" ∷ decimal p.up.start ∷ codes "\" width=\"" ∷ decimal p.across.length
    ∷ codes "\" height=\"" ∷ decimal p.up.length ∷ codes "\">" ∷ [])

-- a leaf's cells name rows, and the others nodes
abbrev pub word_for : ℕ → List ℕ
word_for level = if level == 0 then codes "row " else codes "node "

-- what a cell names
abbrev pub cell_name : ℕ → ℤ → List ℕ
cell_name level number = together (word_for level ∷ signed_decimal number ∷ [])

-- a problem, as `C6 node 1 at 2`
abbrev pub problem_words : Problem → List ℕ
problem_words p =
    together (codes "C" ∷ decimal (code_of p.condition) ∷ codes " node " ∷ signed_decimal p.node ∷ codes " at " ∷ decimal p.position ∷ [])

-- what the title of a box says, which a browser shows
abbrev pub title_words : Title → ℕ → ℤ → List ℕ
title_words Name level number = cell_name level number
title_words (Words p) level number = problem_words p

-- the hue of a level's colour, from 40 to 319 degrees, so that none is red
abbrev pub hue_of : ℕ → ℕ
hue_of level = 40 + (170 + 173 * level) % 280

-- how thick lines are: thicker upwards, so that a box shows beside those in it
abbrev pub stroke_of : ℕ → ℕ
stroke_of level = 50 + 50 * min level 4

-- leaves are filled lightly
abbrev pub opacity_of : ℕ → List ℕ
opacity_of level = if level == 0 then codes "0.15" else codes "0"

abbrev pub level_colours : ℕ → ℕ → ℕ → List ℕ
level_colours level hue width =
    together (codes "<g stroke=\"currentColor\" fill=\"currentColor\" color=\"hsl(" ∷ decimal hue ∷ codes ",70%,40%)\" fill-opacity=\"" ∷ opacity_of level
    ∷ codes "\" stroke-width=\"" ∷ decimal width ∷ codes "\">\n" ∷ [])

-- the start of a level's boxes: their colour
abbrev pub level_start : ℕ → List ℕ
level_start level = level_colours level (hue_of level) (stroke_of level)

module _ {D : ℕ} where
  -- the box of a cell of a node on that level
  abbrev pub box_line : Title → Frame → ℕ → RawCell D → List ℕ
  box_line title f level cell =
      place_text (place_of f level cell) ++ codes "<title>" ++ title_words title level cell.number ++ codes "</title></rect>\n"

  -- the nodes of a level
  abbrev pub nodes_on : ℕ → List (NodeRow D) → List (NodeRow D)
  nodes_on level nodes = filter (λ n. n.level == level) nodes

  -- the cells of a level's nodes
  abbrev pub cells_on : ℕ → List (NodeRow D) → List (RawCell D)
  cells_on level nodes = flat_map (λ n. n.cells) (nodes_on level nodes)

  -- a box for each cell of a level
  abbrev pub level_boxes : Frame → List (NodeRow D) → ℕ → List ℕ
  level_boxes f nodes level = flat_map (box_line Name f level) (cells_on level nodes)

  -- the boxes of a level, in its colour
  abbrev pub level_text : Frame → List (NodeRow D) → ℕ → List ℕ
  level_text f nodes level = level_start level ++ level_boxes f nodes level ++ codes "</g>\n"
