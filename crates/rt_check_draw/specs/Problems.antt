-- The problems of a tree, in red (own).
use Rattle.std.specs.Prelude.{ℕ, ◌-◌, min, Bool, List, [], ◌∷◌, ◌++◌, length, take, slice_get, codes, decimal, Option, None, Some, ◌==◌, if◌then◌else◌}
use Rattle.std.specs.Fmt.{signed_decimal}
use Rattle.std.specs.List.{flat_map}
use Rattle.rt_check.specs.declared.node.NodeRow.{NodeRow}
use Rattle.rt_check.specs.declared.node.RawCell.{RawCell}
use Rattle.rt_check.specs.declared.problem.Problem.{Problem}
use Rattle.rt_check.specs.Conditions.{code_of, node_of}
use Rattle.rt_check_draw.specs.declared.scale.Frame.{Frame}
use Rattle.rt_check_draw.specs.declared.boxes.Title.TheVariants.{Words}
use Rattle.rt_check_draw.specs.Text.{together}
use Rattle.rt_check_draw.specs.Boxes.{problem_words, box_line}

-- how many problems are listed in words
abbrev pub most_listed : ℕ
most_listed = 20

-- the problems that are listed in words
abbrev pub first_of : List Problem → List Problem
first_of ps = take (min (length ps) most_listed) ps

-- of a problem of the row entries, C9, the position is none of a cell
abbrev pub is_of_entries : Problem → Bool
is_of_entries p = code_of p.condition == 9

module _ {D : ℕ} where
  -- a box round a cell, with the problem in place of its name
  abbrev pub mark_if : Frame → Problem → ℕ → Option (RawCell D) → List ℕ
  mark_if f p level None = []
  mark_if f p level (Some cell) = box_line (Words p) f level cell

  -- the cell at a place of a node, counted from 0, if there is one
  abbrev pub mark_at : Frame → Problem → NodeRow D → ℕ → List ℕ
  mark_at f p node at = mark_if f p node.level (slice_get node.cells at)

  -- the cells of its node of which a problem speaks: one, or all if it speaks of the node
  abbrev pub marks_in : Frame → Problem → NodeRow D → List ℕ
  marks_in f p node =
      if is_of_entries p then [] else if p.position == 0 then flat_map (box_line (Words p) f node.level) node.cells else mark_at f p node (p.position - 1)

  abbrev pub marks_if : Frame → Problem → Option (NodeRow D) → List ℕ
  marks_if f p None = []
  marks_if f p (Some node) = marks_in f p node

  -- the boxes of which a problem speaks
  abbrev pub marks_of : Frame → List (NodeRow D) → Problem → List ℕ
  marks_of f nodes p = marks_if f p (node_of nodes p.node)

  -- the boxes of which problems speak
  abbrev pub marks_text : Frame → List (NodeRow D) → List Problem → List ℕ
  marks_text f nodes ps =
      codes "<g stroke=\"red\" fill=\"red\" fill-opacity=\"0.1\" stroke-width=\"150\">\n" ++ flat_map (marks_of f nodes) ps ++ codes "</g>\n"

abbrev pub problem_line : Problem → List ℕ
problem_line p = codes "<tspan x=\"10000\" dy=\"1800\">" ++ problem_words p ++ codes "</tspan>"

abbrev pub list_head : ℕ → ℕ → List ℕ
list_head start count = together (codes "<text fill=\"red\" x=\"10000\" y=\"" ∷ decimal start ∷ codes "\">Problems: " ∷ decimal count ∷ [])

-- how many problems there are, and the first of them in words
abbrev pub list_text : ℕ → List Problem → List ℕ
list_text start ps = list_head start (length ps) ++ flat_map problem_line (first_of ps) ++ codes "</text>\n"

module _ {D : ℕ} where
  -- nothing if there are none
  abbrev pub problems_text : Frame → ℕ → List (NodeRow D) → List Problem → List ℕ
  problems_text f start nodes ps = if length ps == 0 then [] else marks_text f nodes ps ++ list_text start ps
