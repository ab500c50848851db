-- Lemmas on the text of a picture: each part is content, and the whole is a document.
use Rattle.std.proofs.Common.{◌≡◌, ◌∙◌, ap, sym, subst, refl, ℕ, ◌+◌, Bool, true, false, List, [], ◌∷◌, ◌++◌, map, codes, decimal, append_assoc, ℤ, ◌==◌}
use Rattle.std.specs.Prelude.{IsTrue, Option, None, Some, IfSome, int_le, length, if◌then◌else◌}
use Rattle.std.specs.Fmt.{signed_decimal}
use Rattle.std.specs.List.{flat_map, list_all}
use Rattle.std.specs.Option.{option_map}
use Rattle.std.proofs.lemmas.List.Folds.{list_all-append}
use Rattle.rt_check.specs.declared.node.NodeRow.{NodeRow}
use Rattle.rt_check.specs.declared.node.RawCell.{RawCell}
use Rattle.rt_check.specs.declared.problem.Problem.{Problem}
use Rattle.rt_check.specs.Conditions.{code_of, node_of, problems_of}
use Rattle.rt_check.specs.Shadow.{ShadowLists}
use Rattle.rt_check_draw.specs.declared.choice.Axes.{Axes}
use Rattle.rt_check_draw.specs.declared.choice.Choice.{Choice}
use Rattle.rt_check_draw.specs.declared.scale.Place.{Place}
use Rattle.rt_check_draw.specs.declared.scale.Range.{Range}
use Rattle.rt_check_draw.specs.declared.scale.Frame.{Frame}
use Rattle.rt_check_draw.specs.declared.levels.LevelRow.{LevelRow}
use Rattle.rt_check_draw.specs.Markup.{is_plain, are_attributes, IsContent, nothing, character, IsDocument}
use Rattle.rt_check_draw.specs.Axes.{axes_of}
use Rattle.rt_check_draw.specs.Scale.{frame_of, place_of}
use Rattle.rt_check_draw.specs.declared.boxes.Title.{Title}
use Rattle.rt_check_draw.specs.declared.boxes.Title.TheVariants.{Name, Words}
use Rattle.rt_check_draw.specs.Text.{together}
use Rattle.rt_check_draw.specs.Boxes.{place_text, word_for, title_words, hue_of, stroke_of, opacity_of, box_line, cells_on, level_text}
use Rattle.rt_check_draw.specs.Levels.{rows_of, levels_of, leaves_out}
use Rattle.rt_check_draw.specs.Legend.{row_text, line_at, legend_head, note_text, note_if, legend_text}
use Rattle.rt_check_draw.specs.Problems.{first_of, mark_if, marks_in, marks_if, marks_of, marks_text, problem_line, list_text, problems_text}
use Rattle.rt_check_draw.specs.Picture.{head, axis_number, upwards, title, ends_text, range_text, ranges_text, problems_start, height_of, plot_text, picture_on}
use Rattle.rt_check_draw.specs.Laws.{PictureIsWellFormed}
use Rattle.rt_check_draw.proofs.Markups.{decimal-plain, signed-plain, content-append, plain-content, flat-content, parts-content, together_then, then-together, is, element_then, whole-content, whole-element, empty-content, then-rest}

number : (n : ℕ) → IsContent (decimal n)
number n = plain-content (decimal n) (decimal-plain n)

signed : (z : ℤ) → IsContent (signed_decimal z)
signed z = plain-content (signed_decimal z) (signed-plain z)

word-plain : (level : ℕ) → IsTrue (list_all is_plain (word_for level))
word-plain level = by (level == 0) refl
  where
    by : (b : Bool) → (level == 0) ≡ b → IsTrue (list_all is_plain (word_for level))
    by true e = rw e refl
    by false e = rw e refl

opacity-plain : (level : ℕ) → IsTrue (list_all is_plain (opacity_of level))
opacity-plain level = by (level == 0) refl
  where
    by : (b : Bool) → (level == 0) ≡ b → IsTrue (list_all is_plain (opacity_of level))
    by true e = rw e refl
    by false e = rw e refl

either : (b : Bool) (xs ys : List ℕ) → IsContent xs → IsContent ys → IsContent (if b then xs else ys)
either true xs ys p q = p
either false xs ys p q = q

-- texts that are joined from the left
three : (parts : List (List ℕ)) (x e : List ℕ) → (together parts ++ x) ++ e ≡ together_then parts (x ++ e)
three parts x e = append_assoc (together parts) x e ∙ then-together parts (x ++ e)

-- a problem in words
module _ (problem : Problem) where
  abbrev word_parts : List (List ℕ)
  word_parts = codes "C" ∷ decimal (code_of problem.condition) ∷ codes " node " ∷ signed_decimal problem.node ∷ codes " at " ∷ decimal problem.position ∷ []

  words-content : IsContent (together word_parts)
  words-content =
      parts-content word_parts
      (plain-content (codes "C") refl, (number (code_of problem.condition), (plain-content (codes " node ") refl, (signed problem.node, (plain-content (codes " at ") refl, (number problem.position, tt))))))

-- boxes with a title in them
module _ (p : Place) where
  abbrev place_parts : List (List ℕ)
  place_parts =
      codes "<rect x=\"" ∷ decimal p.across.start ∷ codes "\" y=\"" ∷ decimal p.up.start ∷ codes "\" width=\"" ∷ decimal p.across.length
      ∷ codes "\" height=\"" ∷ decimal p.up.length ∷ codes "\">" ∷ []

  abbrev place_attributes : List (List ℕ × List (List ℕ))
  place_attributes =
      (codes "x", decimal p.across.start ∷ []) ∷ (codes "y", decimal p.up.start ∷ []) ∷ (codes "width", decimal p.across.length ∷ [])
      ∷ (codes "height", decimal p.up.length ∷ []) ∷ []

  place-sound : IsTrue (are_attributes (map is place_attributes))
  place-sound = simp (list_all-append, decimal-plain)

  boxed : (inside : List (List ℕ)) → IsContent (together inside) → IsContent (element_then (codes "rect") place_attributes inside (codes "\n"))
  boxed inside h = whole-content (codes "rect") place_attributes refl place-sound inside (codes "\n") h (plain-content (codes "\n") refl)

  box-content : (words : List ℕ) → IsContent words → IsContent (place_text p ++ codes "<title>" ++ words ++ codes "</title></rect>\n")
  box-content words h =
      let inside : IsContent (together (codes "<title>" ∷ words ∷ codes "</title>" ∷ [])) =
      whole-content (codes "title") [] refl refl (words ∷ []) [] (parts-content (words ∷ []) (h, tt)) nothing in
      let text : ((together place_parts ++ codes "<title>") ++ words) ++ codes "</title></rect>\n" ≡ together_then place_parts (codes "<title>" ++ (words ++ codes "</title></rect>\n")) =
      append_assoc (together place_parts ++ codes "<title>") words (codes "</title></rect>\n") ∙ three place_parts (codes "<title>") (words ++ codes "</title></rect>\n") in
      subst IsContent (sym text) (boxed (codes "<title>" ∷ words ∷ codes "</title>" ∷ []) inside)

titled : (title : Title) (level : ℕ) (number : ℤ) → IsContent (title_words title level number)
titled Name level id = parts-content (word_for level ∷ signed_decimal id ∷ []) (plain-content (word_for level) (word-plain level), (signed id, tt))
titled (Words problem) level id = words-content problem

cell-content : {D : ℕ} (title : Title) (f : Frame) (level : ℕ) (cell : RawCell D) → IsContent (box_line title f level cell)
cell-content title f level cell = box-content (place_of f level cell) (title_words title level cell.number) (titled title level cell.number)

-- the boxes of a level
module _ (level hue width : ℕ) where
  abbrev colour_parts : List (List ℕ)
  colour_parts =
      codes "<g stroke=\"currentColor\" fill=\"currentColor\" color=\"hsl(" ∷ decimal hue ∷ codes ",70%,40%)\" fill-opacity=\"" ∷ opacity_of level
      ∷ codes "\" stroke-width=\"" ∷ decimal width ∷ codes "\">\n" ∷ []

  abbrev colour_attributes : List (List ℕ × List (List ℕ))
  colour_attributes =
      (codes "stroke", codes "currentColor" ∷ []) ∷ (codes "fill", codes "currentColor" ∷ []) ∷ (codes "color", codes "hsl(" ∷ decimal hue ∷ codes ",70%,40%)" ∷ [])
      ∷ (codes "fill-opacity", opacity_of level ∷ []) ∷ (codes "stroke-width", decimal width ∷ []) ∷ []

  colour-sound : IsTrue (are_attributes (map is colour_attributes))
  colour-sound = simp (list_all-append, decimal-plain, opacity-plain)

  group-content : (boxes : List ℕ) → IsContent boxes → IsContent (together colour_parts ++ boxes ++ codes "</g>\n")
  group-content boxes h =
      subst IsContent (sym (three colour_parts boxes (codes "</g>\n")))
      (whole-content (codes "g") colour_attributes refl colour-sound (codes "\n" ∷ boxes ∷ []) (codes "\n")
      (parts-content (codes "\n" ∷ boxes ∷ []) (plain-content (codes "\n") refl, (h, tt))) (plain-content (codes "\n") refl))

module _ {D : ℕ} (f : Frame) where
  level-content : (nodes : List (NodeRow D)) (level : ℕ) → IsContent (level_text f nodes level)
  level-content nodes level =
      group-content level (hue_of level) (stroke_of level) (flat_map (box_line Name f level) (cells_on level nodes))
      (flat-content (box_line Name f level) (cell-content Name f level) (cells_on level nodes))

-- the legend
span_at : (x : List ℕ) (inside : List (List ℕ)) (rest : List ℕ) → IsTrue (list_all is_plain x) → IsContent (together inside) → IsContent rest
    → IsContent (element_then (codes "tspan") ((codes "x", x ∷ []) ∷ []) inside rest)
span_at x inside rest plain h after = whole-content (codes "tspan") ((codes "x", x ∷ []) ∷ []) refl (simp (list_all-append, plain)) inside rest h after

one-part : (part : List ℕ) → IsContent part → IsContent (together (part ∷ []))
one-part part h = parts-content (part ∷ []) (h, tt)

module _ (hue y level nodes cells fill overlap : ℕ) where
  abbrev start_parts : List (List ℕ)
  start_parts = codes "<text text-anchor=\"end\" fill=\"hsl(" ∷ decimal hue ∷ codes ",70%,30%)\" y=\"" ∷ decimal y ∷ codes "\">" ∷ []

  abbrev start_attributes : List (List ℕ × List (List ℕ))
  start_attributes = (codes "text-anchor", codes "end" ∷ []) ∷ (codes "fill", codes "hsl(" ∷ decimal hue ∷ codes ",70%,30%)" ∷ []) ∷ (codes "y", decimal y ∷ []) ∷ []

  start-sound : IsTrue (are_attributes (map is start_attributes))
  start-sound = simp (list_all-append, decimal-plain)

  abbrev count_parts : List (List ℕ)
  count_parts =
      codes "<tspan x=\"14000\">" ∷ decimal level ∷ codes "</tspan><tspan x=\"26000\">" ∷ decimal nodes
      ∷ codes "</tspan><tspan x=\"42000\">" ∷ decimal cells ∷ []

  abbrev share_parts : List (List ℕ)
  share_parts = codes "</tspan><tspan x=\"56000\">" ∷ decimal fill ∷ codes " %</tspan><tspan x=\"76000\">" ∷ decimal overlap ∷ codes " %</tspan></text>\n" ∷ []

  abbrev column_parts : List (List ℕ)
  column_parts =
      codes "<tspan x=\"14000\">" ∷ decimal level ∷ codes "</tspan><tspan x=\"26000\">" ∷ decimal nodes ∷ codes "</tspan><tspan x=\"42000\">" ∷ decimal cells
      ∷ codes "</tspan><tspan x=\"56000\">" ∷ decimal fill ∷ codes " %</tspan><tspan x=\"76000\">" ∷ decimal overlap ∷ codes " %</tspan>" ∷ []

  percent-content : (n : ℕ) → IsContent (together (decimal n ∷ codes " %" ∷ []))
  percent-content n = parts-content (decimal n ∷ codes " %" ∷ []) (number n, (plain-content (codes " %") refl, tt))

  columns-content : IsContent (together column_parts)
  columns-content =
      span_at (codes "14000") (decimal level ∷ []) _ refl (one-part _ (number level))
      (span_at (codes "26000") (decimal nodes ∷ []) _ refl (one-part _ (number nodes))
      (span_at (codes "42000") (decimal cells ∷ []) _ refl (one-part _ (number cells))
      (span_at (codes "56000") (decimal fill ∷ codes " %" ∷ []) _ refl (percent-content fill)
      (span_at (codes "76000") (decimal overlap ∷ codes " %" ∷ []) [] refl (percent-content overlap) nothing))))

  row-content : IsContent (together start_parts ++ together count_parts ++ together share_parts)
  row-content =
      let text = three start_parts (together count_parts) (together share_parts) ∙ ap (together_then start_parts) (then-together count_parts (together share_parts)) in
      subst IsContent (sym text)
      (whole-content (codes "text") start_attributes refl start-sound column_parts (codes "\n") columns-content (plain-content (codes "\n") refl))

head-content : IsContent legend_head
head-content =
    whole-content (codes "text") ((codes "text-anchor", codes "end" ∷ []) ∷ (codes "y", codes "89000" ∷ []) ∷ []) refl refl
    (codes "<tspan x=\"14000\">level</tspan><tspan x=\"26000\">nodes</tspan><tspan x=\"42000\">cells</tspan><tspan x=\"56000\">mean fill</tspan><tspan x=\"76000\">overlap of siblings</tspan>" ∷ []) (codes "\n")
    (span_at (codes "14000") (codes "level" ∷ []) _ refl (plain-content _ refl)
    (span_at (codes "26000") (codes "nodes" ∷ []) _ refl (plain-content _ refl)
    (span_at (codes "42000") (codes "cells" ∷ []) _ refl (plain-content _ refl)
    (span_at (codes "56000") (codes "mean fill" ∷ []) _ refl (plain-content _ refl)
    (span_at (codes "76000") (codes "overlap of siblings" ∷ []) [] refl (plain-content _ refl) nothing)))))
    (plain-content (codes "\n") refl)

note-content : (top : ℕ) → IsContent (note_text top)
note-content top =
    whole-content (codes "text") ((codes "x", codes "10000" ∷ []) ∷ (codes "y", decimal (line_at (2 + top)) ∷ []) ∷ []) refl (simp (list_all-append, decimal-plain))
    (codes "More than 20000 boxes: the cells of the leaves are left out (--all draws them)" ∷ []) (codes "\n") (plain-content _ refl) (plain-content (codes "\n") refl)

note-if : (out : Bool) (top : ℕ) → IsContent (note_if out top)
note-if true top = note-content top
note-if false top = nothing

legend-content : (top capacity : ℕ) (rows : List LevelRow) (out : Bool) → IsContent (legend_text top capacity rows out)
legend-content top capacity rows out =
    content-append _ _ (content-append _ _ head-content (flat-content (row_text top capacity) each rows)) (note-if out top)
  where
    each : (row : LevelRow) → IsContent (row_text top capacity row)
    each row = row-content _ _ row.level row.nodes row.cells _ _

-- the problems
module _ {D : ℕ} (f : Frame) (problem : Problem) where
  mark-if : (level : ℕ) (cell : Option (RawCell D)) → IsContent (mark_if f problem level cell)
  mark-if level None = nothing
  mark-if level (Some cell) = cell-content (Words problem) f level cell

  marks-in : (node : NodeRow D) → IsContent (marks_in f problem node)
  marks-in node =
      either (code_of problem.condition == 9) _ _ nothing
      (either (problem.position == 0) _ _ (flat-content (box_line (Words problem) f node.level) (cell-content (Words problem) f node.level) node.cells) (mark-if node.level _))

  marks-if : (node : Option (NodeRow D)) → IsContent (marks_if f problem node)
  marks-if None = nothing
  marks-if (Some node) = marks-in node

problem-content : (problem : Problem) → IsContent (problem_line problem)
problem-content problem =
    subst IsContent (sym (ap (λ l. codes "<tspan x=\"10000\" dy=\"1800\">" ++ l) (then-together (word_parts problem) (codes "</tspan>"))))
    (whole-content (codes "tspan") ((codes "x", codes "10000" ∷ []) ∷ (codes "dy", codes "1800" ∷ []) ∷ []) refl refl (word_parts problem) [] (words-content problem) nothing)

list-content : (start : ℕ) (problems : List Problem) → IsContent (list_text start problems)
list-content start problems =
    let lines : List ℕ = flat_map problem_line (first_of problems) in
    let head_parts : List (List ℕ) = codes "<text fill=\"red\" x=\"10000\" y=\"" ∷ decimal start ∷ codes "\">Problems: " ∷ decimal (length problems) ∷ [] in
    let inside : List (List ℕ) = codes "Problems: " ∷ decimal (length problems) ∷ lines ∷ [] in
    subst IsContent (sym (three head_parts lines (codes "</text>\n")))
    (whole-content (codes "text") ((codes "fill", codes "red" ∷ []) ∷ (codes "x", codes "10000" ∷ []) ∷ (codes "y", decimal start ∷ []) ∷ []) refl (simp (list_all-append, decimal-plain))
    inside (codes "\n")
    (parts-content inside (plain-content (codes "Problems: ") refl, (number (length problems), (flat-content problem_line problem-content (first_of problems), tt))))
    (plain-content (codes "\n") refl))

module _ {D : ℕ} (f : Frame) (nodes : List (NodeRow D)) (problems : List Problem) where
  marks-content : IsContent (marks_text f nodes problems)
  marks-content =
      let boxes : List ℕ = flat_map (marks_of f nodes) problems in
      whole-content (codes "g")
      ((codes "stroke", codes "red" ∷ []) ∷ (codes "fill", codes "red" ∷ []) ∷ (codes "fill-opacity", codes "0.1" ∷ []) ∷ (codes "stroke-width", codes "150" ∷ []) ∷ []) refl refl
      (codes "\n" ∷ boxes ∷ []) (codes "\n")
      (parts-content (codes "\n" ∷ boxes ∷ []) (plain-content (codes "\n") refl, (flat-content (marks_of f nodes) (λ p. marks-if f p (node_of nodes p.node)) problems, tt)))
      (plain-content (codes "\n") refl)

  problems-content : (start : ℕ) → IsContent (problems_text f start nodes problems)
  problems-content start = either (length problems == 0) _ _ nothing (content-append _ _ marks-content (list-content start problems))

-- what stands before the boxes
upwards-content : (up : Option ℕ) → IsContent (upwards up)
upwards-content None = plain-content (codes "the levels") refl
upwards-content (Some axis) =
    parts-content (codes "axis " ∷ decimal (axis_number axis) ∷ []) (plain-content (codes "axis ") refl, (number (axis_number axis), tt))

title-content : (rows capacity : ℕ) (axes : Axes) → IsContent (title rows capacity axes)
title-content rows capacity axes =
    let size_parts : List (List ℕ) =
    codes "<text x=\"10000\" y=\"2500\">Rows: " ∷ decimal rows ∷ codes "; capacity: " ∷ decimal capacity ∷ codes "; to the right: axis "
    ∷ decimal (axis_number axes.across) ∷ codes "; upwards: " ∷ [] in
    let inside : List (List ℕ) =
    codes "Rows: " ∷ decimal rows ∷ codes "; capacity: " ∷ decimal capacity ∷ codes "; to the right: axis " ∷ decimal (axis_number axes.across) ∷ codes "; upwards: "
    ∷ upwards axes.up ∷ [] in
    subst IsContent (sym (three size_parts (upwards axes.up) (codes "</text>\n")))
    (whole-content (codes "text") ((codes "x", codes "10000" ∷ []) ∷ (codes "y", codes "2500" ∷ []) ∷ []) refl refl inside (codes "\n")
    (parts-content inside (
      plain-content (codes "Rows: ") refl,
      (
        number rows,
        (
          plain-content (codes "; capacity: ") refl,
          (
            number capacity,
            (plain-content (codes "; to the right: axis ") refl, (number (axis_number axes.across), (plain-content (codes "; upwards: ") refl, (upwards-content axes.up, tt)))),
          ),
        ),
      ),
    ))
    (plain-content (codes "\n") refl))

module _ (r : Range) where
  signed-content : (z : ℤ) → IsContent (together (signed_decimal z ∷ []))
  signed-content z = one-part (signed_decimal z) (signed z)

  abbrev across : List ℕ
  across = ends_text (codes "<text x=\"10000\" y=\"85700\">") (codes "</text>\n<text x=\"90000\" y=\"85700\" text-anchor=\"end\">") r

  abbrev up : List ℕ
  up = ends_text (codes "<text x=\"9500\" y=\"84000\" text-anchor=\"end\">") (codes "</text>\n<text x=\"9500\" y=\"5000\" text-anchor=\"end\">") r

  across-content : IsContent across
  across-content =
      whole-content (codes "text") ((codes "x", codes "10000" ∷ []) ∷ (codes "y", codes "85700" ∷ []) ∷ []) refl refl (signed_decimal r.lo ∷ []) _ (signed-content r.lo)
      (character 10 _ refl
      (whole-content (codes "text") ((codes "x", codes "90000" ∷ []) ∷ (codes "y", codes "85700" ∷ []) ∷ (codes "text-anchor", codes "end" ∷ []) ∷ []) refl refl
      (signed_decimal r.hi ∷ []) (codes "\n") (signed-content r.hi) (plain-content (codes "\n") refl)))

  up-content : IsContent up
  up-content =
      whole-content (codes "text") ((codes "x", codes "9500" ∷ []) ∷ (codes "y", codes "84000" ∷ []) ∷ (codes "text-anchor", codes "end" ∷ []) ∷ []) refl refl
      (signed_decimal r.lo ∷ []) _ (signed-content r.lo)
      (character 10 _ refl
      (whole-content (codes "text") ((codes "x", codes "9500" ∷ []) ∷ (codes "y", codes "5000" ∷ []) ∷ (codes "text-anchor", codes "end" ∷ []) ∷ []) refl refl
      (signed_decimal r.hi ∷ []) (codes "\n") (signed-content r.hi) (plain-content (codes "\n") refl)))

  if-content : (text : List ℕ) → IsContent text → IsContent (if int_le r.lo r.hi then text else [])
  if-content text h = either (int_le r.lo r.hi) _ _ h nothing

ranges-content : (f : Frame) → IsContent (ranges_text f)
ranges-content f = content-append _ _ (if-content f.across _ (across-content f.across)) (if-content f.up _ (up-content f.up))

-- the whole
module _ (height : ℕ) where
  abbrev head_parts : List (List ℕ)
  head_parts =
      codes "<svg xmlns=\"http://www.w3.org/2000/svg\" width=\"1000\" height=\"" ∷ decimal height ∷ codes "\" viewBox=\"0 0 100000 " ∷ decimal height
      ∷ codes "00\" font-family=\"sans-serif\" font-size=\"1300\">\n<rect width=\"100%\" height=\"100%\" fill=\"white\"/>\n"
      ∷ codes "<rect x=\"10000\" y=\"4000\" width=\"80000\" height=\"80000\" fill=\"none\" stroke=\"silver\" stroke-width=\"50\"/>\n" ∷ []

  abbrev head_attributes : List (List ℕ × List (List ℕ))
  head_attributes =
      (codes "xmlns", codes "http://www.w3.org/2000/svg" ∷ []) ∷ (codes "width", codes "1000" ∷ []) ∷ (codes "height", decimal height ∷ [])
      ∷ (codes "viewBox", codes "0 0 100000 " ∷ decimal height ∷ codes "00" ∷ []) ∷ (codes "font-family", codes "sans-serif" ∷ []) ∷ (codes "font-size", codes "1300" ∷ []) ∷ []

  head-sound : IsTrue (are_attributes (map is head_attributes))
  head-sound = simp (list_all-append, decimal-plain)

abbrev ground : List ℕ
ground =
    codes "\n<rect width=\"100%\" height=\"100%\" fill=\"white\"/>\n<rect x=\"10000\" y=\"4000\" width=\"80000\" height=\"80000\" fill=\"none\" stroke=\"silver\" stroke-width=\"50\"/>\n"

ground-content : IsContent ground
ground-content =
    character 10 _ refl
    (empty-content (codes "rect") ((codes "width", codes "100%" ∷ []) ∷ (codes "height", codes "100%" ∷ []) ∷ (codes "fill", codes "white" ∷ []) ∷ []) refl refl _
    (character 10 _ refl
    (empty-content (codes "rect")
    ((codes "x", codes "10000" ∷ []) ∷ (codes "y", codes "4000" ∷ []) ∷ (codes "width", codes "80000" ∷ []) ∷ (codes "height", codes "80000" ∷ []) ∷ (codes "fill", codes "none" ∷ [])
    ∷ (codes "stroke", codes "silver" ∷ []) ∷ (codes "stroke-width", codes "50" ∷ []) ∷ []) refl refl (codes "\n") (plain-content (codes "\n") refl))))

regrouped : (h t r p l q e : List ℕ) → ((((h ++ t) ++ r) ++ p) ++ l) ++ (q ++ e) ≡ h ++ (t ++ (r ++ (p ++ (l ++ (q ++ e)))))
regrouped h t r p l q e = simp append_assoc

document : (height : ℕ) (t r p l q : List ℕ) → IsContent t → IsContent r → IsContent p → IsContent l → IsContent q
    → IsDocument (codes "svg") ((((head height ++ t ++ r) ++ p) ++ l) ++ (q ++ codes "</svg>\n"))
document height t r p l q ts rs ps ls qs =
    let inside : List (List ℕ) = ground ∷ t ∷ r ∷ p ∷ l ∷ q ∷ [] in
    let within : IsContent (together inside) = parts-content inside (ground-content, (ts, (rs, (ps, (ls, (qs, tt)))))) in
    let text : ((((head height ++ t ++ r) ++ p) ++ l) ++ (q ++ codes "</svg>\n")) ≡ element_then (codes "svg") (head_attributes height) inside (codes "\n") =
    regrouped (head height) t r p l q (codes "</svg>\n") ∙ then-together (head_parts height) (t ++ (r ++ (p ++ (l ++ (q ++ codes "</svg>\n"))))) in
    record {
      root = element_then (codes "svg") (head_attributes height) inside [];
      is_element = whole-element (codes "svg") (head_attributes height) refl (head-sound height) inside within;
      line = text ∙ sym (then-rest (codes "svg") (head_attributes height) refl (head-sound height) inside (codes "\n"));
    }

module _ {D : ℕ} (choice : Choice) (s : ShadowLists D) where
  on-axes : (axes : Axes) → IsDocument (codes "svg") (picture_on choice s axes)
  on-axes axes =
      let f : Frame = frame_of s axes in
      let rows : List LevelRow = rows_of axes s in
      document (height_of f.top (problems_of s)) (title (length s.rows) s.capacity axes) (ranges_text f) (plot_text choice s f rows) (legend_text f.top s.capacity rows (leaves_out choice rows))
      (problems_text f (problems_start f.top) s.nodes (problems_of s)) (title-content (length s.rows) s.capacity axes) (ranges-content f)
      (flat-content (level_text f s.nodes) (level-content f s.nodes) (levels_of choice rows)) (legend-content f.top s.capacity rows (leaves_out choice rows))
      (problems-content f s.nodes (problems_of s) (problems_start f.top))

  on-some : (axes : Option Axes) → IfSome (option_map (picture_on choice s) axes) (λ text. IsDocument (codes "svg") text)
  on-some None = tt
  on-some (Some axes) = on-axes axes

pub well-formed : PictureIsWellFormed
well-formed D choice s = on-some choice s (axes_of choice D)
