-- The legend of a picture (own): a line for each level.
use Rattle.std.specs.Prelude.{ℕ, ◌+◌, ◌-◌, ◌*◌, ◌/◌, ◌^◌, min, Bool, List, [], ◌∷◌, ◌++◌, codes, decimal, ◌==◌, if◌then◌else◌}
use Rattle.std.specs.List.{flat_map}
use Rattle.rt_check_draw.specs.declared.levels.LevelRow.{LevelRow}
use Rattle.rt_check_draw.specs.Text.{together}
use Rattle.rt_check_draw.specs.Boxes.{hue_of}

-- where the line stands that is `line` lines below the legend's head
abbrev pub line_at : ℕ → ℕ
line_at line = 89000 + 1800 * line

-- how many hundredths of the whole the part is; 0 if the whole is nothing
abbrev pub percent_of : ℕ → ℕ → ℕ
percent_of part whole = if whole == 0 then 0 else min (part * 100) (2 ^ 128 - 1) / whole

abbrev pub row_start : ℕ → ℕ → List ℕ
row_start hue y =
    together (codes "<text text-anchor=\"end\" fill=\"hsl(" ∷ decimal hue ∷ codes ",70%,30%)\" y=\"" ∷ decimal y ∷ codes "\">" ∷ [])

abbrev pub row_counts : LevelRow → List ℕ
row_counts row =
    together (codes "<tspan x=\"14000\">" ∷ decimal row.level ∷ codes "</tspan><tspan x=\"26000\">" ∷ decimal row.nodes
    ∷ codes "</tspan><tspan x=\"42000\">" ∷ decimal row.cells ∷ [])

abbrev pub row_shares : ℕ → ℕ → List ℕ
row_shares fill overlap =
    together (codes "</tspan><tspan x=\"56000\">" ∷ decimal fill ∷ codes " %</tspan><tspan x=\"76000\">" ∷ decimal overlap ∷ codes " %</tspan></text>\n" ∷ [])

-- a level's nodes and cells, its mean fill in per cent of the capacity, and the overlap in per cent of the area
abbrev pub row_text : ℕ → ℕ → LevelRow → List ℕ
row_text top capacity row =
    row_start (hue_of row.level) (line_at (1 + (top - row.level))) ++ row_counts row ++ row_shares (percent_of row.cells (row.nodes * capacity)) (percent_of row.shared row.area)

abbrev pub legend_head : List ℕ
legend_head =
    together (codes "<text text-anchor=\"end\" y=\"89000\"><tspan x=\"14000\">level</tspan><tspan x=\"26000\">nodes</tspan>"
    ∷ codes "<tspan x=\"42000\">cells</tspan><tspan x=\"56000\">mean fill</tspan><tspan x=\"76000\">overlap of siblings</tspan></text>\n" ∷ [])

-- that the leaves' cells are left out
abbrev pub note_text : ℕ → List ℕ
note_text top =
    together (codes "<text x=\"10000\" y=\"" ∷ decimal (line_at (2 + top))
    ∷ codes "\">More than 20000 boxes: the cells of the leaves are left out (--all draws them)</text>\n" ∷ [])

abbrev pub note_if : Bool → ℕ → List ℕ
note_if out top = if out then note_text top else []

-- a head, a line for each level, and whether the leaves' cells are left out
abbrev pub legend_text : ℕ → ℕ → List LevelRow → Bool → List ℕ
legend_text top capacity rows out = legend_head ++ flat_map (row_text top capacity) rows ++ note_if out top
