-- What a legend says of a level, and which levels are drawn (own).
use Rattle.std.specs.Prelude.{ℕ, zero, suc, ◌+◌, ◌-◌, ◌*◌, ◌^◌, min, Bool, not, ◌&&◌, List, [], ◌∷◌, length, take, map, filter, fold, nat_le, nat_lt, ◌==◌, Option, None, Some}
use Rattle.rt_check.specs.declared.node.NodeRow.{NodeRow}
use Rattle.rt_check.specs.declared.node.RawCell.{RawCell}
use Rattle.rt_check.specs.Shadow.{ShadowLists}
use Rattle.rt_check_draw.specs.declared.choice.Axes.{Axes}
use Rattle.rt_check_draw.specs.declared.choice.Choice.{Choice}
use Rattle.rt_check_draw.specs.declared.levels.LevelRow.{LevelRow}
use Rattle.rt_check_draw.specs.Scale.{common_part, length_of, ends_of, top_of}
use Rattle.rt_check_draw.specs.Boxes.{nodes_on}

-- a sum of 64 or of 128 bits stops at the greatest number
abbrev pub plus64 : ℕ → ℕ → ℕ
plus64 a b = min (a + b) (2 ^ 64 - 1)

abbrev pub plus128 : ℕ → ℕ → ℕ
plus128 a b = min (a + b) (2 ^ 128 - 1)

module _ {D : ℕ} where
  -- what two cells have in common on an axis
  abbrev pub common_length : RawCell D → RawCell D → ℕ → ℕ
  common_length a b axis = length_of (common_part (ends_of a axis) (ends_of b axis))

  abbrev pub height_shared : RawCell D → RawCell D → Option ℕ → ℕ
  height_shared a b None = 1
  height_shared a b (Some axis) = common_length a b axis

  -- the area that two cells have in common, on the axes that are drawn
  abbrev pub shared_area : Axes → RawCell D → RawCell D → ℕ
  shared_area axes a b = common_length a b axes.across * height_shared a b axes.up

  -- the areas that a cell has in common with others
  abbrev pub shared_with : Axes → RawCell D → List (RawCell D) → ℕ
  shared_with axes cell others = fold (λ area other. plus128 area (shared_area axes cell other)) 0 others

  -- the areas that two of the cells have in common
  abbrev pub shared_from : Axes → ℕ → List (RawCell D) → ℕ
  shared_from axes area [] = area
  shared_from axes area (cell ∷ others) = shared_from axes (plus128 area (shared_with axes cell others)) others

  -- the areas of cells
  abbrev pub area_of : Axes → List (RawCell D) → ℕ
  area_of axes cells = fold (λ area cell. plus128 area (shared_area axes cell cell)) 0 cells

  -- a level with one node more: of its cells as many as a node may have are compared
  abbrev pub with_node : Axes → ℕ → LevelRow → NodeRow D → LevelRow
  with_node axes capacity row node = record {
    level = row.level;
    nodes = plus64 row.nodes 1;
    cells = plus64 row.cells (length node.cells);
    area = plus128 row.area (area_of axes node.cells);
    shared = plus128 row.shared (shared_from axes 0 (take (min (length node.cells) capacity) node.cells));
  }

  -- what is said of a level
  abbrev pub row_of : Axes → ShadowLists D → ℕ → LevelRow
  row_of axes s level =
      fold (with_node axes s.capacity) (record { level = level; nodes = 0; cells = 0; area = 0; shared = 0 }) (nodes_on level s.nodes)

-- the numbers from n down to 0
abbrev pub down_from : ℕ → List ℕ
down_from zero = 0 ∷ []
down_from (suc n) = suc n ∷ down_from n

module _ {D : ℕ} where
  -- the legend's rows, from the highest level down
  abbrev pub rows_of : Axes → ShadowLists D → List LevelRow
  rows_of axes s = map (row_of axes s) (down_from (top_of s.nodes))

-- how many boxes are drawn at most, unless all are asked for
abbrev pub most_boxes : ℕ
most_boxes = 20000

-- the level is asked for
abbrev pub has_level : Choice → ℕ → Bool
has_level choice level = nat_le choice.lowest level && nat_le level choice.highest

-- how many cells the levels have that are asked for
abbrev pub boxes_of : Choice → List LevelRow → ℕ
boxes_of choice rows = fold (λ boxes row. plus64 boxes row.cells) 0 (filter (λ row. has_level choice row.level) rows)

-- the leaves' cells are asked for, and left out since there are many boxes
abbrev pub leaves_out : Choice → List LevelRow → Bool
leaves_out choice rows = not choice.all && has_level choice 0 && nat_lt most_boxes (boxes_of choice rows)

-- the level is drawn
abbrev pub is_drawn : Choice → List LevelRow → ℕ → Bool
is_drawn choice rows level = has_level choice level && not (leaves_out choice rows && (level == 0))

-- the levels that are drawn, from the highest down
abbrev pub levels_of : Choice → List LevelRow → List ℕ
levels_of choice rows = map (λ row. row.level) (filter (λ row. is_drawn choice rows row.level) rows)
