-- ChooseSubtree: the cell of a node that a new box goes into
-- (Beckmann, Kriegel, Schneider, Seeger 1990, section 4.1).
use Rattle.std.specs.Prelude.{ℕ, ◌-◌, Bool, true, false, List, [], ◌∷◌, length, sum_by}
use Rattle.std.specs.List.{remove}
use Rattle.rt_box.specs.declared.interval.Interval.{Interval}
use Rattle.rt_box.specs.Rect.{area, overlap, union_box}
use Rattle.rt_box.specs.Keys.{IsLeast}
use Rattle.rt_box.specs.Boxes.{box_at}

-- by how much the area of a box grows if it is widened to hold the new one
abbrev pub area_enlargement : List Interval → List Interval → ℕ
area_enlargement box new = area (union_box box new) - area box

-- the overlap of a cell, were this its box: the areas that it has in common with the other cells of the node
abbrev pub overlap_with_others : List (List Interval) → ℕ → List Interval → ℕ
overlap_with_others boxes position box = sum_by (overlap box) (remove boxes position)

-- by how much the overlap of a cell grows if its box is widened to hold the new one
abbrev pub overlap_enlargement : List (List Interval) → List Interval → ℕ → ℕ
overlap_enlargement boxes new position =
    overlap_with_others boxes position (union_box (box_at boxes position) new)
    - overlap_with_others boxes position (box_at boxes position)

-- what the cells are compared by: if the children are leaves, first the overlap enlargement; then the
-- area enlargement, and then the area. Of equal cells the one at the lowest position is taken (own)
abbrev pub child_key : Bool → List (List Interval) → List Interval → ℕ → List ℕ
child_key true boxes new position =
    overlap_enlargement boxes new position
    ∷ area_enlargement (box_at boxes position) new ∷ area (box_at boxes position) ∷ position ∷ []
child_key false boxes new position =
    area_enlargement (box_at boxes position) new ∷ area (box_at boxes position) ∷ position ∷ []

-- the position of the cell with the least key
abbrev pub IsBestChild : Bool → List (List Interval) → List Interval → ℕ → Type 0
IsBestChild above_leaves boxes new best = IsLeast (child_key above_leaves boxes new) 0 (length boxes) best
