-- What a cell costs that takes in a new box, as numbers that are compared from the first on.
use Rattle.std.specs.Prelude.{◌≡◌, ◌⊎◌, ℕ, ◌+◌, ◌<◌, ◌≤◌, Bool, true, false, List, [], ◌∷◌, sum_by, All}
use Rattle.rt_box.specs.declared.interval.Interval.{Interval}
use Rattle.rt_box.specs.Rect.{area, overlap}
use Rattle.rt_tree_subtree.specs.declared.plane.Growth.{Growth}
use Rattle.rt_tree_subtree.specs.declared.subtree.Cost.{Cost}
use Rattle.rt_box.specs.Boxes.{box_at}
use Rattle.rt_tree_subtree.specs.Subtree.{overlap_enlargement, area_enlargement}

abbrev pub numbers : Cost → List ℕ
numbers c = c.overlap ∷ c.enlargement ∷ c.area ∷ []

-- a cell's costs: the overlap counts above the leaves alone
abbrev pub overlap_cost : Bool → List (List Interval) → List Interval → ℕ → ℕ
overlap_cost true boxes new position = overlap_enlargement boxes new position
overlap_cost false boxes new position = 0

abbrev pub costs : Bool → List (List Interval) → List Interval → ℕ → List ℕ
costs above_leaves boxes new position =
    overlap_cost above_leaves boxes new position
    ∷ area_enlargement (box_at boxes position) new ∷ area (box_at boxes position) ∷ []

-- the areas that a box has in common with others grow by this much in all, which is within the limit
abbrev pub IsGrowthWithin : List (List Interval) → List Interval → List Interval → ℕ → ℕ → Type 0
IsGrowthWithin others own widened limit growth =
    (growth ≤ limit) × (growth + sum_by (overlap own) others ≡ sum_by (overlap widened) others)

-- what a cell's area costs: by how much it grows, and how large it is
abbrev pub growth_numbers : Growth → List ℕ
growth_numbers g = g.enlargement ∷ g.area ∷ []

abbrev pub growths : List (List Interval) → List Interval → ℕ → List ℕ
growths boxes new position = area_enlargement (box_at boxes position) new ∷ area (box_at boxes position) ∷ []

-- the new box has an area, or each cell has one: then a cell that doesn't hold the new box grows
abbrev pub HoldersStay : List (List Interval) → List Interval → Type 0
HoldersStay boxes new = (0 < area new) ⊎ All (λ cell. 0 < area cell) boxes
