-- The boxes at some positions of a list, and the boxes around them.
use Rattle.std.specs.Prelude.{◌≡◌, ℕ, ◌+◌, ◌<◌, List, length, map, take, drop, slice_index_or}
use Rattle.rt_box.specs.declared.interval.Interval.{Interval}
use Rattle.rt_box.specs.Boxes.{box_at}
use Rattle.rt_box.specs.Hull.{hull}

-- the boxes at the positions, in their order
abbrev pub boxes_at : List (List Interval) → List ℕ → List (List Interval)
boxes_at boxes positions = map (box_at boxes) positions

-- at each place the hull of the boxes in the order up to that place, that one included; or from that place on
abbrev pub AreFronts : List (List Interval) → List ℕ → List (List Interval) → Type 0
AreFronts boxes order hulls = (place : ℕ) (d : List Interval) → place < length order →
    slice_index_or hulls place d ≡ hull (boxes_at boxes (take (place + 1) order))

abbrev pub AreBacks : List (List Interval) → List ℕ → List (List Interval) → Type 0
AreBacks boxes order hulls = (place : ℕ) (d : List Interval) → place < length order →
    slice_index_or hulls place d ≡ hull (boxes_at boxes (drop place order))
